-- How a table's commits, its state and its parts go on behind a new entry.
use Rattle.std.proofs.Common.{◌≡◌, ◌⊎◌, inl, inr, ℕ, ◌+◌, ◌<◌, ◌^◌, List, [], ◌∷◌, ◌++◌, length, get_or, map, refl, sym, ap, subst, ◌∙◌, arith, length-append}
use Rattle.std.specs.Int.{w32, to_le_bytes}
use Rattle.std.specs.List.{All}
use Rattle.std.proofs.lemmas.List.{map_push}
use Rattle.std.proofs.lemmas.List.Elements.{All-nil, All-cons, All-push, Contains-get_or}
use Rattle.chv_site.specs.declared.file_id.FileId.{FileId}
use Rattle.chv_site.specs.FileIds.{part_of}
use Rattle.chv_commit.specs.Commits.{commit_spelling, IsCommit, AreWords}
use Rattle.chv_commit.specs.Replays.{State, Span, span_of, AreRuns, added}
use Rattle.chv_commit.specs.declared.commit.Commit.{Commit}
use Rattle.chv_commit.specs.declared.commit.Commit.TheVariants.{Add}
use Rattle.chv_commit.specs.declared.part_row.PartRow.{PartRow}
use Rattle.chv_commit.proofs.CommitLemmas.{length-commit_spelling_add}
use Rattle.chv_commit.proofs.RunLemmas.{AreRuns-within}
use Rattle.chv_gate.specs.GateLog.{CLOSED, IsPayload, body, frame_of}
use Rattle.chv_part.specs.Books.{TableForm, Entry, Book, IsEntry, ids_of, appended, part_rows}
use Rattle.chv_part.specs.Parts.{IsPartFile}
use Rattle.chv_part.specs.Standing.{Describes, IsPart}
use Rattle.chv_part.proofs.BookRowLemmas.{part_rows-older, part_rows-newest}
use Rattle.chv_sip.specs.declared.block_id.BlockId.{BlockId}
use Rattle.chv_sip.specs.BlockIds.{last_ids}
use Rattle.chv_sip.proofs.LastIds.{last_ids-last_ids}
use Rattle.chv_types.specs.declared.value.Value.{Value}
use Rattle.chv_table.specs.Delivering.{Brings, state_after}
use Rattle.chv_table.specs.Tables.{held_form, held_state}
use Rattle.chv_table.specs.Turning.{IsNewPart, IsOldPart}
use Rattle.chv_table.specs.declared.table.Delivered.TheVariants.{Written}
use Rattle.chv_table.specs.declared.table.Table.{Table}

-- the commit of one new entry
abbrev pub commit_of : ℕ → ℕ → BlockId → Commit
commit_of part rows id = Add part rows (id ∷ [])

-- it is a commit, and its payload has 37 bytes
pub IsCommit-commit_of : (part rows : ℕ) (id : BlockId) → part < 2 ^ 64 → rows < 2 ^ 64 → AreWords id → IsCommit (commit_of part rows id)
IsCommit-commit_of part rows id small few words = (small, few, omega arith, omega arith, All-cons AreWords id [] words (All-nil AreWords))

pub IsPayload-commit_of : (part rows : ℕ) (id : BlockId) → IsPayload (commit_spelling (commit_of part rows id))
IsPayload-commit_of part rows id =
    let size = length-commit_spelling_add part rows (id ∷ []) in
    record { some = omega (arith, size); most = omega (arith, size) }

-- its frame: the number 37 in four bytes, the payload, and a closed gate
pub frame_of-commit_of : (part rows : ℕ) (id : BlockId) → to_le_bytes w32 37 ++ commit_spelling (commit_of part rows id) ++ CLOSED ∷ [] ≡ frame_of (commit_spelling (commit_of part rows id))
unfolding body
frame_of-commit_of part rows id = refl

-- what is said of a book goes on
pub Describes-added : (window part rows : ℕ) (id : BlockId) (entry : Entry) (state : State) (book : Book) → id ≡ entry.id → Describes window state book
    → Describes window (added window part rows (id ∷ []) state) (appended entry book)
Describes-added window part rows id entry state book id_is was =
    let row : PartRow = record { lo = state.entries + 1; hi = state.entries + 1; level = 0; part = part; rows = rows } in
    let last : Span = record { lo = length book.entries + 1; hi = length book.entries + 1; level = 0 } in
    record {
      entries = omega (arith, was.entries, length-append book.entries (entry ∷ []));
      ids = ap (λ (ids : List BlockId). last_ids window (ids ++ id ∷ [])) was.ids
          ∙ last_ids-last_ids window (ids_of book) (id ∷ [])
          ∙ ap (λ (i : BlockId). last_ids window (ids_of book ++ i ∷ [])) id_is
          ∙ ap (last_ids window) (sym (map_push (λ (e : Entry). e.id) book.entries entry));
      layout = ap (λ (spans : List Span). spans ++ last ∷ []) was.layout
          ∙ ap (λ (n : ℕ). map span_of state.layout ++ record { lo = n + 1; hi = n + 1; level = 0 } ∷ []) (sym was.entries)
          ∙ sym (map_push span_of state.layout row);
    }

-- the older parts have the rows that they had, and the new one has those of the new entry
pub parts-added : (table : Table) (rows : ℕ) (id : BlockId) (entry : Entry) (book : Book) (encoded : List ℕ) → Brings table id rows encoded entry → Describes (held_form table).window (held_state table) book
    → AreRuns 1 (length book.entries) book.layout
    → All (λ (row : PartRow). IsNewPart table (appended entry book) encoded row ⊎ IsOldPart table book (appended entry book) row) (state_after Written table rows id).layout
parts-added table rows id entry book encoded brings describes runs =
    let form = held_form table in
    let state = held_state table in
    let row : PartRow = record { lo = state.entries + 1; hi = state.entries + 1; level = 0; part = state.next_part; rows = rows } in
    let within = AreRuns-within 1 (length book.entries) state.layout (subst (λ (spans : List Span). AreRuns 1 (length book.entries) spans) describes.layout runs) in
    let newest : part_rows form (appended entry book) row.lo row.hi ≡ entry.rows =
    ap (λ (n : ℕ). part_rows form (appended entry book) (n + 1) (n + 1)) describes.entries ∙ part_rows-newest form entry book brings.lawful in
    All-push (λ (r : PartRow). IsNewPart table (appended entry book) encoded r ⊎ IsOldPart table book (appended entry book) r) state.layout row
    (λ k d below.
    let older : PartRow = get_or state.layout k d in
    inr (record { was = Contains-get_or state.layout k d below; same = part_rows-older form entry book older.lo older.hi (within k d below).2 }))
    (inl (record {
      part_is = refl;
      counted = brings.rows_are ∙ ap length (sym newest);
      file = subst (λ (read : List (List Value)). IsPartFile form read encoded) (sym newest) brings.encoded_is;
    }))
