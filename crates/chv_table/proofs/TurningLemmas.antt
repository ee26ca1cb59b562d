-- What one commit with a new part makes of its table, and what a crash until then leaves.
use Rattle.std.proofs.Common.{◌≡◌, ◌≢◌, ◌⊎◌, inl, inr, ℕ, ◌<◌, ◌≤◌, List, [], ◌∷◌, ◌++◌, length, get_or, map, Some, refl, sym, ap, subst, ◌∙◌, arith}
use Rattle.std.specs.Bool.{⊤}
use Rattle.std.specs.List.{All}
use Rattle.std.proofs.lemmas.List.{map_push}
use Rattle.std.proofs.lemmas.List.Elements.{All-contains, All-push}
use Rattle.chv_site.specs.declared.file_id.FileId.{FileId}
use Rattle.chv_site.specs.FileIds.{part_of}
use Rattle.chv_site.specs.Files.{FileState, settled, KeepsOthers}
use Rattle.chv_site.specs.Images.{Image, IsFileImage}
use Rattle.chv_site.specs.During.{During}
use Rattle.chv_site.specs.Outside.{Outside}
use Rattle.chv_site.proofs.Images.{settled_image}
use Rattle.chv_site.proofs.Moments.{weakened, goes_on}
use Rattle.chv_commit.specs.Commits.{commit_spelling, IsCommit}
use Rattle.chv_commit.specs.Replays.{State, no_state, replayed}
use Rattle.chv_commit.specs.declared.commit.Commit.{Commit}
use Rattle.chv_commit.specs.declared.part_row.PartRow.{PartRow}
use Rattle.chv_commit.proofs.ReplayLemmas.{replayed-more}
use Rattle.chv_gate.specs.declared.log.Log.{Log}
use Rattle.chv_gate.specs.Crashes.{AsImages, IsLeftWith, Leaves, HasFramesOrMore}
use Rattle.chv_gate.specs.GateLog.{HasFrames, IsReady, IsPayload, frame_of}
use Rattle.chv_gate.proofs.CrashLemmas.{ready_image}
use Rattle.chv_part.specs.Books.{Book, part_rows}
use Rattle.chv_part.specs.Parts.{IsPartFile}
use Rattle.chv_part.specs.Standing.{IsPart, TableStands}
use Rattle.chv_types.specs.declared.value.Value.{Value}
use Rattle.chv_table.specs.Delivering.{DeliveryLeft}
use Rattle.chv_table.specs.Tables.{IsWithin, HoldsCommits, HoldsBook, IsSettledPart, held_form, held_state}
use Rattle.chv_table.specs.Turning.{Fits, Becomes, noted}
use Rattle.chv_table.specs.declared.table.Table.{Table}
use Rattle.chv_table.proofs.TableLemmas.{AreNumbered, HoldsBook-numbered, IsPart-by, IsSettledPart-by, parts_left, book_left}

-- an append of these bytes to a log makes it ready behind one payload more
abbrev pub Appends : List ℕ → Log → Log → FileState → FileState → Type 0
Appends bytes log end old new =
    (payloads : List (List ℕ)) (payload : List ℕ) → IsReady log.gate payloads old → IsPayload payload → bytes ≡ frame_of payload → IsReady end.gate (payloads ++ payload ∷ []) new

module _ (table : Table) (commit : Commit) (state : State) (part : FileId) (within : IsWithin table) (part_is : part ≡ part_of table.number table.replay.state.next_part) (fits : Fits table commit state) where
  abbrev payload : List ℕ
  payload = commit_spelling commit

  apart : (p : ℕ) → 8 ≤ p → part_of table.number p ≢ table.log.file
  apart p low same = let e : p ≡ 0 = ap (λ (f : FileId). f.part) (same ∙ within.log) in omega (arith, low, e)

  first : 8 ≤ table.replay.state.next_part
  first = within.sound.next

  log_apart : table.log.file ≢ part
  log_apart same = apart table.replay.state.next_part first (sym (same ∙ part_is))

  old_apart : (p : ℕ) → p < table.replay.state.next_part → part_of table.number p ≢ part
  old_apart p high same = let e : p ≡ table.replay.state.next_part = ap (λ (f : FileId). f.part) (same ∙ part_is) in omega (arith, high, e)

  elsewhere : (f : FileId) → f.table ≢ table.number → f ≢ part
  elsewhere f other same = other (ap (λ (g : FileId). g.table) (same ∙ part_is))

  -- the commits of its log, and one more
  module _ (files : FileId → FileState) (commits : List Commit) (held : HoldsCommits table files commits) where
    replays : replayed table.replay.window no_state (commits ++ commit ∷ []) ≡ Some state
    replays = replayed-more table.replay.window no_state (held_state table) state commits commit held.replays fits.taken_is

    right : All IsCommit (commits ++ commit ∷ [])
    right = All-push IsCommit commits commit held.right fits.right

    payloads : map commit_spelling (commits ++ commit ∷ []) ≡ map commit_spelling commits ++ payload ∷ []
    payloads = map_push commit_spelling commits commit

    -- its log is ready still once its part is written
    ready : (between : FileId → FileState) → KeepsOthers part files between → IsReady table.log.gate (map commit_spelling commits) (between table.log.file)
    ready between kept = subst (λ (s : FileState). IsReady table.log.gate (map commit_spelling commits) s) (sym (kept table.log.file log_apart)) held.log

    -- once its commit is appended, the table holds it too
    pub turned_commits : (between after : FileId → FileState) (log : Log) (bytes : List ℕ) → KeepsOthers part files between → log.file ≡ table.log.file → bytes ≡ frame_of payload
        → Appends bytes table.log log (between table.log.file) (after table.log.file) → HoldsCommits (noted state (record table { log = log })) after (commits ++ commit ∷ [])
    turned_commits between after log bytes kept file frame_is append = record {
      right = right;
      log = subst (λ (ps : List (List ℕ)). IsReady log.gate ps (after log.file)) (sym payloads)
          (subst (λ (f : FileId). IsReady log.gate (map commit_spelling commits ++ payload ∷ []) (after f)) (sym file)
          (append (map commit_spelling commits) payload (ready between kept) fits.payload frame_is));
      replays = replays;
    }

  -- the book of its table, and the next
  module _ (files : FileId → FileState) (old new : Book) (encoded : List ℕ) (held : HoldsBook table files old) (becomes : Becomes table old new commit state encoded) where
    numbered : AreNumbered table.replay.state.next_part table.replay.state.layout
    numbered = HoldsBook-numbered table files old held

    -- the live parts hold the rows of their entries behind it, where they did before and the new one is written
    parts_turned : (read : Image) → All (IsPart read table.number (held_form table) old) table.replay.state.layout → read (part_of table.number table.replay.state.next_part) ≡ encoded
        → All (IsPart read table.number (held_form table) new) state.layout
    parts_turned read parts is = λ k d inside.
        let form = held_form table in
        let row : PartRow = get_or state.layout k d in
        let rows : List (List Value) = part_rows form new row.lo row.hi in
        elim (becomes.parts k d inside) as (λ _. IsPart read table.number form new row) [
          | inl made ↦ record {
            counted = made.counted;
            file = subst (λ (p : ℕ). IsPartFile form rows (read (part_of table.number p))) (sym made.part_is) (subst (IsPartFile form rows) (sym is) made.file);
          }
          | inr stays ↦
              let was : IsPart read table.number form old row = All-contains (IsPart read table.number form old) table.replay.state.layout row parts stays.was in
              record {
                counted = was.counted ∙ ap length (sym stays.same);
                file = subst (λ (r : List (List Value)). IsPartFile form r (read (part_of table.number row.part))) (sym stays.same) was.file;
              }
        ]

    -- and nothing is pending of them
    settled_turned : (after : FileId → FileState) → All (IsSettledPart after table.number) table.replay.state.layout → after (part_of table.number table.replay.state.next_part) ≡ settled encoded
        → All (IsSettledPart after table.number) state.layout
    settled_turned after parts is = λ k d inside.
        let row : PartRow = get_or state.layout k d in
        elim (becomes.parts k d inside) as (λ _. IsSettledPart after table.number row) [
          | inl made ↦
              let at : after (part_of table.number row.part) ≡ settled encoded = ap (λ (p : ℕ). after (part_of table.number p)) made.part_is ∙ is in
              at ∙ ap (λ (s : FileState). settled s.bytes) (sym at)
          | inr stays ↦ All-contains (IsSettledPart after table.number) table.replay.state.layout row parts stays.was
        ]

    -- the new part may be torn
    written_left : (said : List ℕ) (image : Image) (text : List ℕ) → IsLeftWith part (λ bytes. ⊤) files said image text → DeliveryLeft table old new files said image text
    written_left said image text left = record {
      others = λ f other. left.0 f (elsewhere f other);
      stands = inl (book_left table files image old within held
          (ready_image table.log.gate (map commit_spelling held.commits) (files table.log.file) held.holds.log (image table.log.file) (left.0 table.log.file log_apart))
          (λ p low high. left.0 (part_of table.number p) (old_apart p high)));
      text_left = left.2;
    }

    -- once the new part is written
    module _ (between : FileId → FileState) (kept : KeepsOthers part files between) (written : between part ≡ settled encoded) where
      new_part : between (part_of table.number table.replay.state.next_part) ≡ settled encoded
      new_part = ap between (sym part_is) ∙ written

      old_parts : (image : Image) → AsImages table.log.file between image → (p : ℕ) → 8 ≤ p → p < table.replay.state.next_part → IsFileImage (files (part_of table.number p)) (image (part_of table.number p))
      old_parts image others p low high =
          let f : FileId = part_of table.number p in
          subst (λ (s : FileState). IsFileImage s (image f)) (kept f (old_apart p high)) (others f (apart p low))

      -- the table stands for the next book where its commit is in the log
      next_left : (image : Image) → HasFrames (map commit_spelling held.commits ++ payload ∷ []) (image table.log.file) → AsImages table.log.file between image
          → TableStands image table.number (held_form table) new
      next_left image frames others =
          let f : FileId = part_of table.number table.replay.state.next_part in
          let left : image f ≡ encoded = settled_image encoded (image f) (subst (λ (s : FileState). IsFileImage s (image f)) new_part (others f (apart table.replay.state.next_part first))) in
          record {
            lawful = becomes.lawful;
            live = table.log.file;
            live_is = within.log;
            commits = held.commits ++ commit ∷ [];
            right = right files held.commits held.holds;
            log = subst (λ (ps : List (List ℕ)). HasFrames ps (image table.log.file)) (sym (payloads files held.commits held.holds)) frames;
            state = state;
            replays = replays files held.commits held.holds;
            describes = becomes.describes;
            parts = parts_turned image
                (parts_left table.number table.replay.state.next_part table.replay.state.layout numbered files image (held_form table) old (old_parts image others) held.settled_parts held.parts)
                left;
          }

      -- the commit may be in the log or not
      committed_left : (said : List ℕ) (image : Image) (text : List ℕ) → IsLeftWith table.log.file (HasFramesOrMore (map commit_spelling held.commits) payload) between said image text
          → DeliveryLeft table old new files said image text
      committed_left said image text left = record {
        others = λ f other. subst (λ (s : FileState). IsFileImage s (image f)) (kept f (elsewhere f other))
            (left.0 f (λ same. other (ap (λ (g : FileId). g.table) (same ∙ within.log))));
        stands = elim left.1 as (λ _. TableStands image table.number (held_form table) old ⊎ TableStands image table.number (held_form table) new) [
          | inl frames ↦ inl (book_left table files image old within held frames (old_parts image left.0))
          | inr frames ↦ inr (next_left image frames left.0)
        ];
        text_left = left.2;
      }

      -- and once its commit is appended, the table holds the next book
      pub turned_book : (after : FileId → FileState) (log : Log) (bytes : List ℕ) → KeepsOthers table.log.file between after → log.file ≡ table.log.file → bytes ≡ frame_of payload
          → Appends bytes table.log log (between table.log.file) (after table.log.file) → HoldsBook (noted state (record table { log = log })) after new
      turned_book after log bytes others file frame_is append =
          let f : FileId = part_of table.number table.replay.state.next_part in
          let old_part : (p : ℕ) → 8 ≤ p → p < table.replay.state.next_part → after (part_of table.number p) ≡ files (part_of table.number p) =
          λ p low high. others (part_of table.number p) (apart p low) ∙ kept (part_of table.number p) (old_apart p high) in
          let last : after f ≡ settled encoded = others f (apart table.replay.state.next_part first) ∙ new_part in
          record {
            lawful = becomes.lawful;
            commits = held.commits ++ commit ∷ [];
            holds = turned_commits files held.commits held.holds between after log bytes kept file frame_is append;
            describes = becomes.describes;
            parts = parts_turned (λ g. (after g).bytes)
                (IsPart-by table.number table.replay.state.next_part table.replay.state.layout numbered (λ g. (files g).bytes) (λ g. (after g).bytes) (held_form table) old
                (λ p low high. ap (λ (s : FileState). s.bytes) (old_part p low high)) held.parts)
                (ap (λ (s : FileState). s.bytes) last);
            settled_parts = settled_turned after (IsSettledPart-by table.number table.replay.state.next_part table.replay.state.layout numbered files after old_part held.settled_parts) last;
          }

  -- the calls of a commit, one after the other
  module _ (start : Outside) (old new : Book) (encoded : List ℕ) (held : HoldsBook table start.files old) (becomes : Becomes table old new commit state encoded) where
    -- whatever a crash from the start on leaves stands for the book before the commit or after it
    abbrev IsTurning : Outside → Type 0
    IsTurning now = During start now (DeliveryLeft table old new start.files start.said)

    -- the part is written
    pub during_part : (mid : Outside) → Leaves part (λ bytes. ⊤) start mid → IsTurning mid
    during_part mid writing =
        weakened start mid (IsLeftWith part (λ bytes. ⊤) start.files start.said) (DeliveryLeft table old new start.files start.said) writing
        (written_left start.files old new encoded held becomes start.said)

    -- and then the commit is appended
    pub during_commit : (mid end : Outside) (bytes : List ℕ) → Leaves part (λ bytes. ⊤) start mid → KeepsOthers part start.files mid.files → mid.files part ≡ settled encoded → mid.said ≡ start.said
        → bytes ≡ frame_of payload
        → ((payloads : List (List ℕ)) (payload : List ℕ) → IsReady table.log.gate payloads (mid.files table.log.file) → IsPayload payload → bytes ≡ frame_of payload
        → Leaves table.log.file (HasFramesOrMore payloads payload) mid end)
        → IsTurning end
    during_commit mid end bytes writing kept written same frame_is appending =
        let before = map commit_spelling held.commits in
        goes_on start mid end (DeliveryLeft table old new start.files start.said)
        (IsLeftWith table.log.file (HasFramesOrMore before payload) mid.files mid.said)
        (during_part mid writing)
        (appending before payload (ready start.files held.commits held.holds mid.files kept) fits.payload frame_is)
        (λ image text left. committed_left start.files old new encoded held becomes mid.files kept written start.said image text (left.0, left.1, left.2 ∙ same))
