-- What a merge makes of its table's book, and what the discards behind it leave.
use Rattle.std.proofs.Common.{◌≡◌, ◌≢◌, ◌⊎◌, inl, inr, ℕ, ◌+◌, ◌-◌, ◌≤◌, ◌<◌, ◌^◌, max, List, [], ◌∷◌, ◌++◌, length, get_or, map, take, drop, slice_range, Option, None, Some, Ok, refl, sym, ap, subst, ◌∙◌, arith}
use Rattle.std.specs.Int.{w32, to_le_bytes}
use Rattle.std.specs.List.{All, Contains}
use Rattle.std.proofs.lemmas.List.{get_or-map, length-map}
use Rattle.std.proofs.lemmas.List.Elements.{All-append, All-cons, All-nil, All-contains_itself, All-drop, All-head, All-tail, All-take, All-weaker}
use Rattle.chv_site.specs.declared.file_id.FileId.{FileId}
use Rattle.chv_site.specs.FileIds.{part_of}
use Rattle.chv_site.specs.Files.{FileState, settled, KeepsFiles}
use Rattle.chv_site.specs.Images.{Image, IsFileImage, IsLeft}
use Rattle.chv_site.specs.During.{During}
use Rattle.chv_site.specs.Outside.{Outside}
use Rattle.chv_site.proofs.Images.{settled_image}
use Rattle.chv_site.proofs.Moments.{started, weakened, goes_on}
use Rattle.chv_commit.specs.Commits.{commit_spelling, IsCommit}
use Rattle.chv_commit.specs.Replays.{State, Span, span_of, IsSound, Merges, merge_of, taken}
use Rattle.chv_commit.specs.declared.part_row.PartRow.{PartRow}
use Rattle.chv_commit.proofs.CommitLemmas.{length-commit_spelling_merge}
use Rattle.chv_commit.proofs.SoundLemmas.{IsJoined-apart, IsSound-merged}
use Rattle.chv_commit.proofs.TakenLemmas.{taken-from_Takes}
use Rattle.chv_gate.specs.declared.log.Log.{Log}
use Rattle.chv_gate.specs.GateLog.{CLOSED, body, frame_of}
use Rattle.chv_gate.proofs.CrashLemmas.{ready_image}
use Rattle.chv_merge.specs.Picks.{levels_of, picked}
use Rattle.chv_merge.specs.declared.run.Run.{Run}
use Rattle.chv_part.specs.Books.{Book, part_rows}
use Rattle.chv_part.specs.Merging.{IsRowOf, IsRunOf, due, merged, top_level}
use Rattle.chv_part.specs.Parts.{IsPartFile}
use Rattle.chv_part.specs.Standing.{IsLive, IsPart, TableStands}
use Rattle.chv_part.proofs.MergingLemmas.{IsJoined-run, IsJoined-run-run, IsLawfulBook-merged, rows_behind, spans_behind}
use Rattle.chv_table.specs.Delivering.{DeliveryLeft}
use Rattle.chv_table.specs.Merging.{IsLeftBut, IsNoneOf, MergesRun, run_parts}
use Rattle.chv_table.specs.Tables.{IsPlaced, IsWithin, HoldsBook, IsSettledPart, held_form, held_state}
use Rattle.chv_table.specs.Turning.{Becomes, Fits, IsNewPart, IsOldPart, noted}
use Rattle.chv_table.specs.declared.table.Table.{Table}
use Rattle.chv_table.proofs.DeliveryLemmas.{skipped_left}
use Rattle.chv_table.proofs.TableLemmas.{holds_commits_kept}

-- what is appended for a merge: the number 41 in four bytes, the payload, and a closed gate
pub frame_of-merge_of : (row : PartRow) → to_le_bytes w32 41 ++ commit_spelling (merge_of row) ++ CLOSED ∷ [] ≡ frame_of (commit_spelling (merge_of row))
unfolding body
frame_of-merge_of row = refl

-- the levels of parts are those of their spans
pub levels_of-spans : (layout : List PartRow) → levels_of layout ≡ map (λ (span : Span). span.level) (map span_of layout)
levels_of-spans [] = refl
levels_of-spans (row ∷ layout) = ap (λ (levels : List ℕ). row.level ∷ levels) (levels_of-spans layout)

-- what is picked is what is due
pub picked_is : (layout now : List PartRow) (run : Option Run) → run ≡ picked (levels_of now) → now ≡ layout → run ≡ due (map span_of layout)
picked_is layout now run is same = is ∙ ap (λ (l : List PartRow). picked (levels_of l)) same ∙ ap picked (levels_of-spans layout)

-- no level of live parts is near the greatest number of 64 bits
top_level-bound : (most : ℕ) (spans : List Span) → All (λ (span : Span). span.level ≤ most) spans → top_level spans ≤ most
top_level-bound most [] all = omega arith
top_level-bound most (span ∷ spans) all =
    omega (arith, All-head (λ (s : Span). s.level ≤ most) span spans all, top_level-bound most spans (All-tail (λ (s : Span). s.level ≤ most) span spans all))

pub run_level-bound : (state : State) (run : Run) → IsSound state → IsRunOf (map span_of state.layout) run → run.level ≤ state.next_part
run_level-bound state run sound is =
    let IsLow : Span → Type 0 = λ span. span.level ≤ state.next_part in
    let spans : List Span = map span_of state.layout in
    let none : PartRow = record { lo = 0; hi = 0; level = 0; part = 0; rows = 0 } in
    let low : All IsLow spans = λ k d inside.
    let within : k < length state.layout = omega (arith, inside, length-map state.layout span_of) in
    omega (arith, ap (λ (s : Span). s.level) (get_or-map span_of state.layout k none d within), sound.levels k none within, (sound.parts k none within).1) in
    omega (
      arith,
      is.level,
      top_level-bound state.next_part (slice_range spans run.from (run.from + run.count))
          (All-take IsLow (run.from + run.count - run.from) (drop run.from spans) (All-drop IsLow run.from spans low)),
    )

module _ (table : Table) (run : Run) (row : PartRow) (within : IsWithin table) (row_is : IsRowOf table.replay.state.layout run row) (in_turn : row.part ≡ table.replay.state.next_part) where
  abbrev layout : List PartRow
  layout = table.replay.state.layout

  -- what its log says behind the merge
  abbrev pub state_merged : State
  state_merged = record (held_state table) { layout = rows_behind layout run row row_is; next_part = table.replay.state.next_part + 1 }

  pub is_merge : Merges row (held_state table) state_merged
  is_merge = record { in_turn = in_turn; layout = rows_behind layout run row row_is; is = IsJoined-run layout run row row_is; new_is = refl }

  pub merge_taken : taken table.replay.window (held_state table) (merge_of row) ≡ Some state_merged
  merge_taken = taken-from_Takes table.replay.window (held_state table) state_merged (merge_of row) within.sound is_merge

  pub merge_sound : IsSound state_merged
  merge_sound = IsSound-merged row (held_state table) (rows_behind layout run row row_is) within.sound in_turn (IsJoined-run layout run row row_is)

  pub merge_fits : IsCommit (merge_of row) → Fits table (merge_of row) state_merged
  merge_fits right =
      let size = length-commit_spelling_merge row.lo row.hi row.part row.level row.rows in
      record { right = right; payload = record { some = omega (arith, size); most = omega (arith, size) }; taken_is = merge_taken }

  -- what stays live is none of the parts of the run
  pub stays_apart : All (λ (stays : PartRow). All (λ (gone : PartRow). stays.part ≢ gone.part) (run_parts run layout)) state_merged.layout
  stays_apart =
      subst (λ (gone : List PartRow). All (λ (stays : PartRow). All (λ (g : PartRow). stays.part ≢ g.part) gone) state_merged.layout) (IsJoined-run-run layout run row row_is)
      (IsJoined-apart row (held_state table) state_merged.layout within.sound in_turn (IsJoined-run layout run row row_is))

  -- the merge makes of the table's book that with the run as one
  pub merge_becomes : (files : FileId → FileState) (book : Book) (encoded : List ℕ) → IsCommit (merge_of row) → HoldsBook table files book
      → row.rows ≡ length (part_rows (held_form table) book row.lo row.hi) → IsPartFile (held_form table) (part_rows (held_form table) book row.lo row.hi) encoded
      → Becomes table book (merged run book) (merge_of row) state_merged encoded
  merge_becomes files book encoded right held counted file =
      let next : Book = merged run book in
      let IsHere : PartRow → Type 0 = λ r. IsNewPart table next encoded r ⊎ IsOldPart table book next r in
      let older : (rows : List PartRow) → All (Contains layout) rows → All IsHere rows =
      λ rows all. All-weaker (Contains layout) IsHere (λ r was. inr (record { was = was; same = refl })) rows all in
      let to : ℕ = run.from + run.count in
      record {
        fits = merge_fits right;
        lawful = IsLawfulBook-merged (held_form table) run book (subst (λ (l : List Span). IsRunOf l run) (sym held.describes.layout) row_is.run_is) held.lawful;
        describes = record { entries = held.describes.entries; ids = held.describes.ids; layout = spans_behind layout run row row_is book held.describes.layout };
        parts = All-append IsHere (take run.from layout) (row ∷ drop to layout)
            (older (take run.from layout) (All-take (Contains layout) run.from layout (All-contains_itself layout)))
            (All-cons IsHere row (drop to layout) (inl (record { part_is = in_turn; counted = counted; file = file }))
            (older (drop to layout) (All-drop (Contains layout) to layout (All-contains_itself layout))));
      }

-- a table that holds a book stands for it in an image of its log and its live parts
pub live_left : (table : Table) (files : FileId → FileState) (image : Image) (book : Book) → IsLive table.number table.log.file → HoldsBook table files book
    → IsFileImage (files table.log.file) (image table.log.file)
    → All (λ (row : PartRow). IsFileImage (files (part_of table.number row.part)) (image (part_of table.number row.part))) table.replay.state.layout
    → TableStands image table.number (held_form table) book
live_left table files image book live held log parts = record {
  lawful = held.lawful;
  live = table.log.file;
  live_is = live;
  commits = held.commits;
  right = held.holds.right;
  log = ready_image table.log.gate (map commit_spelling held.commits) (files table.log.file) held.holds.log (image table.log.file) log;
  state = held_state table;
  replays = held.holds.replays;
  describes = held.describes;
  parts = λ k d below.
      let row : PartRow = get_or table.replay.state.layout k d in
      let f : FileId = part_of table.number row.part in
      let part = held.parts k d below in
      let left : image f ≡ (files f).bytes =
      settled_image (files f).bytes (image f) (subst (λ (s : FileState). IsFileImage s (image f)) (held.settled_parts k d below) (parts k d below)) in
      record { counted = part.counted; file = subst (IsPartFile (held_form table) (part_rows (held_form table) book row.lo row.hi)) (sym left) part.file };
}

-- it holds the book as long as these are as they were
pub live_kept : (table : Table) (old new : FileId → FileState) (book : Book) → HoldsBook table old book → new table.log.file ≡ old table.log.file
    → All (λ (row : PartRow). new (part_of table.number row.part) ≡ old (part_of table.number row.part)) table.replay.state.layout → HoldsBook table new book
live_kept table old new book held log parts = record {
  lawful = held.lawful;
  commits = held.commits;
  holds = holds_commits_kept table old new held.commits log held.holds;
  describes = held.describes;
  parts = λ k d below.
      let row : PartRow = get_or table.replay.state.layout k d in
      let part = held.parts k d below in
      record {
        counted = part.counted;
        file = subst (λ (s : FileState). IsPartFile (held_form table) (part_rows (held_form table) book row.lo row.hi) s.bytes) (sym (parts k d below)) part.file;
      };
  settled_parts = λ k d below. subst (λ (s : FileState). s ≡ settled s.bytes) (sym (parts k d below)) (held.settled_parts k d below);
}

-- nothing is written: a crash leaves the table's book
pub during_reads : (table : Table) (old mid : Outside) (book next : Book) → ((image : Image) (text : List ℕ) → IsLeft old.files old.said image text → DeliveryLeft table book next old.files old.said image text)
    → During old mid (IsLeft old.files old.said) → During old mid (DeliveryLeft table book next old.files old.said)
during_reads table old mid book next left during = weakened old mid (IsLeft old.files old.said) (DeliveryLeft table book next old.files old.said) during left

-- and then a call turns the book
pub during_on : (table : Table) (old mid new : Outside) (book next : Book) → KeepsFiles old.files mid.files → mid.said ≡ old.said
    → During old mid (DeliveryLeft table book next old.files old.said) → During mid new (DeliveryLeft table book next mid.files mid.said)
    → During old new (DeliveryLeft table book next old.files old.said)
during_on table old mid new book next files said first second =
    goes_on old mid new (DeliveryLeft table book next old.files old.said) (DeliveryLeft table book next mid.files mid.said) first second
    (λ image text left. record {
      others = λ f other. subst (λ (s : FileState). IsFileImage s (image f)) (files f) (left.others f other);
      stands = left.stands;
      text_left = left.text_left ∙ said;
    })

-- the discards behind a merge
module _ (table : Table) (run : Run) (row : PartRow) (within : IsWithin table) (row_is : IsRowOf table.replay.state.layout run row) (in_turn : row.part ≡ table.replay.state.next_part) (log : Log) (file : log.file ≡ table.log.file) where
  abbrev pub Noted : Table
  Noted = noted (state_merged table run row within row_is in_turn) (record table { log = log })

  abbrev gone : List PartRow
  gone = run_parts run table.replay.state.layout

  -- none of the files that stay is discarded
  pub log_stays : IsNoneOf table.number gone log.file
  log_stays k d below same =
      let is : PartRow = get_or gone k d in
      let parts = All-take (λ (r : PartRow). (8 ≤ r.part) × (r.part < table.replay.state.next_part)) (run.from + run.count - run.from) (drop run.from table.replay.state.layout)
      (All-drop (λ (r : PartRow). (8 ≤ r.part) × (r.part < table.replay.state.next_part)) run.from table.replay.state.layout within.sound.parts) in
      let e : 0 ≡ is.part = ap (λ (f : FileId). f.part) (sym (file ∙ within.log) ∙ same) in
      absurd (omega (arith, e, (parts k d below).0))

  pub parts_stay : All (λ (r : PartRow). IsNoneOf table.number gone (part_of table.number r.part)) Noted.replay.state.layout
  parts_stay k d below j e inside same =
      stays_apart table run row within row_is in_turn k d below j e inside (ap (λ (f : FileId). f.part) same)

  -- a file of another table is none of them
  pub others_stay : (f : FileId) → f.table ≢ table.number → IsNoneOf table.number gone f
  others_stay f other k d below same = other (ap (λ (g : FileId). g.table) same)

  pub live_is : IsLive table.number log.file
  live_is = file ∙ within.log

  -- whatever they leave stands for the book behind the merge
  pub discards_left : (mid : FileId → FileState) (said : List ℕ) (book next : Book) (start : FileId → FileState) → HoldsBook Noted mid next
      → ((f : FileId) → f.table ≢ table.number → mid f ≡ start f) → (image : Image) (text : List ℕ) → IsLeftBut table.number gone mid said image text
      → DeliveryLeft table book next start said image text
  discards_left mid said book next start held others image text left = record {
    others = λ f other. subst (λ (s : FileState). IsFileImage s (image f)) (others f other) (left.0 f (others_stay f other));
    stands = inr (live_left Noted mid image next live_is held (left.0 log.file log_stays) (λ k d below. left.0 (part_of table.number (get_or Noted.replay.state.layout k d).part) (parts_stay k d below)));
    text_left = left.1;
  }

  pub discards_kept : (mid end : FileId → FileState) (next : Book) → HoldsBook Noted mid next → ((f : FileId) → IsNoneOf table.number gone f → end f ≡ mid f) → HoldsBook Noted end next
  discards_kept mid end next held others =
      live_kept Noted mid end next held (others log.file log_stays) (λ k d below. others (part_of table.number (get_or Noted.replay.state.layout k d).part) (parts_stay k d below))

-- where there is no run, nothing changes
none_merges : {T : Type 0} (tells : Type 0) (x : T) (table : Table) (old : Outside) → IsWithin table → (tells → IsPlaced table old.files)
    → ((image : Image) (text : List ℕ) → old.left_since old.moment image text → IsLeft old.files old.said image text) → MergesRun {T = T} tells None (Ok x) table table old old
none_merges {T} tells x table old within placed now = record {
  turned = λ tell book held. record {
    done = held;
    during = started old (DeliveryLeft table book book old.files old.said) (λ image text left. skipped_left table old.files old.said book book image text within held (now image text left));
  };
  commits = λ tell commits held. held;
  makes = refl;
  whole = λ tell. All-nil _;
  damaged = λ tell damage is. absurd (cc is);
  early = tt;
  ready = (within, placed);
  room = omega arith;
  same = (refl, refl);
  keeps = record {
    others = λ tell f other. refl;
    said = λ tell. refl;
    counts = record { keeps = omega arith; cause = λ failed. absurd (cc failed); same = λ well. refl; other = refl };
  };
}

pub merges_none : {T : Type 0} (tells : Type 0) (run : Option Run) (x : T) (table : Table) (old : Outside) → run ≡ None → IsWithin table → (tells → IsPlaced table old.files)
    → ((image : Image) (text : List ℕ) → old.left_since old.moment image text → IsLeft old.files old.said image text) → MergesRun {T = T} tells run (Ok x) table table old old
merges_none {T} tells run x table old is within placed now =
    subst (λ (r : Option Run). MergesRun {T = T} tells r (Ok x) table table old old) (sym is) (none_merges tells x table old within placed now)
