-- What the files of a table that holds a book leave of it.
use Rattle.std.proofs.Common.{◌≡◌, ℕ, ◌-◌, ◌<◌, ◌≤◌, List, [], length, get_or, map, Some, refl, sym, ap, subst, ◌∙◌, arith, length-append}
use Rattle.std.specs.List.{All}
use Rattle.std.proofs.Math.Seq.{drop-nil}
use Rattle.std.proofs.lemmas.List.Elements.{All-nil}
use Rattle.chv_site.specs.declared.file_id.FileId.{FileId}
use Rattle.chv_site.specs.FileIds.{part_of}
use Rattle.chv_site.specs.Files.{FileState, settled}
use Rattle.chv_site.specs.Images.{Image, IsFileImage}
use Rattle.chv_site.proofs.Images.{settled_image}
use Rattle.chv_commit.specs.Commits.{commit_spelling, IsCommit}
use Rattle.chv_commit.specs.Replays.{State, no_state, replayed, IsSound}
use Rattle.chv_commit.specs.declared.commit.Commit.{Commit}
use Rattle.chv_commit.specs.declared.part_row.PartRow.{PartRow}
use Rattle.chv_commit.proofs.SoundLemmas.{IsSound-no_state, IsSound-replayed}
use Rattle.chv_gate.specs.GateLog.{HasFrames, IsReady, begun, open_frames}
use Rattle.chv_gate.specs.declared.log.Log.{Log}
use Rattle.chv_gate.proofs.GateLogLemmas.{begun_ready}
use Rattle.chv_gate.proofs.CrashLemmas.{ready_image}
use Rattle.chv_gate.proofs.ReadingLaws.{closed_long}
use Rattle.chv_part.specs.Books.{TableForm, Book, no_book, part_rows, IsLawfulBook}
use Rattle.chv_part.proofs.BookLemmas.{IsLawfulBook-no_book}
use Rattle.chv_part.specs.Parts.{IsPartFile}
use Rattle.chv_part.specs.Standing.{Describes, IsPart, TableStands}
use Rattle.chv_table.specs.Tables.{IsWithin, IsPlaced, HoldsCommits, HoldsBook, IsSettledPart, KeepsHeld, held_form, held_state}
use Rattle.chv_table.specs.declared.table.Table.{Table}

-- parts with numbers from 8 to below the next one
abbrev pub AreNumbered : ℕ → List PartRow → Type 0
AreNumbered next layout = All (λ (row : PartRow). (8 ≤ row.part) × (row.part < next)) layout

-- what is held of a table's log is sound
pub HoldsCommits-sound : (table : Table) (files : FileId → FileState) (commits : List Commit) → HoldsCommits table files commits → IsSound (held_state table)
HoldsCommits-sound table files commits held = IsSound-replayed (held_form table).window no_state (held_state table) commits IsSound-no_state held.replays

-- and so the parts of a table that holds a book are numbered
pub HoldsBook-numbered : (table : Table) (files : FileId → FileState) (book : Book) → HoldsBook table files book → AreNumbered table.replay.state.next_part table.replay.state.layout
HoldsBook-numbered table files book held = (HoldsCommits-sound table files held.commits held.holds).parts

module _ (number next : ℕ) (layout : List PartRow) (numbered : AreNumbered next layout) where
  -- parts are what they were in files that are the same for their numbers
  pub IsPart-by : (old new : FileId → List ℕ) (form : TableForm) (book : Book) → ((part : ℕ) → 8 ≤ part → part < next → new (part_of number part) ≡ old (part_of number part))
      → All (IsPart old number form book) layout → All (IsPart new number form book) layout
  IsPart-by old new form book same parts = λ k d below.
      let row : PartRow = get_or layout k d in
      let number_is = numbered k d below in
      let part = parts k d below in
      record { counted = part.counted; file = subst (IsPartFile form (part_rows form book row.lo row.hi)) (sym (same row.part number_is.0 number_is.1)) part.file }

  -- and nothing is pending of them, where nothing was
  pub IsSettledPart-by : (old new : FileId → FileState) → ((part : ℕ) → 8 ≤ part → part < next → new (part_of number part) ≡ old (part_of number part))
      → All (IsSettledPart old number) layout → All (IsSettledPart new number) layout
  IsSettledPart-by old new same parts = λ k d below.
      let row : PartRow = get_or layout k d in
      let number_is = numbered k d below in
      subst (λ (s : FileState). s ≡ settled s.bytes) (sym (same row.part number_is.0 number_is.1)) (parts k d below)

  -- parts with nothing pending hold their rows whatever a crash leaves
  pub parts_left : (files : FileId → FileState) (image : Image) (form : TableForm) (book : Book)
      → ((part : ℕ) → 8 ≤ part → part < next → IsFileImage (files (part_of number part)) (image (part_of number part)))
      → All (IsSettledPart files number) layout → All (IsPart (λ f. (files f).bytes) number form book) layout → All (IsPart image number form book) layout
  parts_left files image form book is settled_parts parts = λ k d below.
      let row : PartRow = get_or layout k d in
      let number_is = numbered k d below in
      let f : FileId = part_of number row.part in
      let part = parts k d below in
      let left : image f ≡ (files f).bytes =
      settled_image (files f).bytes (image f) (subst (λ (s : FileState). IsFileImage s (image f)) (settled_parts k d below) (is row.part number_is.0 number_is.1)) in
      record { counted = part.counted; file = subst (IsPartFile form (part_rows form book row.lo row.hi)) (sym left) part.file }

-- a table's files stand for its book in an image of its log and its parts
pub book_left : (table : Table) (files : FileId → FileState) (image : Image) (book : Book) → IsWithin table → (held : HoldsBook table files book) → HasFrames (map commit_spelling held.commits) (image table.log.file)
    → ((part : ℕ) → 8 ≤ part → part < table.replay.state.next_part → IsFileImage (files (part_of table.number part)) (image (part_of table.number part)))
    → TableStands image table.number (held_form table) book
book_left table files image book within held frames is = record {
  lawful = held.lawful;
  live = table.log.file;
  live_is = within.log;
  commits = held.commits;
  right = held.holds.right;
  log = frames;
  state = held_state table;
  replays = held.holds.replays;
  describes = held.describes;
  parts = parts_left table.number table.replay.state.next_part table.replay.state.layout (HoldsBook-numbered table files book held) files image (held_form table) book is held.settled_parts held.parts;
}

-- the log of a table is a file of its own
log_in_table : (table : Table) → IsWithin table → table.log.file.table ≡ table.number
log_in_table table within = ap (λ (f : FileId). f.table) within.log

-- what a crash leaves of a table that holds a book stands for it
pub table_left : (table : Table) (files : FileId → FileState) (image : Image) (book : Book) → IsWithin table → HoldsBook table files book
    → ((f : FileId) → f.table ≡ table.number → IsFileImage (files f) (image f)) → TableStands image table.number (held_form table) book
table_left table files image book within held is =
    book_left table files image book within held
    (ready_image table.log.gate (map commit_spelling held.commits) (files table.log.file) held.holds.log (image table.log.file) (is table.log.file (log_in_table table within)))
    (λ part low high. is (part_of table.number part) refl)

-- a table holds its commits as long as its log is as it was
pub holds_commits_kept : (table : Table) (old new : FileId → FileState) (commits : List Commit) → new table.log.file ≡ old table.log.file → HoldsCommits table old commits → HoldsCommits table new commits
holds_commits_kept table old new commits same held = record {
  right = held.right;
  log = subst (λ (s : FileState). IsReady table.log.gate (map commit_spelling commits) s) (sym same) held.log;
  replays = held.replays;
}

-- a table holds its book as long as its own files are as they were
pub holds_book_kept : (table : Table) (old new : FileId → FileState) (book : Book) → IsWithin table → ((f : FileId) → f.table ≡ table.number → new f ≡ old f) → HoldsBook table old book → HoldsBook table new book
holds_book_kept table old new book within kept held =
    let numbered = HoldsBook-numbered table old book held in
    let same : (part : ℕ) → 8 ≤ part → part < table.replay.state.next_part → new (part_of table.number part) ≡ old (part_of table.number part) = λ part low high. kept (part_of table.number part) refl in
    record {
      lawful = held.lawful;
      commits = held.commits;
      holds = holds_commits_kept table old new held.commits (kept table.log.file (log_in_table table within)) held.holds;
      describes = held.describes;
      parts = IsPart-by table.number table.replay.state.next_part table.replay.state.layout numbered (λ f. (old f).bytes) (λ f. (new f).bytes) (held_form table) book
          (λ part low high. ap (λ (s : FileState). s.bytes) (same part low high)) held.parts;
      settled_parts = IsSettledPart-by table.number table.replay.state.next_part table.replay.state.layout numbered old new same held.settled_parts;
    }

-- a table holds commits where it has a form and a state, of which all that is asked holds
pub HoldsCommits-by : (table : Table) (files : FileId → FileState) (commits : List Commit) (form : TableForm) (state : State) → held_form table ≡ form → held_state table ≡ state
    → All IsCommit commits → IsReady table.log.gate (map commit_spelling commits) (files table.log.file) → replayed form.window no_state commits ≡ Some state → HoldsCommits table files commits
HoldsCommits-by table files commits form state form_is state_is right log replays = record {
  right = right;
  log = log;
  replays = subst (λ (f : TableForm). replayed f.window no_state commits ≡ Some (held_state table)) (sym form_is) (replays ∙ ap Some (sym state_is));
}

-- and a book, where it holds the commits of its log
pub HoldsBook-by : (table : Table) (files : FileId → FileState) (book : Book) (number : ℕ) (form : TableForm) (state : State) (commits : List Commit)
    → table.number ≡ number → held_form table ≡ form → held_state table ≡ state → HoldsCommits table files commits
    → IsLawfulBook form book → Describes form.window state book → All (IsPart (λ f. (files f).bytes) number form book) state.layout → All (IsSettledPart files number) state.layout → HoldsBook table files book
HoldsBook-by table files book number form state commits number_is form_is state_is holds lawful describes parts settled_parts = record {
  lawful = subst (λ (f : TableForm). IsLawfulBook f book) (sym form_is) lawful;
  commits = commits;
  holds = holds;
  describes = subst (λ (f : TableForm). Describes f.window (held_state table) book) (sym form_is) (subst (λ (s : State). Describes form.window s book) (sym state_is) describes);
  parts = subst (λ (f : TableForm). All (IsPart (λ g. (files g).bytes) table.number f book) (held_state table).layout) (sym form_is)
      (subst (λ (n : ℕ). All (IsPart (λ g. (files g).bytes) n form book) (held_state table).layout) (sym number_is)
      (subst (λ (s : State). All (IsPart (λ g. (files g).bytes) number form book) s.layout) (sym state_is) parts));
  settled_parts = subst (λ (n : ℕ). All (IsSettledPart files n) (held_state table).layout) (sym number_is)
      (subst (λ (s : State). All (IsSettledPart files number) s.layout) (sym state_is) settled_parts);
}

-- a table of which nothing is written yet holds the empty book
pub HoldsBook-begun : (table : Table) (files : FileId → FileState) (log : FileId) (bytes : List ℕ) → table.log ≡ record { file = log; gate = 0 } → held_state table ≡ no_state
    → files log ≡ settled (begun bytes) → length bytes ≤ 1 → HoldsBook table files no_book
HoldsBook-begun table files log bytes log_is state_is begun_now short =
    let ready : IsReady 0 [] (files log) = subst (λ (s : FileState). IsReady 0 [] s) (sym begun_now) (begun_ready bytes short) in
    let holds : HoldsCommits table files [] =
    HoldsCommits-by table files [] (held_form table) no_state refl state_is (All-nil IsCommit)
    (subst (λ (l : Log). IsReady l.gate [] (files l.file)) (sym log_is) ready) refl in
    HoldsBook-by table files no_book table.number (held_form table) no_state [] refl refl state_is holds (IsLawfulBook-no_book (held_form table))
    (record { entries = refl; ids = sym (drop-nil (0 - table.replay.window)); layout = refl }) (All-nil _) (All-nil _)

-- the standing gate of a table that holds commits is in its log's file
pub HoldsCommits-placed : (table : Table) (files : FileId → FileState) (commits : List Commit) → HoldsCommits table files commits → IsPlaced table files
HoldsCommits-placed table files commits held =
    let ready = held.log in
    omega (arith, ready.place, ap length ready.split, length-append (open_frames (map commit_spelling commits)) ready.rest, closed_long ready.rest ready.closed)

-- a table holds commits, and a book, where one of which the same is held does
pub HoldsCommits-held : (old new : Table) (files : FileId → FileState) (commits : List Commit) → KeepsHeld old new → HoldsCommits old files commits → HoldsCommits new files commits
HoldsCommits-held old new files commits kept held =
    HoldsCommits-by new files commits (held_form old) (held_state old) kept.form kept.state held.right
    (subst (λ (l : Log). IsReady l.gate (map commit_spelling commits) (files l.file)) (sym kept.log) held.log) held.replays

pub HoldsBook-held : (old new : Table) (files : FileId → FileState) (book : Book) → KeepsHeld old new → HoldsBook old files book → HoldsBook new files book
HoldsBook-held old new files book kept held =
    HoldsBook-by new files book old.number (held_form old) (held_state old) held.commits kept.number kept.form kept.state
    (HoldsCommits-held old new files held.commits kept held.holds) held.lawful held.describes held.parts held.settled_parts
