-- How a table is opened: its log is read commit by commit, and no book is lost by it.
use Rattle.std.specs.Prelude.{ℕ, ◌≡◌, ◌+◌, List, length, Option, None, Some, Result, IfOk}
use Rattle.chv_site.specs.During.{During}
use Rattle.chv_site.specs.FileIds.{table_log}
use Rattle.chv_site.specs.Files.{FileState}
use Rattle.chv_site.specs.Images.{Image}
use Rattle.chv_site.specs.Outside.{Outside}
use Rattle.chv_site.specs.declared.file_id.FileId.{FileId}
use Rattle.chv_commit.specs.Commits.{commit_spelling, IsCommit}
use Rattle.chv_commit.specs.Replays.{State, taken}
use Rattle.chv_commit.specs.declared.commit.Commit.{Commit}
use Rattle.chv_gate.specs.Crashes.{AsImages}
use Rattle.chv_gate.specs.Reading.{IsOpen, IsFollowed}
use Rattle.chv_part.specs.Books.{TableForm, Book}
use Rattle.chv_part.specs.Standing.{TableStands}
use Rattle.chv_table.specs.Tables.{HoldsBook}
use Rattle.chv_table.specs.declared.table.Table.{Table}

-- during an opening: the table's files stand for its book, and all but its log are as a crash may leave them
pub record OpeningLeft (number : ℕ) (form : TableForm) (book : Book) (files : FileId → FileState) (said : List ℕ) (image : Image) (text : List ℕ) : Type 0 where
  pub others : AsImages (table_log number) files image
  pub stands : TableStands image number form book
  pub text_left : text ≡ said

-- a table of this form is opened with its book, which a crash until then leaves too
pub record Opens {E : Type 0} (result : Result Table E) (number : ℕ) (form : TableForm) (book : Book) (old new : Outside) : Type 0 where
  pub done : IfOk result (λ table. HoldsBook table new.files book)
  pub during : During old new (OpeningLeft number form book old.files old.said)

-- what is read behind a gate: nothing, where the gate is not open, and nothing is taken; else a commit up to the next gate,
-- which fits and is taken
abbrev pub ReadsCommit : ℕ → ℕ → State → List ℕ → Option ℕ → State → Type 0
ReadsCommit gate window old file None new = (IsOpen gate file → ⊥) × (new ≡ old)
ReadsCommit gate window old file (Some next) new =
    IsOpen gate file × ((commit : Commit) × IsCommit commit × IsFollowed gate (commit_spelling commit) next file × (taken window old commit ≡ Some new))

-- on any site: a commit that fits was taken, and behind its frame, which has its length and a gate too, is the next gate
pub record TakesCommit (gate window : ℕ) (old : State) (next : ℕ) (new : State) : Type 0 where
  pub commit : Commit
  pub fits : taken window old commit ≡ Some new
  pub place : next ≡ gate + length (commit_spelling commit) + 5

-- a gate is open, and no commit that fits follows it
pub record LacksCommit (gate window : ℕ) (state : State) (file : List ℕ) : Type 0 where
  pub opened : IsOpen gate file
  pub lacks : (commit : Commit) (next : ℕ) → IsCommit commit → IsFollowed gate (commit_spelling commit) next file → taken window state commit ≡ None
