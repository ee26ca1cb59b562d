-- What one commit with a new part makes of a table's book.
use Rattle.std.specs.Prelude.{ℕ, ◌≡◌, ◌⊎◌, List, length, Some}
use Rattle.std.specs.List.{All, Contains}
use Rattle.chv_commit.specs.Commits.{commit_spelling, IsCommit}
use Rattle.chv_commit.specs.Replays.{State, taken}
use Rattle.chv_commit.specs.declared.commit.Commit.{Commit}
use Rattle.chv_commit.specs.declared.part_row.PartRow.{PartRow}
use Rattle.chv_gate.specs.GateLog.{IsPayload}
use Rattle.chv_part.specs.Books.{Book, IsLawfulBook, part_rows}
use Rattle.chv_part.specs.Parts.{IsPartFile}
use Rattle.chv_part.specs.Standing.{Describes}
use Rattle.chv_table.specs.Tables.{held_form, held_state}
use Rattle.chv_table.specs.declared.table.Table.{Table}

-- a commit fits behind those of a table's log, which then says this
pub record Fits (table : Table) (commit : Commit) (state : State) : Type 0 where
  pub right : IsCommit commit
  pub payload : IsPayload (commit_spelling commit)
  pub taken_is : taken (held_form table).window (held_state table) commit ≡ Some state

-- a live part is the new one of a commit: it holds the rows of its entries, in a file of these bytes
pub record IsNewPart (table : Table) (book : Book) (encoded : List ℕ) (row : PartRow) : Type 0 where
  pub part_is : row.part ≡ (held_state table).next_part
  pub counted : row.rows ≡ length (part_rows (held_form table) book row.lo row.hi)
  pub file : IsPartFile (held_form table) (part_rows (held_form table) book row.lo row.hi) encoded

-- a live part is one from before a commit, and has the rows that it had
pub record IsOldPart (table : Table) (old new : Book) (row : PartRow) : Type 0 where
  pub was : Contains (held_state table).layout row
  pub same : part_rows (held_form table) new row.lo row.hi ≡ part_rows (held_form table) old row.lo row.hi

-- a commit with a new part, whose file has these bytes, makes of a table's book the next: it fits, the next book is lawful and
-- is what the log then says, and each live part is the new one or as before
pub record Becomes (table : Table) (old new : Book) (commit : Commit) (state : State) (encoded : List ℕ) : Type 0 where
  pub fits : Fits table commit state
  pub lawful : IsLawfulBook (held_form table) new
  pub describes : Describes (held_form table).window state new
  pub parts : All (λ (row : PartRow). IsNewPart table new encoded row ⊎ IsOldPart table old new row) state.layout

-- a table once this is noted of its log
abbrev pub noted : State → Table → Table
noted state table = record table { replay = record table.replay { state = state } }
