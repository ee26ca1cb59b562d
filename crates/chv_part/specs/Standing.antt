-- What the files of a table hold where they stand for its book.
use Rattle.std.specs.Prelude.{ℕ, ◌≡◌, ◌+◌, ◌<◌, ◌≤◌, List, length, map, Some, slice_get}
use Rattle.std.specs.List.{All}
use Rattle.chv_commit.specs.Commits.{commit_spelling, IsCommit}
use Rattle.chv_commit.specs.Replays.{State, no_state, replayed, span_of}
use Rattle.chv_commit.specs.declared.commit.Commit.{Commit}
use Rattle.chv_commit.specs.declared.part_row.PartRow.{PartRow}
use Rattle.chv_gate.specs.GateLog.{HasFrames}
use Rattle.chv_part.specs.Books.{TableForm, Book, ids_of, part_rows, IsLawfulBook}
use Rattle.chv_part.specs.Parts.{IsPartFile}
use Rattle.chv_sip.specs.BlockIds.{last_ids}
use Rattle.chv_site.specs.FileIds.{catalog_log, table_log, part_of}
use Rattle.chv_site.specs.declared.file_id.FileId.{FileId}

-- what a table's log says is what its book has: as many entries, the last of their ids, and the layout
pub record Describes (window : ℕ) (state : State) (book : Book) : Type 0 where
  pub entries : state.entries ≡ length book.entries
  pub ids : state.ids ≡ last_ids window (ids_of book)
  pub layout : book.layout ≡ map span_of state.layout

-- a live part of a table of this form holds the rows of its entries, in a file that is theirs
pub record IsPart (files : FileId → List ℕ) (table : ℕ) (form : TableForm) (book : Book) (row : PartRow) : Type 0 where
  pub counted : row.rows ≡ length (part_rows form book row.lo row.hi)
  pub file : IsPartFile form (part_rows form book row.lo row.hi) (files (part_of table row.part))

-- the live log of a table
abbrev pub IsLive : ℕ → FileId → Type 0
IsLive table log = log ≡ table_log table

-- the files of a table of this form stand for its book: its live log has commits that fit, they say what the book has, and
-- each live part holds the rows of its entries
pub record TableStands (files : FileId → List ℕ) (table : ℕ) (form : TableForm) (book : Book) : Type 0 where
  pub lawful : IsLawfulBook form book
  pub live : FileId
  pub live_is : IsLive table live
  pub commits : List Commit
  pub right : All IsCommit commits
  pub log : HasFrames (map commit_spelling commits) (files live)
  pub state : State
  pub replays : replayed form.window no_state commits ≡ Some state
  pub describes : Describes form.window state book
  pub parts : All (IsPart files table form book) state.layout

-- the files of a store: the catalog's log has these payloads, the files of each table stand for its book, and no other
-- table has a log of more than a torn gate
pub record FilesStand (files : FileId → List ℕ) (payloads : List (List ℕ)) (forms : List TableForm) (books : ℕ → Book) : Type 0 where
  pub catalog : HasFrames payloads (files catalog_log)
  pub tables : (place : ℕ) (form : TableForm) → slice_get forms place ≡ Some form → TableStands files (place + 1) form (books (place + 1))
  pub others : (table : ℕ) → length forms < table → length (files (table_log table)) ≤ 1
