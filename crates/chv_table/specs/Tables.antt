-- What is held of a table, beside its files and the book that they stand for.
use Rattle.std.specs.List.{All}
use Rattle.std.specs.Prelude.{ℕ, ◌≡◌, ◌+◌, ◌*◌, ◌<◌, ◌≤◌, ◌^◌, List, length, map, Some}
use Rattle.chv_site.specs.declared.file_id.FileId.{FileId}
use Rattle.chv_site.specs.Files.{FileState, settled}
use Rattle.chv_site.specs.FileIds.{part_of}
use Rattle.chv_site.specs.Outside.{Outside}
use Rattle.chv_catalog.specs.declared.table_def.TableDef.{TableDef}
use Rattle.chv_commit.specs.Commits.{commit_spelling, IsCommit}
use Rattle.chv_commit.specs.Replays.{MAX_ENTRIES, State, no_state, replayed, IsSound}
use Rattle.chv_commit.specs.declared.commit.Commit.{Commit}
use Rattle.chv_commit.specs.declared.part_row.PartRow.{PartRow}
use Rattle.chv_gate.specs.GateLog.{IsReady}
use Rattle.chv_part.specs.Books.{AreColumns, TableForm, Book, IsLawfulBook}
use Rattle.chv_part.specs.Forms.{form_of}
use Rattle.chv_part.specs.Standing.{Describes, IsLive, IsPart, TableStands}
use Rattle.chv_table.specs.declared.table.Table.{Table}

-- what is held of a table says the same of its files as its definition
abbrev pub held_form : Table → TableForm
held_form table = record { engine = table.engine; window = table.replay.window; kinds = table.kinds; key = table.key }

-- a table is that of a number and a definition
pub record IsTableOf (number : ℕ) (def : TableDef) (table : Table) : Type 0 where
  pub number_is : table.number ≡ number
  pub form_is : held_form table ≡ form_of def

-- what is held of a table's log
abbrev pub held_state : Table → State
held_state table = table.replay.state

-- for how many deliveries there is room in memory
abbrev pub spare : Table → ℕ
spare table = table.replay.spare

-- of a table the same is held, but for the room in memory
pub record KeepsHeld (old new : Table) : Type 0 where
  pub number : new.number ≡ old.number
  pub form : held_form new ≡ held_form old
  pub log : new.log ≡ old.log
  pub state : held_state new ≡ held_state old

-- what is held of a table, whatever its files hold: each frame of its log is paid for by entries
pub record IsWithin (table : Table) : Type 0 where
  pub log : IsLive table.number table.log.file
  pub columns : AreColumns table.kinds
  pub sound : IsSound (held_state table)
  pub gate : table.log.gate + 64 * length (held_state table).layout ≤ 64 + 256 * (held_state table).entries

-- the standing gate of a table's log is in its file, whatever the files hold
abbrev pub IsPlaced : Table → (FileId → FileState) → Type 0
IsPlaced table files = table.log.gate < length (files table.log.file).bytes

-- a table has room for so many deliveries, in memory and in number
pub record HasRoomFor (count : ℕ) (table : Table) : Type 0 where
  pub in_memory : count ≤ spare table
  pub in_number : (held_state table).entries + count ≤ MAX_ENTRIES

-- a table takes so many deliveries
pub record Takes (tells : Type 0) (count : ℕ) (table : Table) (outside : Outside) : Type 0 where
  pub within : IsWithin table
  pub room : HasRoomFor count table
  pub placed : tells → IsPlaced table outside.files

-- a table with its log, which is ready behind these commits; they say what is held
pub record HoldsCommits (table : Table) (files : FileId → FileState) (commits : List Commit) : Type 0 where
  pub right : All IsCommit commits
  pub log : IsReady table.log.gate (map commit_spelling commits) (files table.log.file)
  pub replays : replayed (held_form table).window no_state commits ≡ Some (held_state table)

-- nothing is pending of a part's file
abbrev pub IsSettledPart : (FileId → FileState) → ℕ → PartRow → Type 0
IsSettledPart files number row = files (part_of number row.part) ≡ settled (files (part_of number row.part)).bytes

-- a table with its files stands for a book, and nothing is pending
pub record HoldsBook (table : Table) (files : FileId → FileState) (book : Book) : Type 0 where
  pub lawful : IsLawfulBook (held_form table) book
  pub commits : List Commit
  pub holds : HoldsCommits table files commits
  pub describes : Describes (held_form table).window (held_state table) book
  pub parts : All (IsPart (λ f. (files f).bytes) table.number (held_form table) book) (held_state table).layout
  pub settled_parts : All (IsSettledPart files table.number) (held_state table).layout

-- before a table is opened: its files stand for a book, and nothing is pending
pub record SettlesBook (number : ℕ) (form : TableForm) (files : FileId → FileState) (book : Book) : Type 0 where
  pub settled_files : (f : FileId) → f.table ≡ number → files f ≡ settled (files f).bytes
  pub stands : TableStands (λ f. (files f).bytes) number form book
