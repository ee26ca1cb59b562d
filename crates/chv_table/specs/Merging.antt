-- What a merge does to its table and to the files.
use Rattle.std.specs.Prelude.{ℕ, ⊤, ◌≡◌, ◌≢◌, ◌≤◌, List, [], ◌∷◌, ◌++◌, map, slice_range, ◌+◌, Option, None, Some, Result, OnOk, IfErr, IsErrOf}
use Rattle.std.specs.List.{All}
use Rattle.chv_site.specs.declared.file_id.FileId.{FileId}
use Rattle.chv_site.specs.During.{During}
use Rattle.chv_site.specs.Faults.{CountsDisk}
use Rattle.chv_site.specs.FileIds.{part_of}
use Rattle.chv_site.specs.Files.{FileState, KeepsFiles}
use Rattle.chv_site.specs.Images.{Image, IsFileImage}
use Rattle.chv_site.specs.Outside.{Outside, bytes_in}
use Rattle.chv_commit.specs.Replays.{State, Merges, merge_of, span_of}
use Rattle.chv_commit.specs.declared.commit.Commit.{Commit}
use Rattle.chv_commit.specs.declared.part_row.PartRow.{PartRow}
use Rattle.chv_merge.specs.declared.run.Run.{Run}
use Rattle.chv_part.specs.Books.{Book}
use Rattle.chv_part.specs.Merging.{IsRowOf, all_parts, due, merged_where}
use Rattle.chv_part.specs.declared.damage.Damage.{Damage}
use Rattle.chv_table.specs.Damage.{ArePartsWhole, IsPartDamage}
use Rattle.chv_table.specs.Delivering.{Turns}
use Rattle.chv_table.specs.Tables.{HoldsBook, HoldsCommits, IsPlaced, IsWithin, held_form, held_state, spare}
use Rattle.chv_table.specs.declared.fault.TableFault.{TableFault}
use Rattle.chv_table.specs.declared.table.Table.{Table}

-- the run of live parts that is to be merged next in a table, and that of all its live parts
abbrev pub due_in : Table → Option Run
due_in table = due (map span_of (held_state table).layout)

abbrev pub all_in : Table → Option Run
all_in table = all_parts (map span_of (held_state table).layout)

-- the live parts of a run
abbrev pub run_parts : Run → List PartRow → List PartRow
run_parts run layout = slice_range layout run.from (run.from + run.count)

abbrev pub joined_parts : Option Run → List PartRow → List PartRow
joined_parts None layout = []
joined_parts (Some run) layout = run_parts run layout

-- a file is that of none of these parts of a table
abbrev pub IsNoneOf : ℕ → List PartRow → FileId → Type 0
IsNoneOf table parts f = All (λ (row : PartRow). f ≢ part_of table row.part) parts

-- a call changes no file but those of these parts, and the text stays
pub record ChangesParts (tells failed : Type 0) (table : ℕ) (parts : List PartRow) (old new : Outside) : Type 0 where
  pub others : tells → (f : FileId) → IsNoneOf table parts f → new.files f ≡ old.files f
  pub said : tells → new.said ≡ old.said
  pub counts : CountsDisk failed old new

-- a crash may leave the files of no such part like this, and the text that was said
abbrev pub IsLeftBut : ℕ → List PartRow → (FileId → FileState) → List ℕ → Image → List ℕ → Type 0
IsLeftBut table parts files said image text = ((f : FileId) → IsNoneOf table parts f → IsFileImage (files f) (image f)) × (text ≡ said)

-- a call changes no file of another table, and the text stays
pub record ChangesFilesOf (tells failed : Type 0) (table : ℕ) (old new : Outside) : Type 0 where
  pub others : tells → (f : FileId) → f.table ≢ table → new.files f ≡ old.files f
  pub said : tells → new.said ≡ old.said
  pub counts : CountsDisk failed old new

-- the commit of a run that becomes one part, and what a table's log says behind it
pub record IsMerge (run : Run) (old new : State) : Type 0 where
  pub row : PartRow
  pub row_is : IsRowOf old.layout run row
  pub merges : Merges row old new

abbrev pub MakesMerge : Option Run → State → State → Type 0
MakesMerge None old new = new ≡ old
MakesMerge (Some run) old new = IsMerge run old new

-- behind these commits of a table is that of a run, where there is one
abbrev pub HoldsMerge : Option Run → Table → Table → (FileId → FileState) → List Commit → Type 0
HoldsMerge None was is files commits = HoldsCommits is files commits
HoldsMerge (Some run) was is files commits =
    (row : PartRow) × IsRowOf (held_state was).layout run row × HoldsCommits is files (commits ++ merge_of row ∷ [])

-- a call that was ended by this has written nothing
abbrev pub IsEarly : TableFault → Type 0
IsEarly TableFault.Failed = ⊥
IsEarly (TableFault.Damaged damage) = ⊤
IsEarly TableFault.NoMemory = ⊤

-- a call makes a run of a table's parts into one, where there is a run: within it a crash leaves the table's book from before it
-- or after it; the log has its commit then; damage is told of the first part of the run that is damaged, and without it they
-- are whole; an end for damage or for want of memory leaves table and files; and what is held stays bounded
pub record MergesRun {T : Type 0} (tells : Type 0) (run : Option Run) (result : Result T TableFault) (was is : Table) (old new : Outside) : Type 0 where
  pub turned : tells → (book : Book) → HoldsBook was old.files book → Turns result was is book (merged_where run book) old new
  pub commits : tells → OnOk result ((commits : List Commit) → HoldsCommits was old.files commits → HoldsMerge run was is new.files commits)
  pub makes : OnOk result (MakesMerge run (held_state was) (held_state is))
  pub whole : tells → OnOk result (ArePartsWhole was.number (held_form was) (joined_parts run (held_state was).layout) (bytes_in old))
  pub damaged : tells → (damage : Damage) → IsErrOf result (TableFault.Damaged damage)
      → IsPartDamage was.number (held_form was) (joined_parts run (held_state was).layout) (bytes_in old) damage
  pub early : IfErr result (λ (fault : TableFault). IsEarly fault → (is ≡ was) × (tells → KeepsFiles old.files new.files))
  pub ready : OnOk result (IsWithin is × (tells → IsPlaced is new.files))
  pub room : OnOk result (spare was ≤ spare is)
  pub same : (is.number ≡ was.number) × (held_form is ≡ held_form was)
  pub keeps : ChangesFilesOf tells (IsErrOf result TableFault.Failed) was.number old new
