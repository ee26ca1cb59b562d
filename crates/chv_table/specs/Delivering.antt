-- What a delivery does to its table and to the files.
use Rattle.std.specs.Prelude.{ℕ, ◌≡◌, ◌≢◌, ◌⊎◌, List, [], ◌∷◌, ◌++◌, length, Result, OnOk}
use Rattle.chv_site.specs.declared.file_id.FileId.{FileId}
use Rattle.chv_site.specs.During.{During}
use Rattle.chv_site.specs.Faults.{CountsDisk}
use Rattle.chv_site.specs.FileIds.{table_log, part_of}
use Rattle.chv_site.specs.Files.{FileState}
use Rattle.chv_site.specs.Images.{Image, IsFileImage}
use Rattle.chv_site.specs.Outside.{Outside}
use Rattle.chv_commit.specs.Replays.{State, added}
use Rattle.chv_commit.specs.declared.commit.Commit.{Commit}
use Rattle.chv_commit.specs.declared.commit.Commit.TheVariants.{Add}
use Rattle.chv_part.specs.Books.{Entry, Book, IsEntry}
use Rattle.chv_part.specs.Parts.{IsPartFile}
use Rattle.chv_part.specs.Standing.{TableStands}
use Rattle.chv_sip.specs.declared.block_id.BlockId.{BlockId}
use Rattle.chv_table.specs.Tables.{HoldsBook, held_form, held_state}
use Rattle.chv_table.specs.declared.table.Delivered.{Delivered}
use Rattle.chv_table.specs.declared.table.Delivered.TheVariants.{Written, Skipped}
use Rattle.chv_table.specs.declared.table.Table.{Table}

-- a call changes no file but the log of this table and this part, and the text stays
pub record ChangesTable (tells failed : Type 0) (table part : ℕ) (old new : Outside) : Type 0 where
  pub others : tells → (f : FileId) → f ≢ table_log table → f ≢ part_of table part → new.files f ≡ old.files f
  pub said : tells → new.said ≡ old.said
  pub counts : CountsDisk failed old new

-- what is delivered is this entry: under its id, with as many rows, in its part's file
pub record Brings (table : Table) (id : BlockId) (rows : ℕ) (encoded : List ℕ) (entry : Entry) : Type 0 where
  pub lawful : IsEntry (held_form table) entry
  pub id_is : id ≡ entry.id
  pub rows_are : rows ≡ length entry.rows
  pub encoded_is : IsPartFile (held_form table) entry.rows encoded

-- during a delivery: the files of other tables are as a crash may leave them, and this table's stand for its book before
-- or after it
pub record DeliveryLeft (table : Table) (old new : Book) (files : FileId → FileState) (said : List ℕ) (image : Image) (text : List ℕ) : Type 0 where
  pub others : (f : FileId) → f.table ≢ table.number → IsFileImage (files f) (image f)
  pub stands : TableStands image table.number (held_form table) old ⊎ TableStands image table.number (held_form table) new
  pub text_left : text ≡ said

-- a delivery turns the book of a table into the next
pub record Turns {T E : Type 0} (result : Result T E) (was is : Table) (book next : Book) (old new : Outside) : Type 0 where
  pub done : OnOk result (HoldsBook is new.files next)
  pub during : During old new (DeliveryLeft was book next old.files old.said)

-- the commits behind a delivery
abbrev pub commits_after : Delivered → Table → ℕ → BlockId → List Commit → List Commit
commits_after Skipped table rows id commits = commits
commits_after Written table rows id commits = commits ++ Add (held_state table).next_part rows (id ∷ []) ∷ []

-- what is held of a table's log behind a delivery
abbrev pub state_after : Delivered → Table → ℕ → BlockId → State
state_after Skipped table rows id = held_state table
state_after Written table rows id = added (held_form table).window (held_state table).next_part rows (id ∷ []) (held_state table)
