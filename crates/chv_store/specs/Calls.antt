-- What the calls on a store do.
use Rattle.std.specs.Prelude.{ℕ, ◌≡◌, ◌≢◌, ◌↔◌, ◌⊎◌, ◌+◌, ◌-◌, ◌≤◌, List, [], ◌∷◌, ◌++◌, length, slice_get, slice_set, Some, Result, OnOk}
use Rattle.std.specs.List.{Contains}
use Rattle.chv_catalog.specs.declared.table_def.TableDef.{TableDef}
use Rattle.chv_commit.specs.Replays.{State, added}
use Rattle.chv_commit.specs.declared.commit.Commit.{Commit}
use Rattle.chv_commit.specs.declared.commit.Commit.TheVariants.{Add}
use Rattle.chv_part.specs.Books.{TableForm, Book, Entry, IsEntry, arrived}
use Rattle.chv_part.specs.Forms.{form_of}
use Rattle.chv_part.specs.Parts.{IsPartFile}
use Rattle.chv_part.specs.Standing.{FilesStand}
use Rattle.chv_sip.specs.declared.block_id.BlockId.{BlockId}
use Rattle.chv_site.specs.During.{During}
use Rattle.chv_site.specs.Faults.{CountsDisk}
use Rattle.chv_site.specs.FileIds.{catalog_log, table_log}
use Rattle.chv_site.specs.Files.{FileState}
use Rattle.chv_site.specs.Images.{Image}
use Rattle.chv_site.specs.Outside.{Outside, bytes_in}
use Rattle.chv_site.specs.declared.file_id.FileId.{FileId}
use Rattle.chv_table.specs.declared.table.Delivered.{Delivered}
use Rattle.chv_table.specs.declared.table.Delivered.TheVariants.{Written, Skipped}
use Rattle.chv_store.specs.Holding.{HoldsBooks, HoldsLogs, with_one, with_book}
use Rattle.chv_store.specs.Stores.{IsWithin, IsPlaced, HasRoom, states_of, state_of, window_of}
use Rattle.chv_store.specs.declared.store.Store.{Store}

-- the files stand for these
abbrev pub StandsFor : List (List ℕ) → List TableForm → (ℕ → Book) → Image → Type 0
StandsFor payloads forms books = λ image. FilesStand image payloads forms books

-- the image is one from before a call or one from behind it, and the text is this
pub record EitherLeft (was next : Image → Type 0) (said : List ℕ) (image : Image) (text : List ℕ) : Type 0 where
  pub stands : was image ⊎ next image
  pub text_left : text ≡ said

-- the image stands for these, and the text is this
pub record StandsLeft (payloads : List (List ℕ)) (forms : List TableForm) (books : ℕ → Book) (said : List ℕ) (image : Image) (text : List ℕ) : Type 0 where
  pub stands : FilesStand image payloads forms books
  pub text_left : text ≡ said

-- once it is done, this holds; and a crash at any moment of the call leaves files as before it or as behind it
pub record Turns {T E : Type 0} (result : Result T E) (holds : Type 0) (was next : Image → Type 0) (old new : Outside) : Type 0 where
  pub done : OnOk result holds
  pub during : During old new (EitherLeft was next old.said)

-- a call that begins a log and appends to the catalog's: the other files and the text stay
pub record ChangesLogs (tells failed : Type 0) (table : ℕ) (old new : Outside) : Type 0 where
  pub others : tells → (f : FileId) → f ≢ catalog_log → f ≢ table_log table → new.files f ≡ old.files f
  pub said : tells → new.said ≡ old.said
  pub counts : CountsDisk failed old new

-- a call that begins logs: the other files and the text stay, and so do the bytes of each log of two bytes or more, for
-- every answer
pub record BeginsLogs (tells failed : Type 0) (old new : Outside) : Type 0 where
  pub others : tells → (f : FileId) → f.part ≢ 0 → new.files f ≡ old.files f
  pub logs : tells → (f : FileId) → 2 ≤ length (bytes_in old f) → bytes_in new f ≡ bytes_in old f
  pub said : tells → new.said ≡ old.said
  pub counts : CountsDisk failed old new

-- what is delivered to the table of a number is this entry: under its id, with as many rows, in its part's file
pub record BringsTo (tables : List TableDef) (table : ℕ) (id : BlockId) (rows : ℕ) (encoded : List ℕ) (entry : Entry) : Type 0 where
  pub def : TableDef
  pub stands : slice_get tables (table - 1) ≡ Some def
  pub lawful : IsEntry (form_of def) entry
  pub id_is : id ≡ entry.id
  pub rows_are : rows ≡ length entry.rows
  pub encoded_is : IsPartFile (form_of def) entry.rows encoded

-- the books behind a delivery of an entry to a table
abbrev pub books_behind : Store → ℕ → Entry → (ℕ → Book) → ℕ → Book
books_behind store table entry books = with_book table (arrived (window_of store table) entry (books table)) books

-- the commits behind a delivery
abbrev pub commits_behind : Delivered → Store → ℕ → ℕ → BlockId → (ℕ → List Commit) → ℕ → List Commit
commits_behind Skipped store table rows id commits = commits
commits_behind Written store table rows id commits =
    with_one table (commits table ++ Add (state_of store table).next_part rows (id ∷ []) ∷ []) commits

-- what is held of the tables' logs behind a delivery
abbrev pub states_behind : Delivered → Store → ℕ → ℕ → BlockId → List State
states_behind Skipped store table rows id = states_of store
states_behind Written store table rows id =
    let state = state_of store table in
    slice_set (states_of store) (table - 1) (added (window_of store table) state.next_part rows (id ∷ []) state)

-- what a delivery does to what is held, whatever the files are: it is skipped exactly where its id is among the last of its
-- table, and uses up the room of one delivery to its table at most
pub record Notes (answer : Delivered) (was is : Store) (table rows : ℕ) (id : BlockId) : Type 0 where
  pub skipped : (answer ≡ Skipped) ↔ Contains (state_of was table).ids id
  pub schema : is.schema ≡ was.schema
  pub states : states_of is ≡ states_behind answer was table rows id
  pub room : (count : ℕ) → HasRoom (count + 1) was table → HasRoom count is table
  pub rooms : (other count : ℕ) → other ≢ table → HasRoom count was other → HasRoom count is other

-- the same is held, but for room in memory
pub record HoldsSame (was is : Store) : Type 0 where
  pub schema : is.schema ≡ was.schema
  pub states : states_of is ≡ states_of was
  pub within : IsWithin is
  pub placed : (files : FileId → FileState) → IsPlaced was files → IsPlaced is files
  pub books : (files : FileId → FileState) (payloads : List (List ℕ)) (books : ℕ → Book) → HoldsBooks was files payloads books → HoldsBooks is files payloads books
  pub logs : (files : FileId → FileState) (payloads : List (List ℕ)) (commits : ℕ → List Commit) → HoldsLogs was files payloads commits → HoldsLogs is files payloads commits
