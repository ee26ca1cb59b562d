-- What is held of a store, beside its files.
use Rattle.std.specs.Prelude.{ℕ, ◌≡◌, ◌+◌, ◌-◌, ◌*◌, ◌<◌, ◌≤◌, List, [], ◌∷◌, length, map, get_or, Option, None, Some, slice_get}
use Rattle.std.specs.List.{All}
use Rattle.chv_catalog.specs.Schemas.{MAX_DEFINITIONS, definitions_in}
use Rattle.chv_catalog.specs.declared.table_def.TableDef.{TableDef}
use Rattle.chv_commit.specs.Replays.{State, no_state}
use Rattle.chv_part.specs.Books.{TableForm}
use Rattle.chv_part.specs.Forms.{form_of}
use Rattle.chv_site.specs.FileIds.{catalog_log}
use Rattle.chv_site.specs.Files.{FileState}
use Rattle.chv_site.specs.Outside.{Outside}
use Rattle.chv_site.specs.declared.file_id.FileId.{FileId}
use Rattle.chv_table.specs.Tables.{IsTableOf, HasRoomFor, held_state}
use Rattle.chv_table.specs.Tables.{IsWithin as IsTableWithin, IsPlaced as IsTablePlaced}
use Rattle.chv_table.specs.declared.table.Table.{Table}
use Rattle.chv_query.specs.Accepted.{IsCatalog}
use Rattle.chv_store.specs.declared.store.Store.{Store}

-- for each definition there is a table, and this is a fact of its number, of the definition and of what is held of it; the
-- first has this number
abbrev pub EachTable : (ℕ → TableDef → Table → Type 0) → ℕ → List TableDef → List Table → Type 0
EachTable P number [] [] = Unit {0}
EachTable P number [] (table ∷ tables) = ⊥
EachTable P number (def ∷ defs) [] = ⊥
EachTable P number (def ∷ defs) (table ∷ tables) = P number def table × EachTable P (number + 1) defs tables

-- the numbers that are held of a table are those of its definition, whatever its files hold
abbrev pub IsHeldAs : ℕ → TableDef → Table → Type 0
IsHeldAs number def table = IsTableWithin table × IsTableOf number def table

-- the most bytes by which a statement moves the catalog's gate: its text has at most 1,048,576
abbrev pub MAX_STEP : ℕ
MAX_STEP = 1048581

-- what is held of a store, whatever its files hold
pub record IsWithin (store : Store) : Type 0 where
  pub defined : IsCatalog store.schema.catalog
  pub catalog : store.catalog.file ≡ catalog_log
  pub few : definitions_in store.schema.catalog ≤ MAX_DEFINITIONS
  pub gate : store.catalog.gate ≤ MAX_STEP * definitions_in store.schema.catalog
  pub tables : EachTable IsHeldAs 1 store.schema.catalog.tables store.tables.items

-- the standing gate of each log is in its file, whatever the files hold
pub record IsPlaced (store : Store) (files : FileId → FileState) : Type 0 where
  pub catalog : store.catalog.gate < length (files store.catalog.file).bytes
  pub tables : All (λ table. IsTablePlaced table files) store.tables.items

-- a store that calls may go on with
pub record IsUsable (tells : Type 0) (store : Store) (outside : Outside) : Type 0 where
  pub within : IsWithin store
  pub placed : tells → IsPlaced store outside.files

-- the number is that of a table of the store
pub record IsTable (store : Store) (table : ℕ) : Type 0 where
  pub first : 1 ≤ table
  pub last : table ≤ length store.schema.catalog.tables

-- what is held of the tables' logs, in the order of their numbers
abbrev pub states_of : Store → List State
states_of store = map held_state store.tables.items

-- what is held of the log of the table of a number
abbrev pub state_of : Store → ℕ → State
state_of store table = get_or (states_of store) (table - 1) no_state

-- the forms of the tables, in the order of their numbers
abbrev pub forms_of : Store → List TableForm
forms_of store = map form_of store.schema.catalog.tables

-- how many ids the window of a table has, where it stands
abbrev pub window_in : Option TableDef → ℕ
window_in None = 0
window_in (Some def) = def.window

-- how many ids the window of the table of a number has
abbrev pub window_of : Store → ℕ → ℕ
window_of store table = window_in (slice_get store.schema.catalog.tables (table - 1))

-- the table of a number has room for so many deliveries
pub record HasRoom (count : ℕ) (store : Store) (table : ℕ) : Type 0 where
  pub is_table : IsTable store table
  pub held : Table
  pub stands : slice_get store.tables.items (table - 1) ≡ Some held
  pub room : HasRoomFor count held
