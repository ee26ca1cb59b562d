-- How damage is told.
use Rattle.std.specs.Prelude.{ℕ, zero, suc, ◌≡◌, ◌⊎◌, ◌-◌, ◌+◌, ◌<◌, ◌≤◌, List, [], ◌∷◌, length, Some, Ok, Option, None, slice_get}
use Rattle.chv_catalog.specs.declared.table_def.TableDef.{TableDef}
use Rattle.chv_commit.specs.Replays.{State}
use Rattle.chv_commit.specs.declared.part_row.PartRow.{PartRow}
use Rattle.chv_query.specs.Accepted.{Accepted, catalog_of, tables_of}
use Rattle.chv_history.specs.Kept.{Kept, kept_answer}
use Rattle.chv_history.specs.Script.{Request}
use Rattle.chv_history.specs.Tasks.{TellRows}
use Rattle.chv_part.specs.Forms.{form_of}
use Rattle.chv_part.specs.declared.damage.Damage.{Damage}
use Rattle.chv_part.specs.declared.damage.Damage.TheVariants.{Catalog, Log, PartHash, PartShape}
use Rattle.chv_query.specs.Queries.{Asked}
use Rattle.chv_site.specs.FileIds.{catalog_log, table_log}
use Rattle.chv_site.specs.Files.{FileState}
use Rattle.chv_site.specs.Images.{Image}
use Rattle.chv_site.specs.declared.file_id.FileId.{FileId}
use Rattle.chv_store.specs.Damage.{IsCatalogDamage, IsTableDamage, HasSchema, HasCommits}
use Rattle.chv_table.specs.Damage.{IsPartDamage}
use Rattle.chv_engine.specs.DamageLines.{damage_line}

-- the name of a table, where it stands
abbrev pub name_in : Option TableDef → List ℕ
name_in None = []
name_in (Some def) = def.name

-- the name of the table of a number, counted from 1, where it stands
abbrev pub name_at : List TableDef → ℕ → List ℕ
name_at tables zero = []
name_at tables (suc place) = name_in (slice_get tables place)

-- the name that goes with a damage: that of its table
abbrev pub name_of : List TableDef → Damage → List ℕ
name_of tables (Catalog at) = []
name_of tables (Log table at) = name_at tables table
name_of tables (PartHash table part kept found) = name_at tables table
name_of tables (PartShape table part) = name_at tables table

-- the line that tells a damage beside these tables
abbrev pub line_of : List TableDef → Damage → List ℕ
line_of tables damage = damage_line damage (name_of tables damage)

-- a log is damaged that is read as the store is opened, and this line tells the first
pub record IsOpeningDamaged (files : Image) (line : List ℕ) : Type 0 where
  pub tables : List TableDef
  pub damage : Damage
  pub is : IsCatalogDamage (files catalog_log) damage ⊎ IsTableDamage files tables damage
  pub told : line ≡ line_of tables damage

-- the files of each table that the catalog has say what is live of it; this is said of the numbers that it has not
abbrev pub HasNoStrays : (FileId → FileState) → Type 0
HasNoStrays files =
    (schema : List Accepted) (table : ℕ) → HasSchema (λ f. (files f).bytes) schema → length (tables_of schema) < table → (files (table_log table)).most ≤ 1

-- these are the live parts of a table that the catalog has, as its log says
pub record AreLive (files : Image) (tables : List TableDef) (table : ℕ) (def : TableDef) (layout : List PartRow) : Type 0 where
  pub schema : List Accepted
  pub has : HasSchema files schema
  pub tables_are : tables ≡ tables_of schema
  pub state : State
  pub commits : HasCommits files table def.window state
  pub layout_is : layout ≡ state.layout

-- of some parts of a table this one is the first that is damaged, and this line tells it; where files are sound as a run
-- begins, these are the table's live parts
pub record IsPartDamaged (sound : Type 0) (files : Image) (line : List ℕ) : Type 0 where
  pub tables : List TableDef
  pub table : ℕ
  pub def : TableDef
  pub stands : slice_get tables (table - 1) ≡ Some def
  pub layout : List PartRow
  pub damage : Damage
  pub is : IsPartDamage table (form_of def) layout files damage
  pub live : sound → AreLive files tables table def layout
  pub told : line ≡ line_of tables damage

-- what the logs of a store say of its tables, before it is opened
pub record HasKept (files : Image) (kept : Kept) : Type 0 where
  pub schema : List Accepted
  pub has : HasSchema files schema
  pub catalog : kept.catalog ≡ catalog_of schema
  pub states : (place : ℕ) (def : TableDef) → slice_get kept.catalog.tables place ≡ Some def → HasCommits files (place + 1) def.window (kept.states (place + 1))

-- no log is damaged, the first request is a query that no check refuses, and this line tells the first damaged one of the parts
-- of its table
pub record MeetsPart (files : Image) (request : Request) (line : List ℕ) : Type 0 where
  pub kept : Kept
  pub has : HasKept files kept
  pub query : Asked
  pub asks : kept_answer request kept ≡ Ok (TellRows query)
  pub damage : Damage
  pub is : IsPartDamage query.table (form_of query.def) (kept.states query.table).layout files damage
  pub told : line ≡ line_of kept.catalog.tables damage

-- the first of these requests meets a part that is damaged, and this line tells it
abbrev pub FirstMeets : Image → List Request → List ℕ → Type 0
FirstMeets files [] line = ⊥
FirstMeets files (request ∷ requests) line = MeetsPart files request line
