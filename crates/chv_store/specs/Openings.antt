-- What the opening of a store finds.
use Rattle.std.specs.Prelude.{ℕ, ◌≡◌, ◌≢◌, ◌⊎◌, List, map, Option, None, Some, Result, Ok, Err}
use Rattle.chv_ast.specs.declared.statement.Statement.{Statement}
use Rattle.chv_catalog.specs.Schemas.{Catalog}
use Rattle.chv_catalog.specs.declared.definition.Definition.{Definition}
use Rattle.chv_catalog.specs.declared.table_def.TableDef.{TableDef}
use Rattle.chv_commit.specs.Commits.{commit_spelling}
use Rattle.chv_commit.specs.declared.commit.Commit.{Commit}
use Rattle.chv_query.specs.Accepted.{Accepted, IsAccepted, IsSchema, catalog_of, catalog_payload}
use Rattle.chv_gate.specs.GateLog.{HasFrames, IsReady}
use Rattle.chv_gate.specs.Reading.{IsOpen, IsFollowed}
use Rattle.chv_gate.specs.declared.fault.GateFault.{GateFault}
use Rattle.chv_gate.specs.declared.fault.GateFault.TheVariants as gate_fault
use Rattle.chv_part.specs.declared.damage.Damage.{Damage}
use Rattle.chv_part.specs.declared.damage.Damage.TheVariants as damaged
use Rattle.chv_print.specs.StatementTexts.{statement_text}
use Rattle.chv_site.specs.FileIds.{catalog_log, table_log}
use Rattle.chv_site.specs.Files.{FileState}
use Rattle.chv_site.specs.Images.{Image}
use Rattle.chv_site.specs.declared.file_id.FileId.{FileId}
use Rattle.chv_table.specs.Tables.{HoldsCommits}
use Rattle.chv_table.specs.declared.fault.TableFault.{TableFault}
use Rattle.chv_table.specs.declared.fault.TableFault.TheVariants as table_fault
use Rattle.chv_table.specs.declared.table.Table.{Table}
use Rattle.chv_store.specs.Damage.{HasSchema, IsCatalogDamage, IsTableDamage}
use Rattle.chv_store.specs.Stores.{EachTable}
use Rattle.chv_store.specs.declared.catalog.DefinitionRead.{DefinitionRead}
use Rattle.chv_store.specs.declared.fault.OpenFault.{OpenFault}
use Rattle.chv_store.specs.declared.store.Store.{Store}

-- a statement makes this beside what a catalog has: no check refuses it
abbrev pub MakesDefinition : Catalog → Statement → Definition → Type 0
MakesDefinition catalog create definition = IsAccepted catalog (record { statement = create; definition = definition })

-- a text is the canonical one of a statement that makes this
abbrev pub TextMakes : Catalog → List ℕ → Definition → Type 0
TextMakes catalog text definition = (create : Statement) × MakesDefinition catalog create definition × (text ≡ statement_text create)

-- a text is the canonical one of no statement that makes anything
abbrev pub TextMakesNone : Catalog → List ℕ → Type 0
TextMakesNone catalog text = (create : Statement) (definition : Definition) → MakesDefinition catalog create definition → text ≢ statement_text create

-- what is read behind a gate of the catalog's log, beside what is defined: the end, at a gate that is not open; else
-- what a statement makes, whose text follows that gate, and the next gate
abbrev pub ReadsDefinition : Catalog → ℕ → List ℕ → Option DefinitionRead → Type 0
ReadsDefinition catalog gate file None = IsOpen gate file → ⊥
ReadsDefinition catalog gate file (Some read) =
    (create : Statement) × MakesDefinition catalog create read.definition × IsOpen gate file × IsFollowed gate (statement_text create) read.next file

-- no text of a statement that makes something there follows an open gate
pub record LacksDefinition (catalog : Catalog) (gate : ℕ) (file : List ℕ) : Type 0 where
  pub opened : IsOpen gate file
  pub none : (create : Statement) (definition : Definition) (next : ℕ) → MakesDefinition catalog create definition → IsFollowed gate (statement_text create) next file → ⊥

-- this is what a catalog has: before and now its log has the texts of the schema that defines it, and at this gate it is ready
-- behind them
pub record HoldsCatalog (catalog : Catalog) (gate : ℕ) (before : List ℕ) (now : FileState) : Type 0 where
  pub schema : List Accepted
  pub lawful : IsSchema schema
  pub catalog_is : catalog ≡ catalog_of schema
  pub frames : HasFrames (map catalog_payload schema) before
  pub log : IsReady gate (map catalog_payload schema) now

-- why the catalog's log was not read on
abbrev pub catalog_fault_of : GateFault → TableFault
catalog_fault_of gate_fault.Failed = table_fault.Failed
catalog_fault_of (gate_fault.Damaged at) = table_fault.Damaged (damaged.Catalog at)
catalog_fault_of gate_fault.NoMemory = table_fault.NoMemory

-- a table that is opened holds the commits that its log has
pub record OpensTable (old : Image) (new : FileId → FileState) (number : ℕ) (def : TableDef) (table : Table) : Type 0 where
  pub commits : List Commit
  pub holds : HoldsCommits table new commits
  pub frames : HasFrames (map commit_spelling commits) (old (table_log number))

-- a store that is opened: no log is damaged, and it holds what they say
pub record OpensAs (store : Store) (old : Image) (new : FileId → FileState) : Type 0 where
  pub schema : List Accepted
  pub has : HasSchema old schema
  pub catalog_is : store.schema.catalog ≡ catalog_of schema
  pub catalog : IsReady store.catalog.gate (map catalog_payload schema) (new store.catalog.file)
  pub tables : EachTable (OpensTable old new) 1 store.schema.catalog.tables store.tables.items

-- a store was not opened, since a call of the site failed
abbrev pub FailsOpening : Result Store OpenFault → Type 0
FailsOpening (Ok store) = ⊥
FailsOpening (Err why) = why.fault ≡ table_fault.Failed

-- why a store was not opened: where a log is damaged, the fault has the tables of the catalog for which it was read
abbrev pub IsOpeningFault : Image → OpenFault → Type 0
IsOpeningFault files why = (damage : Damage) → why.fault ≡ table_fault.Damaged damage
    → IsCatalogDamage (files catalog_log) damage ⊎ IsTableDamage files why.schema.catalog.tables damage
