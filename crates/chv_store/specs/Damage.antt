-- How a store is damaged: docs/FORMATS.md, "Damage".
use Rattle.std.specs.Prelude.{ℕ, ◌≡◌, ◌⊎◌, ◌+◌, ◌<◌, List, map, Some, slice_get}
use Rattle.chv_catalog.specs.declared.table_def.TableDef.{TableDef}
use Rattle.chv_commit.specs.Replays.{State, AreCommits}
use Rattle.chv_query.specs.Accepted.{Accepted, tables_of, IsSchema, AreTexts, catalog_payload}
use Rattle.chv_gate.specs.GateLog.{HasFrames}
use Rattle.chv_gate.specs.Reading.{IsDamagedAt}
use Rattle.chv_part.specs.declared.damage.Damage.{Damage}
use Rattle.chv_part.specs.declared.damage.Damage.TheVariants.{Catalog}
use Rattle.chv_site.specs.FileIds.{catalog_log, table_log}
use Rattle.chv_site.specs.Images.{Image}
use Rattle.chv_table.specs.Damage.{IsLogDamage}

-- the catalog's log is damaged, at the place that is told
abbrev pub IsCatalogDamage : List ℕ → Damage → Type 0
IsCatalogDamage file (Catalog at) = IsDamagedAt AreTexts at file
IsCatalogDamage file damage = ⊥

-- the catalog's log has the texts of this schema
pub record HasSchema (files : Image) (schema : List Accepted) : Type 0 where
  pub lawful : IsSchema schema
  pub frames : HasFrames (map catalog_payload schema) (files catalog_log)

-- a table's log is not damaged: its commits fit, and say this; the table's window keeps so many ids
pub record HasCommits (files : Image) (table window : ℕ) (state : State) : Type 0 where
  pub payloads : List (List ℕ)
  pub right : AreCommits window payloads
  pub log : HasFrames payloads (files (table_log table))
  pub state_is : state ≡ right.state

-- the log of a table is not damaged
abbrev pub IsLogWhole : Image → ℕ → ℕ → Type 0
IsLogWhole files table window = (state : State) × HasCommits files table window state

-- of the logs of these tables, this damage is in the first that is damaged
pub record IsFirstDamage (tables : List TableDef) (files : Image) (damage : Damage) : Type 0 where
  pub place : ℕ
  pub def : TableDef
  pub stands : slice_get tables place ≡ Some def
  pub earlier : (p : ℕ) (before : TableDef) → p < place → slice_get tables p ≡ Some before → IsLogWhole files (p + 1) before.window
  pub is : IsLogDamage (place + 1) def.window (files (table_log (place + 1))) damage

-- the catalog's log is not damaged, and this damage is in the first log that is, of those of its tables, which are these
pub record IsTableDamage (files : Image) (tables : List TableDef) (damage : Damage) : Type 0 where
  pub schema : List Accepted
  pub has : HasSchema files schema
  pub tables_are : tables ≡ tables_of schema
  pub first : IsFirstDamage tables files damage

-- a log is damaged that is read as the store is opened, and this damage is in the first
abbrev pub IsOpeningDamage : Image → Damage → Type 0
IsOpeningDamage files damage = IsCatalogDamage (files catalog_log) damage ⊎ ((tables : List TableDef) × IsTableDamage files tables damage)
