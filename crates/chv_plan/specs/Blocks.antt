-- Blocks as deliveries.
use Rattle.std.specs.Prelude.{ℕ, ◌≡◌, ◌≤◌, List, length, Ok}
use Rattle.chv_ast.specs.declared.statement.Insert.{Insert}
use Rattle.chv_catalog.specs.Schemas.{Catalog, kinds_of}
use Rattle.chv_catalog.specs.declared.table_def.TableDef.{TableDef}
use Rattle.chv_types.specs.declared.value.Value.{Value}
use Rattle.chv_query.specs.Plans.{planned_for, deliveries_of}
use Rattle.chv_plan.specs.Below.{HoldsAll}
use Rattle.chv_plan.specs.declared.delivery.Delivery.{Delivery as Held}

-- an INSERT brings blocks to a table, and what is held is how they arrive
pub record Brings (catalog : Catalog) (table : ℕ) (def : TableDef) (insert : Insert) (held : List Held) : Type 0 where
  pub blocks : List (List (List Value))
  pub planned : planned_for catalog table def insert ≡ Ok (deliveries_of catalog table (kinds_of def) insert.settings.token 0 blocks)
  pub some : 1 ≤ length blocks
  pub holds : HoldsAll catalog held (deliveries_of catalog table (kinds_of def) insert.settings.token 0 blocks)
