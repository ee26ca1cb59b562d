-- What is held of deliveries.
use Rattle.std.specs.Prelude.{◌≡◌, ◌≤◌, List, [], ◌∷◌, length, Some}
use Rattle.chv_catalog.specs.Schemas.{Catalog, kinds_of}
use Rattle.chv_catalog.specs.declared.table_def.TableDef.{TableDef}
use Rattle.chv_part.specs.Parts.{part_file}
use Rattle.chv_query.specs.Arrivals.{IsArrival}
use Rattle.chv_query.specs.Derived.{def_at}
use Rattle.chv_query.specs.Plans.{Delivery}
use Rattle.chv_plan.specs.declared.delivery.Delivery.{Delivery as Held}

-- what is held of a delivery is that of an arrival in its table
pub record Delivers (catalog : Catalog) (held : Held) (delivery : Delivery) : Type 0 where
  pub def : TableDef
  pub stands : def_at catalog delivery.table ≡ Some def
  pub numbered : 1 ≤ delivery.table
  pub table : held.table ≡ delivery.table
  pub lawful : IsArrival catalog delivery.table delivery.entry
  pub id : held.id ≡ delivery.entry.id
  pub rows : held.rows ≡ length delivery.entry.rows
  pub encoded : held.encoded ≡ part_file (kinds_of def) delivery.entry.rows

-- what is held of a plan is that of its deliveries, in order
abbrev pub DeliversAll : Catalog → List Held → List Delivery → Type 0
DeliversAll catalog [] [] = Unit {0}
DeliversAll catalog [] (delivery ∷ plan) = ⊥
DeliversAll catalog (held ∷ rest) [] = ⊥
DeliversAll catalog (held ∷ rest) (delivery ∷ plan) = Delivers catalog held delivery × DeliversAll catalog rest plan
