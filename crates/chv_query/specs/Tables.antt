-- The table that a statement names.
use Rattle.std.specs.Prelude.{ℕ, ◌+◌, List, slice_get, Result, Ok}
use Rattle.chv_ast.specs.declared.refusal.Refusal.{Refusal}
use Rattle.chv_ast.specs.declared.refusal.Refusal.TheVariants.{UnknownTable}
use Rattle.chv_catalog.specs.Schemas.{Catalog, table_names}
use Rattle.chv_catalog.specs.declared.table_def.TableDef.{TableDef}
use Rattle.chv_types.specs.Names.{place_of}
use Rattle.chv_types.specs.Steps.{and_then, or_refuse}

-- the table of a name, and its number, counted from 1
abbrev pub table_of : Catalog → List ℕ → Result (ℕ × TableDef) Refusal
table_of catalog name =
    and_then (or_refuse UnknownTable (place_of name (table_names catalog.tables))) (λ place.
    and_then (or_refuse UnknownTable (slice_get catalog.tables place)) (λ def. Ok (place + 1, def)))
