-- What views make of blocks: docs/SQL.md, "CREATE MATERIALIZED VIEW".
use Rattle.std.specs.Prelude.{ℕ, ◌-◌, Bool, false, ◌||◌, List, [], ◌∷◌, map, Option, None, Some, Result, Ok, Err, slice_get}
use Rattle.std.specs.Option.{option_and_then, option_map, unwrap_or}
use Rattle.chv_ast.specs.declared.refusal.Refusal.{Refusal}
use Rattle.chv_catalog.specs.Schemas.{Catalog}
use Rattle.chv_catalog.specs.declared.table_def.TableDef.{TableDef}
use Rattle.chv_catalog.specs.declared.view_def.ViewDef.{ViewDef}
use Rattle.chv_part.specs.Books.{TableForm}
use Rattle.chv_part.specs.Forms.{form_of}
use Rattle.chv_types.specs.Names.{place_of}
use Rattle.chv_types.specs.Values.{default_of}
use Rattle.chv_types.specs.declared.table.Column.{Column}
use Rattle.chv_types.specs.declared.table.Engine.TheVariants.{MergeTree}
use Rattle.chv_types.specs.declared.value.Value.{Value}
use Rattle.chv_query.specs.Queries.{Asked, asked, divides, result_of}
use Rattle.chv_query.specs.Views.{names_in}

-- the table of a number
abbrev pub def_at : Catalog → ℕ → Option TableDef
def_at catalog table = slice_get catalog.tables (table - 1)

-- the columns of the table of a number
abbrev pub columns_at : Catalog → ℕ → List Column
columns_at catalog table = unwrap_or (option_map (λ (def : TableDef). def.columns) (def_at catalog table)) []

-- the form of the table of a number; of none, one without columns
abbrev pub form_in : Option TableDef → TableForm
form_in None = record { engine = MergeTree; window = 0; kinds = []; key = [] }
form_in (Some def) = form_of def

abbrev pub form_at : Catalog → ℕ → TableForm
form_at catalog table = form_in (def_at catalog table)

-- the value that goes to a column: that of its name, or its default
abbrev pub value_to : List (List ℕ) → List Value → Column → Value
value_to names values column = unwrap_or (option_and_then (slice_get values) (place_of column.name names)) (default_of column.kind)

-- values by these names as a row of columns
abbrev pub put_to : List Column → List (List ℕ) → List Value → List Value
put_to columns names values = map (value_to names values) columns

-- what is made of rows, put to columns by name; of no rows nothing is made
abbrev pub viewed : Asked → List Column → List (List Value) → List (List Value)
viewed query columns [] = []
viewed query columns (row ∷ rows) = map (put_to columns (names_in query.columns)) (result_of query (row ∷ rows))

-- what a query makes of rows, where it is one, put to columns by name
abbrev pub viewed_by : Result Asked Refusal → List Column → List (List Value) → List (List Value)
viewed_by (Err refusal) columns rows = []
viewed_by (Ok query) columns rows = viewed query columns rows

-- what a view makes of rows of its source
abbrev pub through : Catalog → Option ViewDef → List (List Value) → List (List Value)
through catalog None rows = []
through catalog (Some view) rows = viewed_by (asked catalog view.select) (columns_at catalog view.target) rows

-- a query divides by zero on one of these rows, where it is one
abbrev pub divides_by : Result Asked Refusal → List (List Value) → Bool
divides_by (Err refusal) rows = false
divides_by (Ok query) rows = divides query rows

-- a view divides by zero on one of these rows
abbrev pub divides_in : Catalog → Option ViewDef → List (List Value) → Bool
divides_in catalog None rows = false
divides_in catalog (Some view) rows = divides_by (asked catalog view.select) rows

-- the block that is derived from another along a path
abbrev pub derived : Catalog → List (List Value) → List ℕ → List (List Value)
derived catalog block [] = block
derived catalog block (view ∷ path) = derived catalog (through catalog (slice_get catalog.views view) block) path

-- a view on a path divides by zero
abbrev pub divides_along : Catalog → List (List Value) → List ℕ → Bool
divides_along catalog block [] = false
divides_along catalog block (view ∷ path) =
    divides_in catalog (slice_get catalog.views view) block || divides_along catalog (through catalog (slice_get catalog.views view) block) path
