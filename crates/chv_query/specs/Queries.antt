-- What a query asks, or the first check that refuses it: docs/SQL.md, "SELECT".
use Rattle.std.specs.Prelude.{ℕ, Bool, true, false, not, ◌&&◌, List, [], ◌∷◌, map, slice_get, Option, None, Some, Result, Ok}
use Rattle.std.specs.Option.{option_map}
use Rattle.chv_ast.specs.declared.refusal.Refusal.{Refusal}
use Rattle.chv_ast.specs.declared.refusal.Refusal.TheVariants.{UnknownColumn, TypeMismatch, BadLiteral, NeedsFinal}
use Rattle.chv_ast.specs.declared.statement.Order.{Order}
use Rattle.chv_ast.specs.declared.statement.Select.{Select}
use Rattle.chv_catalog.specs.Checks.{is_state}
use Rattle.chv_catalog.specs.Schemas.{Catalog}
use Rattle.chv_query.specs.Tables.{table_of}
use Rattle.chv_catalog.specs.declared.table_def.TableDef.{TableDef}
use Rattle.chv_types.specs.Names.{place_of}
use Rattle.chv_types.specs.Steps.{and_then, or_refuse, refuse_if}
use Rattle.chv_types.specs.Texts.{whole_number}
use Rattle.chv_types.specs.declared.table.Column.{Column}
use Rattle.chv_types.specs.declared.table.Engine.{Engine}
use Rattle.chv_types.specs.declared.table.Engine.TheVariants as engine
use Rattle.chv_types.specs.declared.value.Value.{Value}
use Rattle.chv_expr.specs.Terms.{Term}
use Rattle.chv_query.specs.MergeBlind.{is_blind}
use Rattle.chv_query.specs.Outputs.{filter_of}
use Rattle.chv_query.specs.Results.{outcome, results, shaped, division_in, first_division_in}
use Rattle.chv_query.specs.Shapes.{shape_of}
use Rattle.chv_query.specs.declared.groups.Groups.{Groups}
use Rattle.chv_query.specs.declared.query.Sort.{Sort}

-- what a query asks: of which table, by its number and its definition; the condition, if any; what is evaluated on each row that
-- passes; how these rows are grouped, if they are; the output columns; the columns to sort by, the most telling first; how many
-- rows at most; and whether it does not see merges
pub record Asked : Type 0 where
  pub table : ℕ
  pub def : TableDef
  pub filter : Option Term
  pub terms : List Term
  pub grouping : Option Groups
  pub columns : List Column
  pub order : List Sort
  pub limit : Option ℕ
  pub blind : Bool

-- the column to sort by: the first of the name, which is no state
abbrev pub sort_of : List Column → Order → Result Sort Refusal
sort_of columns order =
    and_then (or_refuse UnknownColumn (place_of order.name (map (λ column. column.name) columns))) (λ place.
    and_then (or_refuse UnknownColumn (slice_get columns place)) (λ column.
    refuse_if (is_state column.kind) TypeMismatch (Ok (record { place = place; down = order.down }))))

-- the columns to sort by
abbrev pub sorts_of : List Column → List Order → Result (List Sort) Refusal
sorts_of columns [] = Ok []
sorts_of columns (order ∷ orders) = and_then (sort_of columns order) (λ sort. and_then (sorts_of columns orders) (λ sorts. Ok (sort ∷ sorts)))

-- how many rows at most
abbrev pub limit_of : Option (List ℕ) → Result (Option ℕ) Refusal
limit_of None = Ok None
limit_of (Some digits) = or_refuse BadLiteral (option_map Some (whole_number digits))

-- what a query asks of a table
abbrev pub asked_of : ℕ → TableDef → Select → Result Asked Refusal
asked_of table def select =
    and_then (filter_of def.columns select.filter) (λ filter.
    and_then (shape_of def.columns select) (λ shape.
    and_then (sorts_of shape.columns select.order) (λ order.
    and_then (limit_of select.limit) (λ limit.
    Ok (record {
      table = table;
      def = def;
      filter = filter;
      terms = shape.terms;
      grouping = shape.grouping;
      columns = shape.columns;
      order = order;
      limit = limit;
      blind = is_blind def select shape.grouping;
    })))))

-- what a query asks, or the first check that refuses it
unfoldable pub asked : Catalog → Select → Result Asked Refusal
asked catalog select = and_then (table_of catalog select.table) (λ found. asked_of found.0 found.1 select)

-- a query does not see which rows of its table merges have made one
abbrev pub is_merge_blind : Asked → Bool
is_merge_blind query = query.blind

-- merges of a table make rows one
abbrev pub joins_rows : Engine → Bool
joins_rows engine.MergeTree = false
joins_rows engine.Aggregating = true

-- a query needs FINAL: merges make rows of its table one, it might see which, and it has no FINAL
abbrev pub needs_final : Select → Asked → Bool
needs_final select query = joins_rows query.def.engine && (not select.merged && not (is_merge_blind query))

-- what a SELECT asks, or the first check that refuses it; what a view asks needs no FINAL, since it sees the blocks that are inserted
unfoldable pub asked_select : Catalog → Select → Result Asked Refusal
asked_select catalog select = and_then (asked catalog select) (λ query. refuse_if (needs_final select query) NeedsFinal (Ok query))

-- the values of its terms over a row that passes
abbrev pub made_of : Asked → List Value → Option (List (List Value))
made_of query = outcome query.filter query.terms

-- the rows of a query over the rows of its table
abbrev pub result_of : Asked → List (List Value) → List (List Value)
result_of query rows = shaped query.grouping (results (made_of query) rows)

-- a query divides by zero on one of these rows
abbrev pub divides : Asked → List (List Value) → Bool
divides query = division_in (made_of query)

-- the first of these rows on which a query divides by zero
abbrev pub first_division : Asked → List (List Value) → Option ℕ
first_division query = first_division_in (made_of query)
