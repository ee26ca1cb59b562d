-- What is evaluated on each row, and what becomes of it: docs/SQL.md, "SELECT", "GROUP BY".
use Rattle.std.specs.Prelude.{ℕ, ◌+◌, Bool, false, not, ◌||◌, if◌then◌else◌, List, [], ◌∷◌, ◌++◌, map, length, slice_get, Option, None, Some, is_some, Result, Ok, Err}
use Rattle.std.specs.List.{list_any}
use Rattle.chv_ast.specs.declared.expr.Expr.{Expr}
use Rattle.chv_ast.specs.declared.refusal.Refusal.{Refusal}
use Rattle.chv_ast.specs.declared.refusal.Refusal.TheVariants.{TypeMismatch}
use Rattle.chv_ast.specs.declared.statement.Item.{Item}
use Rattle.chv_ast.specs.declared.statement.Item.TheVariants as shown
use Rattle.chv_ast.specs.declared.statement.Select.{Select}
use Rattle.chv_expr.specs.Terms.{Term, term_of}
use Rattle.chv_group.specs.Groups.{is_empty}
use Rattle.chv_group.specs.declared.call.AggCall.{AggCall}
use Rattle.chv_query.specs.Calls.{Called, Wanted, call_kind, call_of, wanted}
use Rattle.chv_query.specs.Keys.{Key, keys_of, place_of_key}
use Rattle.chv_query.specs.Outputs.{Output, columns_of, output_name, outputs_of}
use Rattle.chv_query.specs.declared.groups.Groups.{Groups}
use Rattle.chv_types.specs.Steps.{and_then, or_refuse}
use Rattle.chv_types.specs.declared.table.Column.{Column}

-- what is evaluated on each row that passes, how these rows are grouped, if they are, and the output columns
pub record Shape : Type 0 where
  pub terms : List Term
  pub grouping : Option Groups
  pub columns : List Column

-- an item is a call of an aggregate function
abbrev pub is_call : Item → Bool
is_call shown.All = false
is_call (shown.One e alias) = is_some (wanted e)

-- a select groups where it has keys or a call of an aggregate function as an item
abbrev pub is_grouping : Select → Bool
is_grouping select = not (is_empty select.keys) || list_any is_call select.items

-- the calls of items, what their arguments are, and the output columns: for each its place among keys and results
pub record Cells : Type 0 where
  pub calls : List AggCall
  pub args : List Term
  pub columns : List Column
  pub places : List ℕ

-- those of no items
abbrev pub no_cells : Cells
no_cells = record { calls = []; args = []; columns = []; places = [] }

-- one call more, behind so many keys
abbrev pub with_call : List ℕ → ℕ → Cells → Called → Cells
with_call name keys cells called = record {
  calls = cells.calls ++ called.call ∷ [];
  args = cells.args ++ called.arg ∷ [];
  columns = cells.columns ++ record { name = name; kind = call_kind called.call } ∷ [];
  places = cells.places ++ (keys + length cells.calls) ∷ [];
}

-- an output column more that shows the key of a place
abbrev pub with_key : List ℕ → Cells → ℕ → Key → Cells
with_key name cells place key = record {
  calls = cells.calls;
  args = cells.args;
  columns = cells.columns ++ record { name = name; kind = key.term.kind } ∷ [];
  places = cells.places ++ place ∷ [];
}

-- the key that an expression shows, and its place
abbrev pub key_shown : List Column → List Key → Expr → Result (ℕ × Key) Refusal
key_shown columns keys e =
    and_then (term_of columns e) (λ term.
    and_then (or_refuse TypeMismatch (place_of_key keys e)) (λ place.
    and_then (or_refuse TypeMismatch (slice_get keys place)) (λ key. Ok (place, key))))

-- an item that is no call of an aggregate function: it shows a key
abbrev pub put_key : List Column → List Key → Cells → List ℕ → Expr → Result Cells Refusal
put_key columns keys cells name e = and_then (key_shown columns keys e) (λ found. Ok (with_key name cells found.0 found.1))

-- an expression as an item, behind others
abbrev pub put_wanted : List Column → List Key → Cells → List ℕ → Expr → Option Wanted → Result Cells Refusal
put_wanted columns keys cells name e None = put_key columns keys cells name e
put_wanted columns keys cells name e (Some wanted) = and_then (call_of columns wanted) (λ called. Ok (with_call name (length keys) cells called))

-- an item behind others; all columns are none
abbrev pub put_item : List Column → List Key → Cells → Item → Result Cells Refusal
put_item columns keys cells shown.All = Err TypeMismatch
put_item columns keys cells (shown.One e alias) = put_wanted columns keys cells (output_name alias e) e (wanted e)

-- items behind others
abbrev pub put_items : List Column → List Key → Cells → List Item → Result Cells Refusal
put_items columns keys cells [] = Ok cells
put_items columns keys cells (item ∷ items) = and_then (put_item columns keys cells item) (λ more. put_items columns keys more items)

-- the shape of groups; without keys there is always one
abbrev pub shape_of_cells : List Key → Cells → Shape
shape_of_cells keys cells = record {
  terms = map (λ (key : Key). key.term) keys ++ cells.args;
  grouping = Some (record { keys = length keys; calls = cells.calls; cells = cells.places; always = is_empty keys });
  columns = cells.columns;
}

-- the shape of a query that groups: keys come before items
abbrev pub shape_of_groups : List Column → List Expr → List Item → Result Shape Refusal
shape_of_groups columns keys items =
    and_then (keys_of columns items keys) (λ found. and_then (put_items columns found no_cells items) (λ cells. Ok (shape_of_cells found cells)))

-- the shape of output columns, row by row
abbrev pub shape_of_outputs : List Output → Shape
shape_of_outputs outputs = record { terms = map (λ (output : Output). output.term) outputs; grouping = None; columns = columns_of outputs }

-- the shape of a query
unfoldable pub shape_of : List Column → Select → Result Shape Refusal
shape_of columns select =
    if is_grouping select then shape_of_groups columns select.keys select.items
    else and_then (outputs_of columns select.items) (λ outputs. Ok (shape_of_outputs outputs))
