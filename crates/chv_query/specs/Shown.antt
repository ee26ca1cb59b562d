-- What is shown of a query: docs/SQL.md, "SELECT".
use Rattle.std.specs.Prelude.{ℕ, Bool, true, false, List, [], ◌∷◌, map, take, Option, None, Some}
use Rattle.std.specs.Ordering.{is_lt, ordering_then, ordering_reverse}
use Rattle.std.specs.declared.cmp.Ordering.{Ordering}
use Rattle.chv_types.specs.Order.{row_cmp, value_cmp}
use Rattle.chv_types.specs.Sorting.{sorted_by}
use Rattle.chv_types.specs.declared.kind.Kind.{Kind}
use Rattle.chv_types.specs.declared.table.Column.{Column}
use Rattle.chv_types.specs.declared.value.Value.{Value}
use Rattle.chv_expr.specs.Terms.{value_at}
use Rattle.chv_query.specs.Queries.{Asked, result_of}
use Rattle.chv_query.specs.declared.query.Sort.{Sort}

-- an order, turned where it descends
abbrev pub turned : Bool → Ordering → Ordering
turned false order = order
turned true order = ordering_reverse order

-- rows go by the columns to sort by, in their order, and then by all their values, which ascend
abbrev pub order_cmp : List Sort → List Value → List Value → Ordering
order_cmp [] a b = row_cmp a b
order_cmp (sort ∷ sorts) a b =
    ordering_then (turned sort.down (value_cmp (value_at sort.place a) (value_at sort.place b))) (order_cmp sorts a b)

-- a row is below another in this order
abbrev pub order_below : List Sort → List Value → List Value → Bool
order_below sorts a b = is_lt (order_cmp sorts a b)

-- the first of a list, as many as are shown at most
abbrev pub up_to : {A : Type 0} → Option ℕ → List A → List A
up_to None rows = rows
up_to (Some limit) rows = take limit rows

-- rows in order, and the first of them
unfoldable pub shown : List Sort → Option ℕ → List (List Value) → List (List Value)
shown sorts limit rows = up_to limit (sorted_by (order_below sorts) rows)

-- what is shown of a query over the rows of its table
abbrev pub shown_of : Asked → List (List Value) → List (List Value)
shown_of query rows = shown query.order query.limit (result_of query rows)

-- the kinds of its columns
abbrev pub kinds_shown : Asked → List Kind
kinds_shown query = map (λ (column : Column). column.kind) query.columns
