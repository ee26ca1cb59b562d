-- Rows as a table keeps them: docs/SQL.md, "Normal form".
use Rattle.std.specs.Prelude.{ℕ, ◌+◌, nat_eq, Bool, if◌then◌else◌, List, [], ◌∷◌, map, slice_get, Option, None, Some}
use Rattle.std.specs.List.{filter_map, fold, list_any}
use Rattle.std.specs.Option.{option_and_then}
use Rattle.std.specs.Ordering.{is_lt, on, then_cmp}
use Rattle.std.specs.declared.cmp.Ordering.{Ordering}
use Rattle.chv_agg.specs.Pairs.{collapse}
use Rattle.chv_agg.specs.StateBytes.{join_bytes}
use Rattle.chv_agg.specs.States.{lower}
use Rattle.chv_types.specs.Order.{row_cmp}
use Rattle.chv_types.specs.Sorting.{sorted_by}
use Rattle.chv_types.specs.declared.aggregate.AggName.{AggName}
use Rattle.chv_types.specs.declared.kind.Kind.{Kind}
use Rattle.chv_types.specs.declared.kind.Kind.TheVariants as kind
use Rattle.chv_types.specs.declared.kind.Scalar.{Scalar}
use Rattle.chv_types.specs.declared.table.Engine.{Engine}
use Rattle.chv_types.specs.declared.table.Engine.TheVariants.{MergeTree, Aggregating}
use Rattle.chv_types.specs.declared.value.Value.{Value}
use Rattle.chv_types.specs.declared.value.Value.TheVariants.{State}

-- the values of a row at places, in their order
abbrev pub values_at : List ℕ → List Value → List Value
values_at places row = filter_map (slice_get row) places

-- rows are ordered by the columns of a key, in its order, and then by all columns
unfoldable pub key_cmp : List ℕ → List Value → List Value → Ordering
key_cmp key = then_cmp (on (values_at key) row_cmp) row_cmp

-- a row is below another in this order
abbrev pub key_below : List ℕ → List Value → List Value → Bool
key_below key a b = is_lt (key_cmp key a b)

-- the key of a row is below that of another
abbrev pub before : List ℕ → List Value → List Value → Bool
before key a b = is_lt (row_cmp (values_at key a) (values_at key b))

-- the normal form of rows: all of them, in the order of the key and then of all columns
unfoldable pub normal_form : List ℕ → List (List Value) → List (List Value)
normal_form key rows = sorted_by (key_below key) rows

-- the function whose states a column of a kind has, and the kind that they are over
abbrev pub states_of : Kind → Option (AggName × Scalar)
states_of (kind.Plain plain) = None
states_of (kind.State agg arg) = Some (agg, arg)

-- whose states are merged in the column at a place: none's in a column of the key
abbrev pub merged_at : List Kind → List ℕ → ℕ → Option (AggName × Scalar)
merged_at kinds key place = if list_any (nat_eq place) key then None else option_and_then states_of (slice_get kinds place)

-- two values as one: states whose column is merged as the merge of both, of others the lower; those of one key are the same
abbrev pub merge_values : Option (AggName × Scalar) → Value → Value → Value
merge_values (Some (agg, arg)) (State a) (State b) = State (join_bytes agg arg a b)
merge_values merged a b = lower a b

-- two rows as one, column by column from this place on; where one ends, the other goes on
abbrev pub merge_from : (ℕ → Option (AggName × Scalar)) → ℕ → List Value → List Value → List Value
merge_from merged place [] b = b
merge_from merged place (x ∷ a) [] = x ∷ a
merge_from merged place (x ∷ a) (y ∷ b) = merge_values (merged place) x y ∷ merge_from merged (place + 1) a b

-- two rows of a key as one
abbrev pub merge_rows : List Kind → List ℕ → List Value → List Value → List Value
merge_rows kinds key = merge_from (merged_at kinds key) 0

-- rows of a key as one
abbrev pub merge_all : List Kind → List ℕ → List (List Value) → List Value
merge_all kinds key [] = []
merge_all kinds key (row ∷ rows) = fold (merge_rows kinds key) row rows

-- a row with its key in front
abbrev pub keyed : List ℕ → List Value → List Value × List Value
keyed key row = (values_at key row, row)

-- the rows of each key as one, in the order of keys
unfoldable pub aggregated : List Kind → List ℕ → List (List Value) → List (List Value)
aggregated kinds key rows = map (λ pair. pair.1) (collapse row_cmp (merge_rows kinds key) (map (keyed key) rows))

-- rows as a table of an engine keeps them: all in order, or those of each key as one
abbrev pub normal_form_of : Engine → List Kind → List ℕ → List (List Value) → List (List Value)
normal_form_of MergeTree kinds key rows = normal_form key rows
normal_form_of Aggregating kinds key rows = aggregated kinds key rows
