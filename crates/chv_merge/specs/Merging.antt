-- The rows of a key, column by column.
use Rattle.std.specs.Prelude.{ℕ, Bool, false, List, [], ◌∷◌, map, slice_get, Option, None, Some}
use Rattle.std.specs.List.{filter_map}
use Rattle.std.specs.Ordering.{is_eq}
use Rattle.chv_agg.specs.StateBytes.{state_in}
use Rattle.chv_agg.specs.States.{merged, unit_of}
use Rattle.chv_agg.specs.declared.any_agg.AnyAgg.{AnyAgg}
use Rattle.chv_merge.specs.NormalForms.{values_at}
use Rattle.chv_types.specs.Members.{by_order}
use Rattle.chv_types.specs.Order.{bytes, row_cmp, value_cmp}
use Rattle.chv_types.specs.declared.aggregate.AggName.{AggName}
use Rattle.chv_types.specs.declared.kind.Scalar.{Scalar}
use Rattle.chv_types.specs.declared.value.Value.{Value}

-- the values that rows have at a place
abbrev pub column : ℕ → List (List Value) → List Value
column place rows = filter_map (λ row. slice_get row place) rows

-- the states that values spell
abbrev pub states_in : AggName → Scalar → List Value → List AnyAgg
states_in agg arg values = map (λ value. state_in agg arg (bytes value)) values

-- the merge of the states that rows have at a place
abbrev pub merged_states : AggName → Scalar → ℕ → List (List Value) → AnyAgg
merged_states agg arg place rows = merged (unit_of agg arg) (states_in agg arg (column place rows))

-- the second of two values, where it is lower than the first
abbrev pub lower_found : Option Value → Option Value → Option Value
lower_found (Some x) (Some y) = by_order (value_cmp x y) None None (Some y)
lower_found a b = None

-- the first of rows has the key of a row
abbrev pub begins_alike : List ℕ → List Value → List (List Value) → Bool
begins_alike key row [] = false
begins_alike key row (first ∷ rows) = is_eq (row_cmp (values_at key row) (values_at key first))
