-- Aggregate functions over plain lists: docs/SQL.md, "Aggregate functions".
use Rattle.std.specs.Prelude.{ℤ, pos, ◌+ℤ◌, ◌%◌, ◌^◌, Bool, true, false, List, [], ◌∷◌, length, Option, None, Some}
use Rattle.std.specs.Option.{unwrap_or}
use Rattle.chv_agg.specs.States.{either_by, higher, is_signed, lower, signed_of, unsigned_of}
use Rattle.chv_types.specs.Members.{members}
use Rattle.chv_types.specs.Order.{number, value_cmp}
use Rattle.chv_types.specs.Values.{plain_default}
use Rattle.chv_types.specs.declared.aggregate.AggName.{AggName}
use Rattle.chv_types.specs.declared.aggregate.AggName.TheVariants as agg
use Rattle.chv_types.specs.declared.kind.Scalar.{Scalar}
use Rattle.chv_types.specs.declared.value.Value.{Value}
use Rattle.chv_types.specs.declared.value.Value.TheVariants.{Whole}

-- the sum of the numbers of values
abbrev pub total : List Value → ℤ
total [] = pos 0
total (value ∷ values) = number value +ℤ total values

-- one of the values of a list, by which of two is taken
abbrev pub chosen : (Value → Value → Value) → List Value → Option Value
chosen choose [] = None
chosen choose (value ∷ values) = either_by choose (Some value) (chosen choose values)

-- an integer modulo 2^64, with a sign or without
abbrev pub sum_value : Bool → ℤ → Value
sum_value true n = Whole (signed_of n)
sum_value false n = Whole (pos (unsigned_of n))

-- a function over a list of values of a kind
abbrev pub aggregate_of : AggName → Scalar → List Value → Value
aggregate_of agg.Count arg values = Whole (pos (length values % 2 ^ 64))
aggregate_of agg.Sum arg values = sum_value (is_signed arg) (total values)
aggregate_of agg.Min arg values = unwrap_or (chosen lower values) (plain_default arg)
aggregate_of agg.Max arg values = unwrap_or (chosen higher values) (plain_default arg)
aggregate_of agg.UniqExact arg values = Whole (pos (length (members value_cmp values)))
