-- A state has a byte or more.
use Rattle.std.proofs.Common.{◌≤◌, length, Option, Some, None, arith, length-append}
use Rattle.std.specs.Int.{to_le_bytes, w64}
use Rattle.chv_types.specs.declared.aggregate.AggName.{AggName}
use Rattle.chv_types.specs.declared.aggregate.AggName.TheVariants as agg
use Rattle.chv_types.specs.declared.kind.Scalar.{Scalar}
use Rattle.chv_types.specs.declared.value.Value.{Value}
use Rattle.chv_agg.proofs.ReadingLemmas.{some_bytes_each}
use Rattle.chv_agg.specs.Plain.{values_spelling}
use Rattle.chv_agg.specs.StateBytes.{found_bytes, state_bytes}
use Rattle.chv_agg.specs.States.{IsOver, set_size}
use Rattle.chv_agg.specs.declared.any_agg.AnyAgg.{AnyAgg}
use Rattle.chv_agg.specs.declared.any_agg.AnyAgg.TheVariants.{Count, SumU, SumI, Least, Greatest, Uniq}

-- 0, or 1 and a value
some_found : (arg : Scalar) (found : Option Value) → 1 ≤ length (found_bytes arg found)
some_found arg None = omega arith
some_found arg (Some value) = omega arith

-- a state has a byte or more
pub some_state : (arg : Scalar) (state : AnyAgg) → 1 ≤ length (state_bytes arg state)
unfolding state_bytes
some_state arg (Count n) = omega arith
some_state arg (SumU n) = omega arith
some_state arg (SumI n) = omega arith
some_state arg (Least found) = some_found arg found
some_state arg (Greatest found) = some_found arg found
some_state arg (Uniq values) = omega arith

-- a set has no more values than its state has bytes
pub size_bytes : (arg : Scalar) (state : AnyAgg) (function : AggName) → IsOver function arg state → set_size state ≤ length (state_bytes arg state)
unfolding state_bytes
size_bytes arg (Uniq values) agg.UniqExact h =
    omega (arith, some_bytes_each arg values h.0, length-append (to_le_bytes w64 (length values)) (values_spelling arg values))
size_bytes arg (Uniq values) agg.Count h = absurd h
size_bytes arg (Uniq values) agg.Sum h = absurd h
size_bytes arg (Uniq values) agg.Min h = absurd h
size_bytes arg (Uniq values) agg.Max h = absurd h
size_bytes arg state function h = omega arith
