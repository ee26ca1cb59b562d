-- States, case by case.
use Rattle.std.proofs.Common.{◌≡◌, ◌<◌, ◌^◌, pos, Bool, true, false, if◌then◌else◌, refl}
use Rattle.std.specs.declared.option.Option.{Option}
use Rattle.std.specs.declared.option.Option.TheVariants.{None, Some}
use Rattle.chv_agg.specs.States.{either_by, FitsState, is_signed, IsOver, set_size, unit_of}
use Rattle.chv_agg.specs.Tallies.{IsCounted}
use Rattle.chv_agg.specs.declared.any_agg.AnyAgg.{AnyAgg}
use Rattle.chv_agg.specs.declared.any_agg.AnyAgg.TheVariants.{Count, SumU, SumI, Least, Greatest, Uniq}
use Rattle.chv_types.specs.declared.aggregate.AggName.{AggName}
use Rattle.chv_types.specs.declared.aggregate.AggName.TheVariants as agg
use Rattle.chv_types.specs.declared.kind.Scalar.{Scalar}
use Rattle.chv_types.specs.declared.value.Value.{Value}

-- where nothing else was found, what was found stays
pub either_by-None : (choose : Value → Value → Value) (a : Option Value) → either_by choose a None ≡ a
either_by-None choose None = refl
either_by-None choose (Some a) = refl

pub ruleset found_laws = either_by-None

-- a state with a set of fewer than 2^64 values fits
pub FitsState-counted : (function : AggName) (arg : Scalar) (state : AnyAgg) → IsCounted state → IsOver function arg state → FitsState function arg state
FitsState-counted agg.Count arg state counted over = over
FitsState-counted agg.Sum arg state counted over = over
FitsState-counted agg.Min arg state counted over = over
FitsState-counted agg.Max arg state counted over = over
FitsState-counted agg.UniqExact arg (Count n) counted over = over
FitsState-counted agg.UniqExact arg (SumU n) counted over = over
FitsState-counted agg.UniqExact arg (SumI n) counted over = over
FitsState-counted agg.UniqExact arg (Least found) counted over = over
FitsState-counted agg.UniqExact arg (Greatest found) counted over = over
FitsState-counted agg.UniqExact arg (Uniq values) counted over = (over.0, over.1, counted)

-- a set of fewer than 2^64 values is so counted
IsCounted-few : (state : AnyAgg) → set_size state < 2 ^ 64 → IsCounted state
IsCounted-few (Uniq values) few = few
IsCounted-few (Count n) few = tt
IsCounted-few (SumU n) few = tt
IsCounted-few (SumI n) few = tt
IsCounted-few (Least found) few = tt
IsCounted-few (Greatest found) few = tt

pub FitsState-few : (function : AggName) (arg : Scalar) (state : AnyAgg) → set_size state < 2 ^ 64 → IsOver function arg state → FitsState function arg state
FitsState-few function arg state few over = FitsState-counted function arg state (IsCounted-few state few) over

-- the state of no values has no set of them
set_size-sum : (signed : Bool) → set_size (if signed then SumI (pos 0) else SumU 0) ≡ 0
set_size-sum false = refl
set_size-sum true = refl

pub set_size-unit : (function : AggName) (arg : Scalar) → set_size (unit_of function arg) ≡ 0
set_size-unit agg.Sum arg = set_size-sum (is_signed arg)
set_size-unit function arg = refl
