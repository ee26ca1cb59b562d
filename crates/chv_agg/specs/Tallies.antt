-- States that are worked on.
use Rattle.std.specs.Prelude.{◌<◌, ◌^◌, length}
use Rattle.chv_agg.specs.declared.any_agg.AnyAgg.{AnyAgg}
use Rattle.chv_agg.specs.declared.any_agg.AnyAgg.TheVariants.{Count, SumU, SumI, Uniq}
use Rattle.chv_agg.specs.declared.gathering.Work.{Work}
use Rattle.chv_agg.specs.declared.gathering.Work.TheVariants as work
use Rattle.chv_types.specs.Members.{members}
use Rattle.chv_types.specs.Order.{value_cmp}

-- the state that is worked on: of values that were gathered, the set of them
abbrev pub worked : Work → AnyAgg
worked (work.Count n) = Count n
worked (work.SumU n) = SumU n
worked (work.SumI n) = SumI n
worked (work.Gathered values) = Uniq (members value_cmp values.items)
worked (work.Joined state) = state.value

-- a set has fewer than 2^64 values
abbrev pub IsCounted : AnyAgg → Type 0
IsCounted (Uniq values) = length values < 2 ^ 64
IsCounted other = Unit {0}
