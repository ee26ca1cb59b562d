use Rattle.std.proofs.Common.{length, take}
use Rattle.chv_query.specs.Arrivals.{names_along}
use Rattle.chv_sip.specs.Below.{IsGiven}
use Rattle.chv_plan.proofs.ids.id_along.Given as goal

abbrev pub invariant-loop-view : goal.invariant-loop-view
invariant-loop-view l = IsGiven l.fn.id (length l.path) (names_along l.schema.catalog (take l.view-index l.path)) l.below
