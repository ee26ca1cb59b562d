-- The views on the path so far are bound.
use Rattle.std.proofs.Common.{take}
use Rattle.std.specs.List.{All}
use Rattle.chv_plan.specs.Bound.{BindsMore, IsThere}
use Rattle.chv_plan.proofs.views.bind_along.Given as goal

abbrev pub invariant-loop-view : goal.invariant-loop-view
invariant-loop-view l = record {
  more : BindsMore l.schema.catalog l.fn.bound.items l.bound.items;
  there : All (IsThere l.bound.items) (take l.view-index l.path);
}
