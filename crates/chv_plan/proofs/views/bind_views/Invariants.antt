-- The views on the paths so far are bound.
use Rattle.std.proofs.Common.{take}
use Rattle.chv_plan.specs.Bound.{AreBound, AreThere}
use Rattle.chv_plan.proofs.views.bind_views.Given as goal

abbrev pub invariant-loop-path : goal.invariant-loop-path
invariant-loop-path l = record {
  bound : AreBound l.schema.catalog l.bound.items;
  there : AreThere l.bound.items (take l.path-index l.path-items);
}
