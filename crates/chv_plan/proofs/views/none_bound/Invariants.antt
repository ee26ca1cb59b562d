-- So many places are there, and nothing is in them.
use Rattle.std.proofs.Common.{◌≡◌, Option, None, length}
use Rattle.std.specs.List.{All}
use Rattle.chv_plan.specs.declared.views.BoundView.{BoundView}
use Rattle.chv_plan.proofs.views.none_bound.Given as goal

abbrev pub invariant-loop : goal.invariant-loop
invariant-loop l = record {
  places : length l.bound.items ≡ l.counter;
  none : All (λ (view : Option BoundView). view ≡ None) l.bound.items;
}
