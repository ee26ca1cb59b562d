use Rattle.std.proofs.Common.{◌≡◌, false, length}
use Rattle.std.specs.List.{list_any}
use Rattle.chv_query.specs.Plans.{deliveries_of, divides_below}
use Rattle.chv_plan.specs.Below.{HoldsAll}
use Rattle.chv_plan.proofs.insert.deliveries_of.Given as goal

abbrev pub invariant-loop-block : goal.invariant-loop-block
invariant-loop-block l = record {
  can_next : (goal.iterator-loop-block).can_next l.block-iterator;
  is_finite : (goal.iterator-loop-block).is_finite l.block-iterator;
  number : l.number ≡ length l.yielded;
  held : HoldsAll l.schema.catalog l.deliveries.items (deliveries_of l.schema.catalog l.table l.kinds l.token 0 l.yielded);
  sound : list_any (divides_below l.schema.catalog l.table) l.yielded ≡ false;
}
