-- So many paths are done.
use Rattle.std.proofs.Common.{◌+◌, ◌*◌}
use Rattle.chv_plan.proofs.BelowLemmas.{IsDone}
use Rattle.chv_plan.proofs.below.+below.Given as goal

abbrev pub decreases-deliveries_below : goal.decreases-deliveries_below
decreases-deliveries_below l = 2 * l.room

abbrev pub decreases-deliveries_through : goal.decreases-deliveries_through
decreases-deliveries_through l = 2 * l.room + 1

abbrev pub invariant-deliveries_below-loop-view : goal.invariant-deliveries_below-loop-view
invariant-deliveries_below-loop-view l = IsDone l.bound.schema.now.catalog l.id l.path l.rows l.room l.table l.view l.deliveries.items
