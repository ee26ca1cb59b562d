use Rattle.std.proofs.Common.{take}
use Rattle.chv_query.specs.ViewQueries.{AreInOrder}
use Rattle.chv_query.proofs.view.are_in_order.Given as goal

abbrev pub invariant-loop-i : goal.invariant-loop-i
invariant-loop-i l = AreInOrder 0 (take l.i l.fillings)
