use Rattle.chv_merge.specs.Picks.{AreLowest, levels_of}
use Rattle.chv_merge.proofs.picking.pick.Given as goal

abbrev pub invariant-loop-from : goal.invariant-loop-from
invariant-loop-from l = AreLowest (levels_of l.layout) l.from l.lowest
