use Rattle.std.proofs.Common.{◌≡◌, take}
use Rattle.chv_group.proofs.climbing.set_of.Given as goal

abbrev pub invariant-loop-i : goal.invariant-loop-i
invariant-loop-i l = l.set.keys ≡ take l.i l.climbing
