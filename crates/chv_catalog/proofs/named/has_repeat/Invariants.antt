use Rattle.std.proofs.Common.{◌≡◌, map, take, false}
use Rattle.chv_catalog.specs.Checks.{has_repeat}
use Rattle.chv_catalog.proofs.named.has_repeat.Given as goal

abbrev pub invariant-loop-i : goal.invariant-loop-i
invariant-loop-i g l = has_repeat (map g.T.Named.text (take l.i l.items)) ≡ false
