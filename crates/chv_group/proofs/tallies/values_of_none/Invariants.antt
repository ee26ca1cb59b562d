use Rattle.std.proofs.Common.{◌≡◌, map, take}
use Rattle.chv_group.specs.Tallies.{unit_value}
use Rattle.chv_group.proofs.tallies.values_of_none.Given as goal

abbrev pub invariant-loop-call : goal.invariant-loop-call
invariant-loop-call l = l.row ≡ map unit_value (take l.call-index l.calls)
