use Rattle.std.proofs.Common.{◌≡◌, map, take}
use Rattle.chv_types.specs.Values.{default_of}
use Rattle.chv_plan.proofs.row.default_row.Given as goal

abbrev pub invariant-loop-kind : goal.invariant-loop-kind
invariant-loop-kind l = l.row.items ≡ map default_of (take l.kind-index l.kinds)
