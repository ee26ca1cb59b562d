use Rattle.std.proofs.Common.{◌≡◌, map, take}
use Rattle.chv_types.specs.Values.{seen_value}
use Rattle.chv_group.proofs.placed_key.row_of.Given as goal

abbrev pub invariant-loop-value : goal.invariant-loop-value
invariant-loop-value l = l.values.items ≡ map seen_value (take l.value-index l.key)
