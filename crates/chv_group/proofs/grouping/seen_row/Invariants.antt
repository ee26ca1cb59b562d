use Rattle.std.proofs.Common.{◌≡◌, map, take}
use Rattle.chv_types.specs.Values.{seen_value}
use Rattle.chv_group.proofs.grouping.seen_row.Given as goal

abbrev pub invariant-loop-value : goal.invariant-loop-value
invariant-loop-value l = map seen_value l.seen.items ≡ take l.value-index l.value-items
