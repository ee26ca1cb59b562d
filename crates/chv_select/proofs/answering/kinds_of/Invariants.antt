use Rattle.std.proofs.Common.{◌≡◌, map, take}
use Rattle.chv_select.proofs.answering.kinds_of.Given as goal

abbrev pub invariant-loop-column : goal.invariant-loop-column
invariant-loop-column l = l.kinds.items ≡ map (λ column. column.kind) (take l.column-index l.column-items)
