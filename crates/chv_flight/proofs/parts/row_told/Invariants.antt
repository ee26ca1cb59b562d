-- The numbers that the row has so far.
use Rattle.std.proofs.Common.{◌≡◌, pos, map, take}
use Rattle.chv_types.specs.declared.value.Value.TheVariants.{Whole}
use Rattle.chv_flight.proofs.parts.row_told.Given as goal

abbrev pub invariant-loop-number : goal.invariant-loop-number
invariant-loop-number l = l.row.items ≡ map (λ n. Whole (pos n)) (take l.number-index l.number-items)
