-- The parts that are told so far.
use Rattle.std.proofs.Common.{◌≡◌, map, take}
use Rattle.chv_flight.specs.Parts.{row_told}
use Rattle.chv_flight.proofs.parts.parts_text.Given as goal

abbrev pub invariant-loop-part : goal.invariant-loop-part
invariant-loop-part l = l.rows.items ≡ map row_told (take l.part-index l.parts)
