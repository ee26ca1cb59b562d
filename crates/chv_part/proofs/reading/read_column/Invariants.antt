use Rattle.chv_part.specs.Columns.{HasGained}
use Rattle.chv_part.proofs.reading.read_column.Given as goal

abbrev pub invariant-loop-j : goal.invariant-loop-j
invariant-loop-j l = HasGained l.kind l.j l.fn.rows l.rows l.bytes l.at l.next
