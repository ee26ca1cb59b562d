use Rattle.std.proofs.Common.{length, take}
use Rattle.chv_part.proofs.ReadingLemmas.{HasRead}
use Rattle.chv_part.proofs.reading.read_columns.Given as goal

abbrev pub invariant-loop-place : goal.invariant-loop-place
invariant-loop-place l = HasRead (take l.place l.kinds) (length l.fn.rows) l.rows l.bytes l.at
