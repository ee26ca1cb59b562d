use Rattle.std.proofs.Common.{arith, rules}
use Rattle.chv_part.proofs.ReadingLemmas.{left_over}
use Rattle.chv_part.proofs.reading.read_rows.Goals as goal

pub returns-then-behind-bytes-clause-none : goal.returns-then-behind-bytes-clause-none
returns-then-behind-bytes-clause-none c = λ is given long of.
    left_over c.args.kinds.now c.read_columns.new.rows given c.args.bytes.now c.in-Some.behind
    (omega (arith, long, c.read_columns.auto.rows, c.deref_mut.ensures.len, c.in_ok-rows.ensures.count)) (search rules) of (search rules) c.if-behind-bytes.true
