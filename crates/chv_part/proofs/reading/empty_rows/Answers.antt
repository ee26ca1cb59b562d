use Rattle.std.proofs.Common.{ap, arith, ◌∙◌, ◌∷◌, [], length, length-append}
use Rattle.chv_part.proofs.ReadingLemmas.{AllAreOf-more}
use Rattle.chv_part.proofs.reading.empty_rows.Goals as goal

pub loop-preserved : goal.loop-preserved
loop-preserved c = record {
  count = omega (arith, ap length c.in_ok-push.ensures.items ∙ length-append c.loop.rows.items (c.from_vec.result ∷ []), c.loop.invariant.count);
  empty = rw c.in_ok-push.ensures.items (AllAreOf-more [] c.loop.rows.items _ c.loop.invariant.empty (rw (c.from_vec.ensures, c.in_ok-with_capacity.ensures.items) tt));
}
