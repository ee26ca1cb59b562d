use Rattle.std.proofs.Common.{arith}
use Rattle.chv_sip.proofs.Words.{GoesOn-word}
use Rattle.chv_sip.proofs.state.State.absorb.Goals as goal

pub loop-rest-preserved : goal.loop-rest-preserved
loop-rest-preserved c = record {
  goes_on = rw (c.compress.ensures, c.read_u64.ensures) (GoesOn-word _ (rw c.split_at.ensures.by_index.0 at c.loop-rest.invariant.goes_on) c.split_at.ensures.front_len);
  left = omega arith;
}
