use Rattle.std.proofs.Common.{arith}
use Rattle.chv_block.proofs.BlockLemmas.{moved, done, codes_step, codes_end}
use Rattle.chv_block.proofs.block.put_codes.Goals as goal

pub loop-i-preserved : goal.loop-i-preserved
loop-i-preserved c =
    moved c.loop-i.out.items _ _ _ _ _ c.in_ok-put_code.ensures
    (codes_step c.args.kinds.now c.loop-i.i _ _ c.loop-i-test.true (omega arith)) c.loop-i.invariant

pub returns : goal.returns
returns c = done c.loop-i.out.items _ _ (codes_end c.args.kinds.now c.loop-i.i c.loop-i-test.false) c.loop-i.invariant
