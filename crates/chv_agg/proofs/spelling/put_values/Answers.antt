use Rattle.chv_agg.proofs.SetLemmas.{spelled_more}
use Rattle.chv_agg.proofs.spelling.put_values.Goals as goal

pub loop-i-preserved : goal.loop-i-preserved
loop-i-preserved c =
    spelled_more c.args.arg c.args.values.now c.loop-i.i c.index-values-i.result c.loop-i.out.items _ _ c.loop-i-test.true c.index-values-i.is c.loop-i.invariant
    c.in_ok-spell_scalar.ensures.put
