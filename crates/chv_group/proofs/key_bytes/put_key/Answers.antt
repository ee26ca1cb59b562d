use Rattle.chv_group.proofs.KeyBytesLemmas.{put-step, held-step}
use Rattle.chv_group.proofs.key_bytes.put_key.Goals as goal

pub loop-value-preserved : goal.loop-value-preserved
loop-value-preserved c = record {
  put = put-step c.args.key.now c.loop-value.value-index _ c.args.out.now.items c.loop-value.out.items c.put_value.new.out.items c.loop-value-test.true c.loop-value.invariant.put c.in_ok-put_value.ensures.put;
  held = held-step c.args.key.now c.loop-value.value-index _ c.loop-value-test.true c.loop-value.invariant.held c.in_ok-put_value.ensures.held;
}
