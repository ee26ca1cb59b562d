use Rattle.std.proofs.Common.{rules}
use Rattle.chv_define.proofs.KindLemmas.{state_of-Some}
use Rattle.chv_define.proofs.kinds.state_of.Goals as goal

pub returns-in_ok-scalar_of-in_default-agg : goal.returns-in_ok-scalar_of-in_default-agg
returns-in_ok-scalar_of-in_default-agg c = rw (c.in-Some.is, state_of-Some c.args.agg c.in-Some.arg c.in_default-agg.not-Count) (search rules)
