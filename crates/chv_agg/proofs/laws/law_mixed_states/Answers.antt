use Rattle.chv_agg.proofs.StateLaws.{mixed-state_of}
use Rattle.chv_agg.proofs.laws.law_mixed_states.Goals as goal

pub returns : goal.returns
returns c = mixed-state_of
