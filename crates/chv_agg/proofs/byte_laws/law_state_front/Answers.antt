use Rattle.chv_agg.proofs.StateFrontLemmas.{state_front-Some}
use Rattle.chv_agg.proofs.byte_laws.law_state_front.Goals as goal

pub returns : goal.returns
returns c agg arg bytes rest state is = state_front-Some agg arg bytes (state, rest) is
