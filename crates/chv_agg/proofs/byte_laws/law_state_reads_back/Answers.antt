use Rattle.chv_agg.proofs.StateFrontLemmas.{one_state_in_front, state_front-spelled}
use Rattle.chv_agg.proofs.byte_laws.law_state_reads_back.Goals as goal

pub returns-clause-front : goal.returns-clause-front
returns-clause-front c = state_front-spelled

pub returns-clause-one : goal.returns-clause-one
returns-clause-one c = one_state_in_front
