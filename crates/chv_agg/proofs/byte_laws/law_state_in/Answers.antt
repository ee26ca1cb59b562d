use Rattle.chv_agg.proofs.StateFrontLemmas.{state_in-none, state_in-reads_back}
use Rattle.chv_agg.proofs.byte_laws.law_state_in.Goals as goal

pub returns-clause-spelled : goal.returns-clause-spelled
returns-clause-spelled c = state_in-reads_back

pub returns-clause-none : goal.returns-clause-none
returns-clause-none c = state_in-none
