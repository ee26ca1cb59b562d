-- A run begins with nothing refused.
use Rattle.chv_history.proofs.KeptLemmas.{kept_begun}
use Rattle.chv_history.proofs.KeptTurnLemmas.{run_refuses, turns_kept}
use Rattle.chv_history.proofs.laws.law_kept.Goals as goal

pub returns-clause-requests : goal.returns-clause-requests
returns-clause-requests c = kept_begun

pub returns-clause-turns : goal.returns-clause-turns
returns-clause-turns c = λ script turns kept history schema is. turns_kept script kept history schema is turns

pub returns-clause-run : goal.returns-clause-run
returns-clause-run c = λ script turns kept history events schema is trace. run_refuses script kept history schema is turns events trace
