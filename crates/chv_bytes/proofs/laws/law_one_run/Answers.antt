use Rattle.chv_bytes.proofs.RunLemmas.{one_run}
use Rattle.chv_bytes.proofs.laws.law_one_run.Goals as goal

pub returns : goal.returns
returns c = one_run
