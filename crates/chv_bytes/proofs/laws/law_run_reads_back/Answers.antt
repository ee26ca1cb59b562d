use Rattle.chv_bytes.proofs.RunLemmas.{run_reads_back}
use Rattle.chv_bytes.proofs.laws.law_run_reads_back.Goals as goal

pub returns : goal.returns
returns c = run_reads_back
