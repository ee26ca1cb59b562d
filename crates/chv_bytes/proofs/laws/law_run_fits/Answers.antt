use Rattle.chv_bytes.proofs.RunLemmas.{run_fits}
use Rattle.chv_bytes.proofs.laws.law_run_fits.Goals as goal

pub returns : goal.returns
returns c = run_fits
