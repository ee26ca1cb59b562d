use Rattle.chv_bytes.proofs.IntegerLemmas.{one_integer}
use Rattle.chv_bytes.proofs.laws.law_one_integer.Goals as goal

pub returns : goal.returns
returns c = one_integer
