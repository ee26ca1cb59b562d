use Rattle.chv_bytes.proofs.IntegerLemmas.{integer_of_bytes}
use Rattle.chv_bytes.proofs.laws.law_integer_of_bytes.Goals as goal

pub returns : goal.returns
returns c = integer_of_bytes
