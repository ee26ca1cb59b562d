use Rattle.chv_bytes.proofs.IntegerLemmas.{integer_reads_back}
use Rattle.chv_bytes.proofs.laws.law_integer_reads_back.Goals as goal

pub returns : goal.returns
returns c = integer_reads_back
