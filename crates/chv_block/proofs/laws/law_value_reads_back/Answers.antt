use Rattle.chv_block.proofs.ValueLemmas.{one_value}
use Rattle.chv_block.proofs.laws.law_value_reads_back.Goals as goal

pub returns : goal.returns
returns c = one_value
