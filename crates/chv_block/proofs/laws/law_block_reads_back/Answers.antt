use Rattle.chv_block.proofs.LawLemmas.{one_block}
use Rattle.chv_block.proofs.laws.law_block_reads_back.Goals as goal

pub returns : goal.returns
returns c = one_block
