use Rattle.chv_block.proofs.LawLemmas.{one_row}
use Rattle.chv_block.proofs.laws.law_row_reads_back.Goals as goal

pub returns : goal.returns
returns c = one_row
