use Rattle.chv_block.proofs.CutLemmas.{blocks_of-IsCut}
use Rattle.chv_block.proofs.laws.law_blocks_are_cut.Goals as goal

pub returns : goal.returns
returns c = blocks_of-IsCut
