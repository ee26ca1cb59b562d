use Rattle.chv_block.proofs.JoinedLemmas.{joined-blocks_of, blocks_of-some}
use Rattle.chv_block.proofs.laws.law_blocks_keep_rows.Goals as goal

pub returns-clause-joined : goal.returns-clause-joined
returns-clause-joined c = joined-blocks_of

pub returns-clause-some : goal.returns-clause-some
returns-clause-some c = blocks_of-some
