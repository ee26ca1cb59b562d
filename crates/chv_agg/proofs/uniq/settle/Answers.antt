use Rattle.chv_agg.proofs.DistinctLemmas.{members-settled}
use Rattle.chv_agg.proofs.uniq.settle.Goals as goal

pub returns : goal.returns
returns c = members-settled _ _ _ c.sort_unstable.ensures.permutation c.sort_unstable.ensures.sorted c.dedup.ensures.filtered
