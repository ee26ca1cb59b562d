use Rattle.chv_group.proofs.CollapseLemmas.{grouped-bag}
use Rattle.chv_group.proofs.laws.law_grouped_bag.Goals as goal

pub returns : goal.returns
returns c = grouped-bag
