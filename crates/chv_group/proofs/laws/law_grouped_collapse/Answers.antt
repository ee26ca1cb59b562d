use Rattle.chv_group.proofs.CollapseLemmas.{grouped-collapse}
use Rattle.chv_group.proofs.laws.law_grouped_collapse.Goals as goal

pub returns : goal.returns
returns c = grouped-collapse
