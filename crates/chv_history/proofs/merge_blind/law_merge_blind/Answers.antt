use Rattle.chv_history.proofs.MergeBlindResults.{final_of_parts, merge_blind}
use Rattle.chv_history.proofs.merge_blind.law_merge_blind.Goals as goal

pub returns-clause-blind : goal.returns-clause-blind
returns-clause-blind c = merge_blind

pub returns-clause-merged : goal.returns-clause-merged
returns-clause-merged c = final_of_parts
