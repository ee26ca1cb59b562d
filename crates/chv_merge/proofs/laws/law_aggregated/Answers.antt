use Rattle.chv_merge.proofs.AggregatedLemmas.{aggregated-Rises, aggregated-grouped}
use Rattle.chv_merge.proofs.laws.law_aggregated.Goals as goal

pub returns : goal.returns
returns c = record { keys = aggregated-Rises; rows = aggregated-grouped }
