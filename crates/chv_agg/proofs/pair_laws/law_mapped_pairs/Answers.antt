use Rattle.chv_agg.proofs.PairLemmas.{recast-collapse}
use Rattle.chv_agg.proofs.pair_laws.law_mapped_pairs.Goals as goal

pub returns : goal.returns
returns g c = record { map = λ cmp join other f through. recast-collapse cmp join other f through }
