use Rattle.chv_agg.proofs.PairLemmas.{collapse-recast}
use Rattle.chv_agg.proofs.pair_laws.law_recast_pairs.Goals as goal

pub returns : goal.returns
returns h c = record {
  recast = λ fine cmp join other g f fine_same total same assoc comm through. collapse-recast fine cmp join other g f fine_same assoc comm through total same;
}
