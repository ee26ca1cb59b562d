use Rattle.chv_agg.proofs.PairLemmas.{collapse-unique, joint-collapse, pair_keys-collapse}
use Rattle.chv_agg.proofs.pair_laws.law_pairs.Goals as goal

pub returns : goal.returns
returns g c = record {
  keys = pair_keys-collapse;
  values = λ cmp join total same assoc. joint-collapse cmp join total same assoc;
  unique = λ cmp join total same assoc. collapse-unique cmp join total same assoc;
}
