use Rattle.chv_agg.proofs.PairLemmas.{collapse-each_by_key}
use Rattle.chv_agg.proofs.pair_laws.law_grouped_items.Goals as goal

pub returns : goal.returns
returns g c = record {
  group = λ cmp join key_of f total same assoc stepwise. collapse-each_by_key cmp join key_of f stepwise total same assoc;
}
