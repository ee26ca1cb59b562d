use Rattle.chv_agg.proofs.PairLemmas.{fold-IsStepwise, map-IsStepwise}
use Rattle.chv_agg.proofs.pair_laws.law_stepwise.Goals as goal

pub returns : goal.returns
returns g c = record {
  fold = λ join unit f assoc comm alone. fold-IsStepwise join unit f assoc comm alone;
  each = λ join f stepwise. map-IsStepwise join f stepwise;
}
