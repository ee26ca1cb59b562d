use Rattle.chv_agg.proofs.PairLemmas.{join_each-IsAssociative, join_each-IsCommutative}
use Rattle.chv_agg.proofs.pair_laws.law_joined_lists.Goals as goal

pub returns : goal.returns
returns g c = record { assoc = λ join assoc. join_each-IsAssociative join assoc; comm = λ join comm. join_each-IsCommutative join comm }
