use Rattle.chv_agg.proofs.PairLemmas.{collapse-append, collapse-flat_map, collapse-permuted, kept-collapse}
use Rattle.chv_agg.proofs.pair_laws.law_collapsed_parts.Goals as goal

pub returns : goal.returns
returns g c = record {
  join = λ cmp join total same assoc. collapse-append cmp join total same assoc;
  parts = λ cmp join total same assoc. collapse-flat_map cmp join total same assoc (λ part. part);
  bag = λ cmp join total same assoc comm. collapse-permuted cmp join total same assoc comm;
  filter = λ cmp join total same assoc keep. kept-collapse cmp join total same keep assoc;
}
