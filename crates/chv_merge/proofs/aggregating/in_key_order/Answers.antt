use Rattle.std.proofs.Common.{rules}
use Rattle.std.proofs.lemmas.Fn.{always_returns_same}
use Rattle.std.proofs.lemmas.List.MinMax.{ranks_by}
use Rattle.chv_types.specs.OrderLaws.{row_cmp_total}
use Rattle.chv_merge.specs.NormalForms.{before, values_at}
use Rattle.chv_merge.proofs.aggregating.in_key_order.Goals as goal

pub returns-clause-sorted : goal.returns-clause-sorted
returns-clause-sorted c =
    let key = c.args.key.now in
    c.in_ok-sort_by.ensures.sorted (before key) (ranks_by row_cmp_total (values_at key)) (always_returns_same _ _ _ (λ a r f called. search rules))
