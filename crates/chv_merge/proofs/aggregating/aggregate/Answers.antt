use Rattle.std.proofs.Common.{List, subst, sym, ◌∙◌}
use Rattle.std.specs.List.Sorted.{IsPermutation}
use Rattle.chv_agg.specs.OfKinds.{AllAreOf}
use Rattle.chv_merge.proofs.AdjacentLemmas.{AllAreOf-permuted}
use Rattle.chv_merge.proofs.AggregatedLemmas.{aggregated-permuted}
use Rattle.chv_types.specs.declared.value.Value.{Value}
use Rattle.chv_merge.proofs.aggregating.aggregate.Goals as goal

pub merge_adjacent-requires-clause-kinds : goal.merge_adjacent-requires-clause-kinds
merge_adjacent-requires-clause-kinds c =
    AllAreOf-permuted c.args.kinds.now c.into_vec.result.items c.in_ok-rows.rows.items c.in_ok-rows.ensures.moved (subst (AllAreOf c.args.kinds.now) (sym c.into_vec.ensures) c.requires.rows)

pub returns-clause-rows : goal.returns-clause-rows
returns-clause-rows c =
    c.from_vec.ensures ∙ c.in_ok-merge_adjacent.ensures.rows
    ∙ sym (aggregated-permuted c.args.kinds.now c.args.key.now c.args.block c.in_ok-rows.rows.items
    (subst (λ (rows : List (List Value)). IsPermutation rows c.in_ok-rows.rows.items) c.into_vec.ensures c.in_ok-rows.ensures.moved))
