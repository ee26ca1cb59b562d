use Rattle.std.proofs.Common.{◌≡◌, ◌<◌, ◌^◌, ◌+◌, ◌∷◌, ◌++◌, [], ℕ, List, length, take, ap, subst, sym, ◌∙◌}
use Rattle.std.proofs.lemmas.List.{take_all, take_more}
use Rattle.chv_agg.specs.StateBytes.{state_bytes}
use Rattle.chv_agg.specs.States.{IsOver}
use Rattle.chv_merge.proofs.StateColumnLemmas.{few-fit, states-push}
use Rattle.chv_merge.specs.Merging.{merged_states}
use Rattle.chv_types.specs.Order.{bytes}
use Rattle.chv_types.specs.declared.value.Value.{Value}
use Rattle.chv_merge.proofs.column.merge_states.Goals as goal

pub loop-other-preserved : goal.loop-other-preserved
loop-other-preserved c =
    let seen : List (List Value) = take c.loop-other.other-index c.args.others.now in
    let more : seen ++ c.other-item.result ∷ [] ≡ take (c.loop-other.other-index + 1) c.args.others.now =
    ap (λ (other : List Value). seen ++ other ∷ []) c.other-item.is ∙ sym (take_more c.args.others.now c.loop-other.other-index c.other-item.result c.loop-other-test.true) in
    record {
      over = c.in_ok-take_state-2.ensures.over;
      so_far =
          states-push c.args.agg c.args.arg c.args.place (c.args.row.now ∷ seen) c.other-item.result _ _ c.loop-other.invariant.so_far c.in_ok-take_state-2.ensures.taken
          ∙ ap (λ (others : List (List Value)). merged_states c.args.agg c.args.arg c.args.place (c.args.row.now ∷ others)) more;
    }

pub returns-clause-fits : goal.returns-clause-fits
returns-clause-fits c =
    let rows : List (List Value) = c.args.row.now ∷ c.args.others.now in
    let whole : c.loop-other.tally ≡ merged_states c.args.agg c.args.arg c.args.place rows =
    c.loop-other.invariant.so_far
    ∙ ap (λ (others : List (List Value)). merged_states c.args.agg c.args.arg c.args.place (c.args.row.now ∷ others)) (take_all c.loop-other.other-index c.args.others.now c.loop-other-test.false) in
    let spelled : bytes c.in_ok-value.value ≡ state_bytes c.args.arg (merged_states c.args.agg c.args.arg c.args.place rows) =
    ap bytes c.in_ok-value.ensures ∙ ap (state_bytes c.args.arg) whole in
    few-fit c.args.agg c.args.arg (merged_states c.args.agg c.args.arg c.args.place rows) (subst (IsOver c.args.agg c.args.arg) whole c.loop-other.invariant.over)
    (subst (λ (b : List ℕ). length b < 2 ^ 64) spelled c.count_bytes.ensures)
