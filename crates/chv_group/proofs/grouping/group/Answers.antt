use Rattle.std.proofs.Common.{◌≡◌, ◌+◌, ◌++◌, ◌∷◌, ◌∙◌, [], List, ap, subst, sym, take}
use Rattle.std.proofs.lemmas.List.{take_more}
use Rattle.chv_group.specs.Takings.{HasTaken}
use Rattle.chv_group.specs.declared.call.Keyed.{Keyed}
use Rattle.chv_group.proofs.grouping.group.Goals as goal

pub loop-input-preserved : goal.loop-input-preserved
loop-input-preserved c =
    let inputs = c.as_slice-input-items.result.now in
    let so_far = take c.loop-input.input-index inputs in
    let more : so_far ++ c.input-item.result ∷ [] ≡ take (c.loop-input.input-index + 1) inputs =
    ap (λ (input : Keyed). so_far ++ input ∷ []) c.input-item.is ∙ sym (take_more inputs c.loop-input.input-index c.input-item.result c.loop-input-test.true) in
    record {
      calls = c.in_ok-feed_input.ensures.calls ∙ c.loop-input.invariant.calls;
      taken = subst (λ (taken : List Keyed). HasTaken c.feed_input.new.grouping taken) more (c.in_ok-feed_input.ensures.taken so_far c.loop-input.invariant.taken);
    }
