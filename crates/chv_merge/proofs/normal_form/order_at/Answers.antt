use Rattle.std.proofs.Common.{◌∙◌, inl, inr}
use Rattle.std.proofs.lemmas.List.{take_rest}
use Rattle.chv_merge.proofs.NormalFormLemmas.{rests_cmp, values_at-end}
use Rattle.chv_merge.proofs.normal_form.order_at.Goals as goal
use Rattle.chv_merge.proofs.normal_form.order_at.Goals.{then-loop-i-test+else-j-key, else-loop-i-test}

pub returns : goal.returns
returns c =
    let key = c.args.key.now in
    c.cmp.ensures ∙ rests_cmp _ _ _ _ (rw take_rest at c.has_value.ensures) (rw take_rest at c.has_value-2.ensures) (elim c.loop-i-test.branch [
      | then-loop-i-test+else-j-key w ↦ inr (values_at-end key c.args.b.now c.loop-i.j w.if-j-key.false)
      | else-loop-i-test w ↦ inl (values_at-end key c.args.a.now c.loop-i.i w.loop-i-test.false)
    ]) ∙ c.loop-i.invariant.left
