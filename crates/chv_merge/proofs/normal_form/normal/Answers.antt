use Rattle.std.proofs.Common.{rules, ◌∙◌}
use Rattle.std.proofs.lemmas.Fn.{always_returns_same}
use Rattle.std.specs.List.Sorted.{IsPermutation}
use Rattle.chv_merge.specs.NormalForms.{key_below}
use Rattle.chv_merge.proofs.NormalFormLemmas.{key_below-IsStrictWeakOrder, normal_form-unique}
use Rattle.chv_merge.proofs.normal_form.normal.Goals as goal

pub returns : goal.returns
returns c =
    let key = c.args.key.now in
    let moved : IsPermutation c.args.block c.sort_by.new.self.items = search rules in
    c.from_vec.ensures ∙ normal_form-unique key _ _ moved
    (c.in_ok-sort_by.ensures.sorted (key_below key) (key_below-IsStrictWeakOrder key)
    (always_returns_same _ _ _ (λ a r f called. search rules)))
