use Rattle.std.proofs.Common.{◌≡◌, rules, ap, ◌∙◌}
use Rattle.std.proofs.lemmas.Fn.{always_returns_same}
use Rattle.std.specs.List.Sorted.{IsPermutation}
use Rattle.chv_types.specs.Sorting.{sorted_by}
use Rattle.chv_query.specs.Shown.{order_below, shown, up_to}
use Rattle.chv_query.proofs.ShownLemmas.{order_below-IsStrictWeakOrder, sorted-unique}
use Rattle.chv_select.proofs.answering.sort.Goals as goal

pub returns : goal.returns
unfolding shown
returns c =
    let order = c.args.order.now in
    let moved : IsPermutation c.args.rows c.sort_unstable_by.new.self.items = search rules in
    let sorted : c.sort_unstable_by.new.self.items ≡ sorted_by (order_below order) c.args.rows =
    sorted-unique order _ _ moved (c.sort_unstable_by.ensures.sorted (order_below order) (order_below-IsStrictWeakOrder order)
    (always_returns_same _ _ _ (λ a r f called. search rules))) in
    c.from_vec.ensures ∙ c.up_to.ensures ∙ ap (up_to c.args.limit) sorted
