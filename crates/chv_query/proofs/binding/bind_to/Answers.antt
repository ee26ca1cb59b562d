use Rattle.std.proofs.Common.{◌≡◌, Ok, sym, ap, ◌∙◌}
use Rattle.chv_query.specs.MergeBlind.{is_blind}
use Rattle.chv_query.specs.Outputs.{filter_of}
use Rattle.chv_query.specs.Queries.{limit_of, sorts_of}
use Rattle.chv_query.proofs.QueryLemmas.{asked_of-IsQuery}
use Rattle.chv_query.proofs.binding.bind_to.Goals as goal

pub returns : goal.returns
returns c =
    let columns = c.args.def.now.columns in
    let select = c.args.select.now in
    let filter = c.in_ok-filter.ensures in
    let shape = c.in_ok-shape.ensures in
    let order = c.in_ok-order.ensures in
    let filtered : filter_of columns select.filter ≡ Ok filter.0 = rw c.as_ref.ensures.value at filter.1 in
    let sorted : sorts_of c.in_ok-shape.shape.columns select.order ≡ Ok c.in_ok-order.order = ap (sorts_of c.in_ok-shape.shape.columns) (sym c.as_slice.ensures) ∙ order.1 ∙ ap (λ sorts. Ok sorts) (sym order.2) in
    let limited : limit_of select.limit ≡ Ok c.in_ok-limit.limit = sym (c.in_ok-limit.ensures ∙ ap limit_of c.as_ref-2.ensures.value) in
    let seen : c.is_blind-blind.result ≡ is_blind c.args.def.now select c.in_ok-shape.shape.grouping = c.is_blind-blind.ensures ∙ ap (is_blind c.args.def.now select) c.as_ref-3.ensures.value in
    asked_of-IsQuery c.args.table c.args.def.now select c.in_ok-filter.filter c.in_ok-shape.shape filter.0 shape.0 c.in_ok-order.order c.in_ok-limit.limit c.is_blind-blind.result
    filtered filter.2 shape.1 shape.2 sorted limited seen
