use Rattle.std.proofs.Common.{◌≡◌, ◌∙◌, ◌+◌, Some, ap, sym, arith}
use Rattle.chv_query.proofs.ViewQueryLemmas.{in_order_more, same_place}
use Rattle.chv_query.proofs.view.are_in_order.Goals as goal

pub loop-i-preserved : goal.loop-i-preserved
loop-i-preserved c =
    let from : c.loop-i.i ≡ 0 + c.loop-i.i = omega arith in
    in_order_more 0 c.args.fillings.now c.loop-i.i (c.loop-i.i + 1) _ c.loop-i.invariant c.loop-i-test.true
    (same_place _ c.loop-i.i (sym c.if-ne.false ∙ c.ne.ensures) ∙ ap Some from) (omega arith)
