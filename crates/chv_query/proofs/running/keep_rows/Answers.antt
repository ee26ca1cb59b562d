use Rattle.chv_query.proofs.ArrangeLemmas.{arranged-rows}
use Rattle.chv_query.proofs.running.keep_rows.Goals as goal

pub returns-then-are_in_order : goal.returns-then-are_in_order
returns-then-are_in_order c = λ wide.
    arranged-rows c.args.places.now c.args.rows.now (c.are_in_order.ensures c.if-are_in_order.true) (c.have_width.ensures wide)
