use Rattle.std.proofs.Common.{◌≡◌, List, length, subst}
use Rattle.std.specs.List.{All}
use Rattle.chv_types.specs.declared.value.Value.{Value}
use Rattle.chv_query.proofs.ViewQueryLemmas.{rows-whole}
use Rattle.chv_query.proofs.view.fill_rows.Goals as goal

pub returns-then-have_width : goal.returns-then-have_width
returns-then-have_width c =
    let fillings = c.args.fillings.now in
    rows-whole fillings c.args.block (c.are_in_order.ensures c.if-are_in_order.true)
    (subst (λ (rows : List (List Value)). All (λ row. length row ≡ length fillings) rows) c.as_slice.ensures (c.have_width.ensures c.if-have_width.true))
