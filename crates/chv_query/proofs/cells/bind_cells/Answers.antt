use Rattle.std.proofs.Common.{◌≡◌, ◌∙◌, Err, drop, refl}
use Rattle.chv_query.specs.Bound.{AreCells}
use Rattle.chv_query.specs.Shapes.{no_cells, put_item, put_items}
use Rattle.chv_query.proofs.BoundLemmas.{refuses_as}
use Rattle.chv_query.proofs.CellLemmas.{AreCells-none, put_items-refused}
use Rattle.chv_query.proofs.cells.bind_cells.Goals as goal

pub loop-item-init : goal.loop-item-init
loop-item-init c = λ known are. record { cells = no_cells; follow = refl; are = rw (c.new.ensures, c.new-2.ensures, c.new-3.ensures, c.new-4.ensures) (AreCells-none c.args.columns.now) }

pub returns-in-Err : goal.returns-in-Err
returns-in-Err c = λ known are.
    let columns = c.args.columns.now in
    let so = c.loop-item.invariant known are in
    refuses_as (AreCells columns) (put_items columns known no_cells c.args.items.now) c.in-Err.fault (λ refusal is.
    let refused : put_item columns known so.cells c.item-item.result ≡ Err refusal = c.in-Err.ensures.refused refusal is known so.cells are in
    let left : put_items columns known so.cells (drop c.loop-item.item-index c.args.items.now) ≡ Err refusal =
    put_items-refused columns known so.cells c.args.items.now c.loop-item.item-index c.item-item.result refusal c.loop-item-test.true c.item-item.is refused in
    so.follow ∙ left)
