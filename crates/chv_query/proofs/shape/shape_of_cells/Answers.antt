use Rattle.chv_query.proofs.CellLemmas.{IsShape-cells}
use Rattle.chv_query.proofs.shape.shape_of_cells.Goals as goal

pub returns : goal.returns
returns c = λ source known found are put.
    rw (c.in_ok-append.ensures, c.len-keys.ensures) (IsShape-cells source c.args.keys c.args.cells known found are put)
