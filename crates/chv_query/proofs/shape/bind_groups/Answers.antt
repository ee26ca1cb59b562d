use Rattle.std.proofs.Common.{refl}
use Rattle.chv_query.specs.Shapes.{shape_of_cells}
use Rattle.chv_query.proofs.shape.bind_groups.Goals as goal

pub returns : goal.returns
returns c =
    let keys = c.in_ok-keys.ensures in
    let cells = c.in_ok-cells.ensures keys.0 keys.2 in
    (shape_of_cells keys.0 cells.0, rw (keys.1, cells.1) refl, c.in_ok-shape_of_cells.ensures c.args.columns.now keys.0 cells.0 keys.2 cells.2)
