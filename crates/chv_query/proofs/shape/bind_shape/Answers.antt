use Rattle.std.proofs.Common.{◌≡◌, Ok, false}
use Rattle.chv_query.specs.Outputs.{outputs_of}
use Rattle.chv_query.specs.Shapes.{is_grouping}
use Rattle.chv_query.proofs.ShapeLemmas.{IsShape-outputs}
use Rattle.chv_query.proofs.shape.bind_shape.Goals as goal

pub returns : goal.returns
returns c =
    let columns = c.args.columns.now in
    let select = c.args.select.now in
    let found = c.in_ok-found.ensures in
    let single : is_grouping select ≡ false = cc (c.is_grouping.ensures, c.if-is_grouping.false) in
    let put : outputs_of columns select.items ≡ Ok found.0 = rw c.as_slice-2.ensures at found.1 in
    IsShape-outputs columns select c.in_ok-found.found found.0 single put found.2
