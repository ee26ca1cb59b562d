use Rattle.std.proofs.Common.{◌≡◌}
use Rattle.chv_query.specs.Outputs.{output_name}
use Rattle.chv_query.proofs.cells.put_item.Goals as goal

pub returns-in_ok-name-in-One-clause-refused : goal.returns-in_ok-name-in-One-clause-refused
returns-in_ok-name-in-One-clause-refused c =
    let name : c.in_ok-name-in-One.name ≡ output_name c.in-One.alias c.in-One.expr = cc (c.in_ok-name-in-One.ensures, c.as_ref.ensures.value) in
    rw (c.in-One.is, ← name) c.put_expr.ensures.refused
