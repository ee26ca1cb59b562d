use Rattle.chv_expr.proofs.TreeLaws.{value-Compare}
use Rattle.chv_expr.proofs.operation.compare.Goals as goal

pub returns : goal.returns
returns c = value-Compare c.args.test c.args.left c.args.right
