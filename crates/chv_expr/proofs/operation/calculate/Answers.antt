use Rattle.chv_expr.proofs.TreeLaws.{value-Calculate}
use Rattle.chv_expr.proofs.operation.calculate.Goals as goal

pub returns : goal.returns
returns c = value-Calculate c.args.operation c.args.signed c.args.left c.args.right
