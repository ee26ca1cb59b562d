use Rattle.chv_expr.proofs.TreeLaws.{value-And, value-Or}
use Rattle.chv_expr.proofs.operation.binary_tree.Goals as goal

pub returns-in-Or : goal.returns-in-Or
returns-in-Or c = λ row. rw c.in-Or.is (value-Or c.args.left c.args.right row)

pub returns-in-And : goal.returns-in-And
returns-in-And c = λ row. rw c.in-And.is (value-And c.args.left c.args.right row)
