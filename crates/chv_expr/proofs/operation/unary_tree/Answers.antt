use Rattle.std.specs.Prelude.{pos, true}
use Rattle.std.proofs.Common.{◌∙◌, refl}
use Rattle.chv_types.specs.declared.value.Value.TheVariants.{Whole}
use Rattle.chv_expr.specs.declared.tree.Arithmetic.TheVariants as sum
use Rattle.chv_expr.proofs.TreeLaws.{value-Calculate, value-Constant, value-Not}
use Rattle.chv_expr.proofs.operation.unary_tree.Goals as goal

pub returns-in_ok-left-in-Minus-clause-tree : goal.returns-in_ok-left-in-Minus-clause-tree
returns-in_ok-left-in-Minus-clause-tree c = λ row. rw c.in-Minus.is
    (value-Calculate sum.Minus true c.in_ok-left-in-Minus.left c.args.arg row
    ∙ rw (c.in_ok-left-in-Minus.ensures, value-Constant (Whole (pos 0)) row) refl)

pub returns-in-Not-clause-tree : goal.returns-in-Not-clause-tree
returns-in-Not-clause-tree c = λ row. rw c.in-Not.is (value-Not c.args.arg row)
