use Rattle.std.proofs.Common.{◌≡◌, ◌∙◌, ap, Some}
use Rattle.chv_expr.specs.Bindings.{tree_value}
use Rattle.chv_expr.specs.Kinds.{class_of}
use Rattle.chv_expr.specs.declared.kind.Class.TheVariants as class
use Rattle.chv_expr.specs.declared.tree.Tree.TheVariants as tree
use Rattle.chv_expr.proofs.MeansLemmas.{Binds-length}
use Rattle.chv_expr.proofs.TreeLaws.{value-Length}
use Rattle.chv_expr.proofs.call.bind_length.Goals as goal

pub returns-in_ok-new-in-Some-Text : goal.returns-in_ok-new-in-Some-Text
returns-in_ok-new-in-Some-Text c = λ columns x m.
    let text : class_of c.args.a.kind ≡ Some class.Text = cc in
    let built = c.in_ok-new-in-Some-Text.ensures.tree ∙ ap tree.Length c.into_tree.ensures in
    Binds-length columns c.args.a c.in_ok-new-in-Some-Text.field-0 x m text c.in_ok-new-in-Some-Text.ensures.kind
    (λ row. ap (λ t. tree_value t row) built ∙ value-Length c.args.a.tree row)
