use Rattle.std.proofs.Common.{◌≡◌, ◌∙◌, ap, Some}
use Rattle.chv_types.specs.declared.kind.Kind.TheVariants as kind
use Rattle.chv_expr.specs.Bindings.{tree_value}
use Rattle.chv_expr.specs.Kinds.{class_of}
use Rattle.chv_expr.specs.declared.kind.Class.TheVariants as class
use Rattle.chv_expr.specs.declared.tree.Tree.TheVariants as tree
use Rattle.chv_expr.proofs.MeansLemmas.{Binds-widen}
use Rattle.chv_expr.proofs.TreeLaws.{value-Widen}
use Rattle.chv_expr.proofs.call.bind_widen.Goals as goal

pub returns-in_ok-new-in-Some-Number : goal.returns-in_ok-new-in-Some-Number
returns-in_ok-new-in-Some-Number c = λ columns x m.
    let number : class_of c.args.a.kind ≡ Some (class.Number c.in-Some-Number.field-0-0) = cc in
    let built = c.in_ok-new-in-Some-Number.ensures.tree ∙ ap (tree.Widen c.args.signed) c.into_tree-arg.ensures in
    let kind_is = c.in_ok-new-in-Some-Number.ensures.kind ∙ ap kind.Plain c.wide.ensures in
    Binds-widen columns c.args.signed c.in-Some-Number.field-0-0 c.args.a c.in_ok-new-in-Some-Number.field-0 x m number kind_is
    (λ row. ap (λ t. tree_value t row) built ∙ value-Widen c.args.signed c.args.a.tree row)
