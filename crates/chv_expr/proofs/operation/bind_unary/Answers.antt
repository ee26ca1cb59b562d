use Rattle.std.proofs.Common.{◌≡◌, ◌∙◌, ap, sym}
use Rattle.std.specs.Option.{option_and_then}
use Rattle.chv_expr.specs.Bindings.{tree_value}
use Rattle.chv_expr.specs.Kinds.{class_of, unary_kind}
use Rattle.chv_expr.specs.Terms.{unary_value}
use Rattle.chv_expr.specs.declared.bound.Bound.{Bound}
use Rattle.chv_expr.proofs.MeansLemmas.{Binds-of_kind, Binds-unary, refused-unary}
use Rattle.chv_expr.proofs.operation.bind_unary.Goals as goal

pub returns : goal.returns
returns c = λ columns x m.
    let op = c.args.op in
    let a = c.args.a in
    let given = sym (c.kind_of_unary-plain.ensures ∙ ap (λ k. option_and_then (unary_kind op) (class_of k)) c.kind.ensures) in
    Binds-of_kind (λ (bound : Bound). bound.tree ≡ c.in_ok-tree.tree) columns c.kind_of_unary-plain.result _ c.of_kind.result
    c.of_kind.ensures.kind c.of_kind.ensures.tree c.of_kind.ensures.refused (λ none. refused-unary columns op a x m (given ∙ none))
    (λ plain bound some k t. Binds-unary columns op a bound x plain m (given ∙ some) k (λ row.
    ap (λ t. tree_value t row) t ∙ (c.in_ok-tree.ensures.tree row ∙ ap (λ t. unary_value op (tree_value t row)) c.into_tree.ensures)))
