use Rattle.std.specs.Prelude.{IfSome}
use Rattle.std.proofs.Common.{◌≡◌, ◌∙◌, ap, ap₂, refl, subst, sym}
use Rattle.chv_types.specs.declared.kind.Scalar.{Scalar}
use Rattle.chv_expr.specs.Bindings.{tree_value}
use Rattle.chv_expr.specs.Kinds.{binary_kind}
use Rattle.chv_expr.specs.Terms.{is_signed}
use Rattle.chv_expr.specs.declared.bound.Bound.{Bound}
use Rattle.chv_expr.proofs.MeansLemmas.{Binds-binary, Binds-of_kind, of_kinds, refused-binary}
use Rattle.chv_expr.proofs.operation.bind_binary.Goals as goal

pub returns : goal.returns
returns c = λ columns x y m n.
    let op = c.args.op in
    let a = c.args.a in
    let b = c.args.b in
    let given = sym (c.kind_of_binary-plain.ensures ∙ ap₂ (of_kinds (binary_kind op)) c.kind.ensures c.kind-2.ensures) in
    Binds-of_kind (λ (bound : Bound). bound.tree ≡ c.binary_tree-tree.result) columns c.kind_of_binary-plain.result _ c.of_kind.result
    c.of_kind.ensures.kind c.of_kind.ensures.tree c.of_kind.ensures.refused (λ none. refused-binary columns op a b x y m n (given ∙ none))
    (λ plain bound some k t.
    let sign = subst (λ o. IfSome o (λ (p : Scalar). c.has_sign.result ≡ is_signed p)) some c.has_sign.ensures in
    Binds-binary columns op a b bound x y plain m n (given ∙ some) k (λ row.
    ap (λ t. tree_value t row) t ∙ (c.binary_tree-tree.ensures row ∙ rw (c.into_tree.ensures, c.into_tree-2.ensures, sign) refl)))
