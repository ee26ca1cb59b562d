use Rattle.std.specs.Prelude.{IfSome}
use Rattle.std.specs.Option.{option_map}
use Rattle.std.proofs.Common.{◌≡◌, ◌∙◌, ap, ap₂, refl, subst, sym}
use Rattle.chv_types.specs.declared.kind.Scalar.{Scalar}
use Rattle.chv_expr.specs.Bindings.{tree_value}
use Rattle.chv_expr.specs.Kinds.{numbers, wide}
use Rattle.chv_expr.specs.Terms.{is_signed}
use Rattle.chv_expr.specs.declared.bound.Bound.{Bound}
use Rattle.chv_expr.proofs.MeansLemmas.{Binds-of_kind, Binds-quotient, of_kinds, refused-quotient}
use Rattle.chv_expr.proofs.call.bind_quotient.Goals as goal

pub returns : goal.returns
returns c = λ columns x y m n.
    let a = c.args.a in
    let b = c.args.b in
    let given = sym (c.kind_of_quotient-plain.ensures ∙ ap₂ (λ j k. option_map wide (of_kinds numbers j k)) c.kind.ensures c.kind-2.ensures) in
    Binds-of_kind (λ (bound : Bound). bound.tree ≡ c.calculate-tree.result) columns c.kind_of_quotient-plain.result _ c.of_kind.result
    c.of_kind.ensures.kind c.of_kind.ensures.tree c.of_kind.ensures.refused (λ none. refused-quotient columns a b x y m n (given ∙ none))
    (λ plain bound some k t.
    let sign = subst (λ o. IfSome o (λ (p : Scalar). c.has_sign.result ≡ is_signed p)) some c.has_sign.ensures in
    Binds-quotient columns a b bound x y plain m n (given ∙ some) k (λ row.
    ap (λ t. tree_value t row) t ∙ (c.calculate-tree.ensures row ∙ rw (c.into_tree.ensures, c.into_tree-2.ensures, sign) refl)))
