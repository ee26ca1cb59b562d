use Rattle.std.specs.Prelude.{IfSome, List, Some}
use Rattle.std.proofs.Common.{◌≡◌, ◌∙◌, ap, ap₂, refl, subst, sym}
use Rattle.chv_types.specs.declared.kind.Scalar.{Scalar}
use Rattle.chv_types.specs.declared.value.Value.{Value}
use Rattle.chv_expr.specs.Bindings.{tree_value}
use Rattle.chv_expr.specs.Kinds.{class_of, joined}
use Rattle.chv_expr.specs.Terms.{chosen_value}
use Rattle.chv_expr.specs.declared.bound.Bound.{Bound}
use Rattle.chv_expr.specs.declared.kind.Class.TheVariants as class
use Rattle.chv_expr.specs.declared.tree.Tree.TheVariants as tree
use Rattle.chv_expr.proofs.MeansLemmas.{Binds-if, Binds-of_kind, of_kinds, refused-if}
use Rattle.chv_expr.proofs.TreeLaws.{value-If}
use Rattle.chv_expr.proofs.call.bind_if.Goals as goal

pub returns : goal.returns
returns c = λ columns t x y l m n.
    let test = c.args.test in
    let a = c.args.a in
    let b = c.args.b in
    let plain = c.kind_of_if-plain.result in
    let both = ap₂ (of_kinds joined) c.kind-2.ensures c.kind-3.ensures in
    let built = tree.If c.into_tree.result c.into_tree-2.result c.into_tree-3.result in
    Binds-of_kind (λ (bound : Bound). IfSome plain (λ (p : Scalar). (row : List Value) → tree_value bound.tree row ≡ chosen_value p (tree_value built row)))
    columns plain _ c.bind_chosen.result c.bind_chosen.ensures.kind c.bind_chosen.ensures.tree c.bind_chosen.ensures.refused
    (λ none. refused-if columns test a b t x y l m n (λ truth. sym both ∙ c.kind_of_if-plain.ensures.none none (ap class_of c.kind.ensures ∙ truth)))
    (λ p bound some k s.
    let given = subst (λ o. IfSome o (λ (p : Scalar). (class_of c.kind.result ≡ Some class.Truth) × (of_kinds joined c.kind-2.result c.kind-3.result ≡ Some p)))
    some c.kind_of_if-plain.ensures.some in
    let same = subst (λ o. IfSome o (λ (p : Scalar). (row : List Value) → tree_value bound.tree row ≡ chosen_value p (tree_value built row))) some s in
    Binds-if columns test a b bound t x y p l m n (ap class_of (sym c.kind.ensures) ∙ given.0) (sym both ∙ given.1) k (λ row.
    same row ∙ ap (chosen_value p) (value-If _ _ _ row ∙ rw (c.into_tree.ensures, c.into_tree-2.ensures, c.into_tree-3.ensures) refl)))
