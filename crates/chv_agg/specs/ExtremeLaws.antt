-- What the least and the greatest keep to.
use Rattle.std.proofs.Common.{◌≡◌, List, [], ◌∷◌, Less, Equal, Greater, refl, sym, ap, subst, ◌∙◌}
use Rattle.std.specs.Cmp.{IsTotalOrder, back_total}
use Rattle.std.specs.FinMap.{IsAntisymmetric}
use Rattle.std.specs.Ordering.{flip_args, ordering_reverse}
use Rattle.std.specs.declared.cmp.Ordering.{Ordering}
use Rattle.std.specs.declared.option.Option.{Option}
use Rattle.std.specs.declared.option.Option.TheVariants.{None, Some}
use Rattle.chv_agg.specs.AggregateLaws.{AggregateLaws, state_from}
use Rattle.chv_agg.specs.FoldLaws.{state_from-cons}
use Rattle.chv_agg.specs.Functions.{found_one}
use Rattle.chv_agg.specs.Lists.{chosen}
use Rattle.chv_agg.specs.States.{either_by, FitsFound, higher, lower}
use Rattle.chv_types.specs.Fits.{IsOfScalar}
use Rattle.chv_types.specs.Members.{by_order}
use Rattle.chv_types.specs.Order.{value_cmp}
use Rattle.chv_types.specs.OrderLaws.{value_cmp_total, value_cmp-IsAntisymmetric}
use Rattle.chv_types.specs.declared.kind.Scalar.{Scalar}
use Rattle.chv_types.specs.declared.value.Value.{Value}

module _ {A : Type 0} (cmp : A → A → Ordering) (order : IsTotalOrder cmp) (same : IsAntisymmetric cmp) where
  -- the one of two that stands first
  abbrev first : A → A → A
  first a b = by_order (cmp a b) a a b

  is_left : (a b : A) → cmp a b ≡ Less → first a b ≡ a
  is_left a b e = ap (λ o. by_order o a a b) e

  is_right : (a b : A) → cmp a b ≡ Greater → first a b ≡ b
  is_right a b e = ap (λ o. by_order o a a b) e

  turned_less : (a b : A) → cmp a b ≡ Greater → cmp b a ≡ Less
  turned_less a b e = order.antisymm b a ∙ ap ordering_reverse e

  turned_greater : (a b : A) → cmp a b ≡ Less → cmp b a ≡ Greater
  turned_greater a b e = order.antisymm b a ∙ ap ordering_reverse e

  first-comm : (a b : A) → first a b ≡ first b a
  first-comm a b =
      elim (cmp a b) as (λ o. cmp a b ≡ o → by_order o a a b ≡ first b a) [
        | Less ↦ λ e. sym (is_right b a (turned_greater a b e))
        | Equal ↦ λ e. subst (λ (z : A). a ≡ first z a) (same a b e) (elim (cmp a a) as (λ o. a ≡ by_order o a a a) [ Less ↦ refl | Equal ↦ refl | Greater ↦ refl ])
        | Greater ↦ λ e. sym (is_left b a (turned_less a b e))
      ] refl

  itself : (a : A) → first a a ≡ a
  itself a = elim (cmp a a) as (λ o. by_order o a a a ≡ a) [ Less ↦ refl | Equal ↦ refl | Greater ↦ refl ]

  again : (a c : A) → first a c ≡ first a (first a c)
  again a c =
      elim (cmp a c) as (λ o. cmp a c ≡ o → by_order o a a c ≡ first a (by_order o a a c)) [
        | Less ↦ λ e. sym (itself a)
        | Equal ↦ λ e. sym (itself a)
        | Greater ↦ λ e. sym (is_right a c e)
      ] refl

  when_less : (a b c : A) → cmp a b ≡ Less → first a c ≡ first a (first b c)
  when_less a b c e =
      elim (cmp b c) as (λ o. cmp b c ≡ o → first a c ≡ first a (by_order o b b c)) [
        | Less ↦ λ f. is_left a c (order.trans a b c e f) ∙ sym (is_left a b e)
        | Equal ↦ λ f. ap (first a) (sym (same b c f))
        | Greater ↦ λ f. refl
      ] refl

  when_greater : (a b c : A) → cmp a b ≡ Greater → first b c ≡ first a (first b c)
  when_greater a b c e =
      elim (cmp b c) as (λ o. cmp b c ≡ o → by_order o b b c ≡ first a (by_order o b b c)) [
        | Less ↦ λ f. sym (is_right a b e)
        | Equal ↦ λ f. sym (is_right a b e)
        | Greater ↦ λ f. sym (is_right a c (turned_greater c a (order.trans c b a (turned_less b c f) (turned_less a b e))))
      ] refl

  first-assoc : (a b c : A) → first (first a b) c ≡ first a (first b c)
  first-assoc a b c =
      elim (cmp a b) as (λ o. cmp a b ≡ o → first (by_order o a a b) c ≡ first a (first b c)) [
        | Less ↦ λ e. when_less a b c e
        | Equal ↦ λ e. subst (λ (z : A). first a c ≡ first a (first z c)) (same a b e) (again a c)
        | Greater ↦ λ e. when_greater a b c e
      ] refl

pub lower-comm : (a b : Value) → lower a b ≡ lower b a
lower-comm = first-comm value_cmp value_cmp_total value_cmp-IsAntisymmetric

pub lower-assoc : (a b c : Value) → lower (lower a b) c ≡ lower a (lower b c)
lower-assoc = first-assoc value_cmp value_cmp_total value_cmp-IsAntisymmetric

-- the higher of two values is the first where the order is turned
higher_is : (a b : Value) → higher a b ≡ by_order (value_cmp b a) a a b
higher_is a b =
    elim (value_cmp b a) as (λ o. value_cmp b a ≡ o → higher a b ≡ by_order o a a b) [
      | Less ↦ λ e. ap (λ o. by_order o b a a) (value_cmp_total.antisymm a b ∙ ap ordering_reverse e)
      | Equal ↦ λ e. ap (λ o. by_order o b a a) (value_cmp_total.antisymm a b ∙ ap ordering_reverse e)
      | Greater ↦ λ e. ap (λ o. by_order o b a a) (value_cmp_total.antisymm a b ∙ ap ordering_reverse e)
    ] refl

turned_same : IsAntisymmetric (flip_args value_cmp)
turned_same a b e = sym (value_cmp-IsAntisymmetric b a e)

pub higher-comm : (a b : Value) → higher a b ≡ higher b a
higher-comm a b = higher_is a b ∙ first-comm (flip_args value_cmp) (back_total value_cmp_total) turned_same a b ∙ sym (higher_is b a)

pub higher-assoc : (a b c : Value) → higher (higher a b) c ≡ higher a (higher b c)
higher-assoc a b c =
    let last : Value → Value → Value = λ x y. by_order (value_cmp y x) x x y in
    higher_is (higher a b) c ∙ ap (λ x. last x c) (higher_is a b)
    ∙ first-assoc (flip_args value_cmp) (back_total value_cmp_total) turned_same a b c
    ∙ sym (higher_is a (higher b c) ∙ ap (last a) (higher_is b c))

module _ (choose : Value → Value → Value) where
  either_by-comm : ((a b : Value) → choose a b ≡ choose b a) → (a b : Option Value) → either_by choose a b ≡ either_by choose b a
  either_by-comm comm None None = refl
  either_by-comm comm None (Some b) = refl
  either_by-comm comm (Some a) None = refl
  either_by-comm comm (Some a) (Some b) = ap Some (comm a b)

  either_by-assoc : ((a b c : Value) → choose (choose a b) c ≡ choose a (choose b c)) → (a b c : Option Value) → either_by choose (either_by choose a b) c ≡ either_by choose a (either_by choose b c)
  either_by-assoc assoc None b c = refl
  either_by-assoc assoc (Some a) None None = refl
  either_by-assoc assoc (Some a) None (Some c) = refl
  either_by-assoc assoc (Some a) (Some b) None = refl
  either_by-assoc assoc (Some a) (Some b) (Some c) = ap Some (assoc a b c)

  either_by-fits : ((P : Value → Type 0) (a b : Value) → P a → P b → P (choose a b)) → (arg : Scalar) (a b : Option Value) → FitsFound arg a → FitsFound arg b → FitsFound arg (either_by choose a b)
  either_by-fits one arg None b p q = q
  either_by-fits one arg (Some a) None p q = p
  either_by-fits one arg (Some a) (Some b) p q = one (IsOfScalar arg) a b p q

  found_state : ((a b c : Option Value) → either_by choose (either_by choose a b) c ≡ either_by choose a (either_by choose b c)) → ((a b : Option Value) → either_by choose a b ≡ either_by choose b a)
      → (values : List Value) → state_from None found_one (either_by choose) values ≡ chosen choose values
  found_state assoc comm [] = refl
  found_state assoc comm (value ∷ values) =
      state_from-cons (either_by choose) assoc comm None found_one value values ∙ ap (either_by choose (Some value)) (found_state assoc comm values)

lower-one : (P : Value → Type 0) (a b : Value) → P a → P b → P (lower a b)
lower-one P a b p q = elim (value_cmp a b) as (λ o. P (by_order o a a b)) [ Less ↦ p | Equal ↦ p | Greater ↦ q ]

higher-one : (P : Value → Type 0) (a b : Value) → P a → P b → P (higher a b)
higher-one P a b p q = elim (value_cmp a b) as (λ o. P (by_order o b a a)) [ Less ↦ q | Equal ↦ p | Greater ↦ p ]

pub least_laws : AggregateLaws FitsFound None found_one (either_by lower)
least_laws = record {
  assoc = either_by-assoc lower lower-assoc;
  comm = either_by-comm lower lower-comm;
  identity = λ arg a fits. refl;
  fits_unit = λ arg. tt;
  fits_one = λ arg value of. of;
  closed = either_by-fits lower lower-one;
}

pub greatest_laws : AggregateLaws FitsFound None found_one (either_by higher)
greatest_laws = record {
  assoc = either_by-assoc higher higher-assoc;
  comm = either_by-comm higher higher-comm;
  identity = λ arg a fits. refl;
  fits_unit = λ arg. tt;
  fits_one = λ arg value of. of;
  closed = either_by-fits higher higher-one;
}

pub least_state : (values : List Value) → state_from None found_one (either_by lower) values ≡ chosen lower values
least_state = found_state lower (either_by-assoc lower lower-assoc) (either_by-comm lower lower-comm)

pub greatest_state : (values : List Value) → state_from None found_one (either_by higher) values ≡ chosen higher values
greatest_state = found_state higher (either_by-assoc higher higher-assoc) (either_by-comm higher higher-comm)
