-- Merged rows of one key have the key.
use Rattle.std.proofs.Common.{◌≡◌, ℕ, zero, suc, ◌+◌, ◌≤◌, nat_eq, nat_le, Bool, true, false, ◌||◌, List, [], ◌∷◌, length, Option, None, Some, Less, Equal, Greater, refl, sym, ap, ap₂, subst, ◌∙◌, arith, rules, slice_get}
use Rattle.std.specs.List.{cons_option, list_any}
use Rattle.chv_agg.specs.Pairs.{join_found}
use Rattle.chv_agg.specs.States.{lower}
use Rattle.chv_types.specs.Members.{by_order}
use Rattle.chv_types.specs.Order.{value_cmp}
use Rattle.chv_types.specs.declared.aggregate.AggName.{AggName}
use Rattle.chv_types.specs.declared.kind.Kind.{Kind}
use Rattle.chv_types.specs.declared.kind.Scalar.{Scalar}
use Rattle.chv_types.specs.declared.value.Value.{Value}
use Rattle.chv_merge.specs.NormalForms.{merge_from, merge_rows, merge_values, merged_at, values_at}

found_alone : {V : Type 0} (join : V → V → V) (o : Option V) → o ≡ join_found join o None
found_alone join None = refl
found_alone join (Some v) = refl

-- what merged rows have at a place
pub merge_from-found : (merged : ℕ → Option (AggName × Scalar)) (from : ℕ) (a b : List Value) (place : ℕ)
    → slice_get (merge_from merged from a b) place ≡ join_found (merge_values (merged (from + place))) (slice_get a place) (slice_get b place)
merge_from-found merged from [] b place = refl
merge_from-found merged from (x ∷ a) [] place = found_alone (merge_values (merged (from + place))) (slice_get (x ∷ a) place)
merge_from-found merged from (x ∷ a) (y ∷ b) zero = ap (λ i. Some (merge_values (merged i) x y)) (omega arith)
merge_from-found merged from (x ∷ a) (y ∷ b) (suc place) =
    merge_from-found merged (from + 1) a b place ∙ ap (λ i. join_found (merge_values (merged i)) (slice_get a place) (slice_get b place)) (omega arith)

-- a longer row has a value where the shorter one has
past_too : (a b : List Value) (place : ℕ) → length a ≤ length b → slice_get b place ≡ None → slice_get a place ≡ None
past_too [] b place shorter e = refl
past_too (x ∷ a) [] place shorter e = absurd (omega (arith, shorter))
past_too (x ∷ a) (y ∷ b) zero shorter e = cc
past_too (x ∷ a) (y ∷ b) (suc place) shorter e = past_too a b place (omega (arith, shorter)) e

cons_fewer : (o r : Option Value) (xs ys : List Value) → (r ≡ None → o ≡ None) → length xs ≤ length ys → length (cons_option o xs) ≤ length (cons_option r ys)
cons_fewer None None xs ys h few = few
cons_fewer None (Some y) xs ys h few = omega (arith, few)
cons_fewer (Some x) None xs ys h few = let apart : ◌≡◌ {A = Option Value} (Some x) None = h refl in cc
cons_fewer (Some x) (Some y) xs ys h few = omega (arith, few)

values_fewer : (key : List ℕ) (a b : List Value) → length a ≤ length b → length (values_at key a) ≤ length (values_at key b)
values_fewer [] a b shorter = omega arith
values_fewer (place ∷ key) a b shorter =
    cons_fewer (slice_get a place) (slice_get b place) (values_at key a) (values_at key b) (past_too a b place shorter) (values_fewer key a b shorter)

heads_same : (o r : Option Value) (xs ys : List Value) → (r ≡ None → o ≡ None) → length xs ≤ length ys → cons_option o xs ≡ cons_option r ys → (o ≡ r) × (xs ≡ ys)
heads_same None None xs ys h few e = (refl, e)
heads_same None (Some y) xs ys h few e = let long : length xs ≡ suc (length ys) = ap length e in absurd (omega (arith, few, long))
heads_same (Some x) None xs ys h few e = let apart : ◌≡◌ {A = Option Value} (Some x) None = h refl in cc
heads_same (Some x) (Some y) xs ys h few e = (cc, cc)

-- a place of a list of places is the first or one of the others
one_of : (P : ℕ → Type 0) (place first : ℕ) (other : Bool) → (nat_eq place first || other) ≡ true → P first → (other ≡ true → P place) → P place
one_of P place first other e p h =
    elim (nat_eq place first) as (λ b. nat_eq place first ≡ b → (b || other) ≡ true → P place) [
      | true ↦ λ same any. subst P (search (rules, same)) p
      | false ↦ λ apart any. h any
    ] refl e

same_where_shorter : (key : List ℕ) (a b : List Value) → length a ≤ length b → values_at key a ≡ values_at key b
    → (place : ℕ) → list_any (nat_eq place) key ≡ true → slice_get a place ≡ slice_get b place
same_where_shorter [] a b shorter e place any = cc
same_where_shorter (first ∷ key) a b shorter e place any =
    let both = heads_same (slice_get a first) (slice_get b first) (values_at key a) (values_at key b) (past_too a b first shorter) (values_fewer key a b shorter) e in
    one_of (λ i. slice_get a i ≡ slice_get b i) place first (list_any (nat_eq place) key) any both.0 (same_where_shorter key a b shorter both.1 place)

-- rows of one key have the same values at its places
pub same_at_places : (key : List ℕ) (a b : List Value) → values_at key a ≡ values_at key b
    → (place : ℕ) → list_any (nat_eq place) key ≡ true → slice_get a place ≡ slice_get b place
same_at_places key a b e place any =
    elim (nat_le (length a) (length b)) as (λ r. nat_le (length a) (length b) ≡ r → slice_get a place ≡ slice_get b place) [
      | true ↦ λ t. same_where_shorter key a b (search (rules, t)) e place any
      | false ↦ λ f. sym (same_where_shorter key b a (search (rules, f)) (sym e) place any)
    ] refl

nat_eq-itself : (n : ℕ) → nat_eq n n ≡ true
nat_eq-itself n = search rules

first_passes : (first : ℕ) (other : Bool) → (nat_eq first first || other) ≡ true
first_passes first other = ap (λ b. b || other) (nat_eq-itself first)

other_passes : (b other : Bool) → other ≡ true → (b || other) ≡ true
other_passes false other e = e
other_passes true other e = refl

-- rows that are the same at the places of a key have one key
values_same : (key : List ℕ) (a b : List Value) → ((place : ℕ) → list_any (nat_eq place) key ≡ true → slice_get a place ≡ slice_get b place) → values_at key a ≡ values_at key b
values_same [] a b h = refl
values_same (first ∷ key) a b h =
    ap₂ (λ (o : Option Value) (vs : List Value). cons_option o vs) (h first (first_passes first (list_any (nat_eq first) key)))
    (values_same key a b (λ place any. h place (other_passes (nat_eq place first) (list_any (nat_eq place) key) any)))

lower-itself : (a : Value) → lower a a ≡ a
lower-itself a = elim (value_cmp a a) as (λ o. by_order o a a a ≡ a) [ Less ↦ refl | Equal ↦ refl | Greater ↦ refl ]

found_twice : (o : Option Value) → join_found lower o o ≡ o
found_twice None = refl
found_twice (Some v) = ap Some (lower-itself v)

-- no states are merged at a place of the key
merged_at-key : (kinds : List Kind) (key : List ℕ) (place : ℕ) → list_any (nat_eq place) key ≡ true → merged_at kinds key place ≡ None
merged_at-key kinds key place any = rw any refl

pub merge_rows-key : (kinds : List Kind) (key : List ℕ) (a b : List Value) → values_at key a ≡ values_at key b → values_at key (merge_rows kinds key a b) ≡ values_at key b
merge_rows-key kinds key a b e =
    values_same key (merge_rows kinds key a b) b (λ place any.
    merge_from-found (merged_at kinds key) 0 a b place
    ∙ ap (λ i. join_found (merge_values (merged_at kinds key i)) (slice_get a place) (slice_get b place)) (omega arith)
    ∙ ap (λ merged. join_found (merge_values merged) (slice_get a place) (slice_get b place)) (merged_at-key kinds key place any)
    ∙ ap (λ o. join_found lower o (slice_get b place)) (same_at_places key a b e place any)
    ∙ found_twice (slice_get b place))
