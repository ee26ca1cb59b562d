-- Values and rows are merged in any order.
use Rattle.std.proofs.Common.{◌≡◌, ℕ, ◌+◌, List, [], ◌∷◌, Option, None, Some, Less, Equal, Greater, refl, sym, ap, ap₂, ◌∙◌, fold}
use Rattle.std.specs.declared.cmp.Ordering.{Ordering}
use Rattle.chv_agg.specs.ExtremeLaws.{lower-assoc, lower-comm}
use Rattle.chv_agg.specs.Pairs.{IsAssociative, IsCommutative, IsStepwise}
use Rattle.chv_agg.specs.States.{lower}
use Rattle.chv_types.specs.Members.{by_order}
use Rattle.chv_types.specs.Order.{value_cmp}
use Rattle.chv_types.specs.declared.aggregate.AggName.{AggName}
use Rattle.chv_types.specs.declared.kind.Kind.{Kind}
use Rattle.chv_types.specs.declared.kind.Scalar.{Scalar}
use Rattle.chv_types.specs.declared.value.Value.{Value}
use Rattle.chv_types.specs.declared.value.Value.TheVariants.{Whole, Truth, Text, State}
use Rattle.chv_merge.specs.NormalForms.{merge_all, merge_from, merge_rows, merge_values, merged_at}
use Rattle.chv_merge.proofs.JoinLemmas.{join_bytes-IsAssociative, join_bytes-IsCommutative}

-- a value is no state
abbrev IsPlain : Value → Type 0
IsPlain (State spelling) = ⊥
IsPlain other = Unit {0}

-- a plain value is below each state
lower_than_state : (a : Value) (spelling : List ℕ) → IsPlain a → lower a (State spelling) ≡ a
unfolding value_cmp
lower_than_state (Whole n) spelling p = refl
lower_than_state (Truth b) spelling p = refl
lower_than_state (Text text) spelling p = refl
lower_than_state (State other) spelling p = absurd p

one_is_plain : (o : Ordering) (a b : Value) → IsPlain a → IsPlain b → IsPlain (by_order o a a b)
one_is_plain Less a b p q = p
one_is_plain Equal a b p q = p
one_is_plain Greater a b p q = q

lower-IsPlain : (a b : Value) → IsPlain a → IsPlain b → IsPlain (lower a b)
lower-IsPlain a b = one_is_plain (value_cmp a b) a b

-- a plain value is merged as the lower, on the left and on the right
plain_left : (merged : Option (AggName × Scalar)) (a b : Value) → IsPlain a → merge_values merged a b ≡ lower a b
plain_left None a b p = refl
plain_left (Some (agg, arg)) (Whole n) b p = refl
plain_left (Some (agg, arg)) (Truth t) b p = refl
plain_left (Some (agg, arg)) (Text text) b p = refl
plain_left (Some (agg, arg)) (State spelling) b p = absurd p

plain_right : (merged : Option (AggName × Scalar)) (a b : Value) → IsPlain b → merge_values merged a b ≡ lower a b
plain_right None a b p = refl
plain_right (Some (agg, arg)) (Whole n) b p = refl
plain_right (Some (agg, arg)) (Truth t) b p = refl
plain_right (Some (agg, arg)) (Text text) b p = refl
plain_right (Some (agg, arg)) (State spelling) (Whole n) p = refl
plain_right (Some (agg, arg)) (State spelling) (Truth t) p = refl
plain_right (Some (agg, arg)) (State spelling) (Text text) p = refl
plain_right (Some (agg, arg)) (State spelling) (State other) p = absurd p

-- merged with a state a plain value stays
state_left : (merged : Option (AggName × Scalar)) (spelling : List ℕ) (b : Value) → IsPlain b → merge_values merged (State spelling) b ≡ b
state_left merged spelling b p = plain_right merged (State spelling) b p ∙ lower-comm (State spelling) b ∙ lower_than_state b spelling p

state_right : (merged : Option (AggName × Scalar)) (a : Value) (spelling : List ℕ) → IsPlain a → merge_values merged a (State spelling) ≡ a
state_right merged a spelling p = plain_left merged a (State spelling) p ∙ lower_than_state a spelling p

-- what holds of plain values and of states holds of all
by_plain : (P : Value → Type 0) → ((a : Value) → IsPlain a → P a) → ((spelling : List ℕ) → P (State spelling)) → (a : Value) → P a
by_plain P plain state (Whole n) = plain (Whole n) tt
by_plain P plain state (Truth t) = plain (Truth t) tt
by_plain P plain state (Text text) = plain (Text text) tt
by_plain P plain state (State spelling) = state spelling

-- two states are merged to a state
two_states : (merged : Option (AggName × Scalar)) (s t : List ℕ) → (u : List ℕ) × (merge_values merged (State s) (State t) ≡ State u)
two_states None s t = elim (value_cmp (State s) (State t)) as (λ o. (u : List ℕ) × (by_order o (State s) (State s) (State t) ≡ State u)) [
  | Less ↦ (s, refl)
  | Equal ↦ (s, refl)
  | Greater ↦ (t, refl)
]
two_states (Some (agg, arg)) s t = (_, refl)

states-assoc : (merged : Option (AggName × Scalar)) (s t u : List ℕ)
    → merge_values merged (merge_values merged (State s) (State t)) (State u) ≡ merge_values merged (State s) (merge_values merged (State t) (State u))
states-assoc None s t u = lower-assoc (State s) (State t) (State u)
states-assoc (Some (agg, arg)) s t u = ap State (join_bytes-IsAssociative agg arg s t u)

states-comm : (merged : Option (AggName × Scalar)) (s t : List ℕ) → merge_values merged (State s) (State t) ≡ merge_values merged (State t) (State s)
states-comm None s t = lower-comm (State s) (State t)
states-comm (Some (agg, arg)) s t = ap State (join_bytes-IsCommutative agg arg s t)

module _ (merged : Option (AggName × Scalar)) where
  abbrev merge : Value → Value → Value
  merge = merge_values merged

  pub merge_values-IsCommutative : IsCommutative (merge_values merged)
  merge_values-IsCommutative a b =
      by_plain (λ x. merge x b ≡ merge b x)
      (λ x p. plain_left merged x b p ∙ lower-comm x b ∙ sym (plain_right merged b x p))
      (λ s. by_plain (λ y. merge (State s) y ≡ merge y (State s))
      (λ y q. state_left merged s y q ∙ sym (state_right merged y s q))
      (λ t. states-comm merged s t) b) a

  -- three values of which the first, the second or the third is plain
  first_plain : (a b c : Value) → IsPlain a → merge (merge a b) c ≡ merge a (merge b c)
  first_plain a b c p =
      by_plain (λ y. merge (merge a y) c ≡ merge a (merge y c))
      (λ y q. ap (λ z. merge z c) (plain_left merged a y p) ∙ plain_left merged (lower a y) c (lower-IsPlain a y p q)
      ∙ lower-assoc a y c ∙ sym (plain_left merged a (merge y c) p ∙ ap (lower a) (plain_left merged y c q)))
      (λ t. ap (λ z. merge z c) (state_right merged a t p)
      ∙ by_plain (λ z. merge a z ≡ merge a (merge (State t) z))
      (λ z q. ap (merge a) (sym (state_left merged t z q)))
      (λ u. let both = two_states merged t u in state_right merged a u p ∙ sym (ap (merge a) both.1 ∙ state_right merged a both.0 p)) c) b

  second_plain : (s : List ℕ) (b c : Value) → IsPlain b → merge (merge (State s) b) c ≡ merge (State s) (merge b c)
  second_plain s b c q =
      ap (λ z. merge z c) (state_left merged s b q)
      ∙ by_plain (λ z. merge b z ≡ merge (State s) (merge b z))
      (λ z r. plain_left merged b z q ∙ sym (state_left merged s (lower b z) (lower-IsPlain b z q r)) ∙ ap (merge (State s)) (sym (plain_left merged b z q)))
      (λ u. state_right merged b u q ∙ sym (state_left merged s b q) ∙ ap (merge (State s)) (sym (state_right merged b u q))) c

  third_plain : (s t : List ℕ) (c : Value) → IsPlain c → merge (merge (State s) (State t)) c ≡ merge (State s) (merge (State t) c)
  third_plain s t c r =
      let both = two_states merged s t in
      ap (λ z. merge z c) both.1 ∙ state_left merged both.0 c r ∙ sym (ap (merge (State s)) (state_left merged t c r) ∙ state_left merged s c r)

  pub merge_values-IsAssociative : IsAssociative (merge_values merged)
  merge_values-IsAssociative a b c =
      by_plain (λ x. merge (merge x b) c ≡ merge x (merge b c))
      (λ x p. first_plain x b c p)
      (λ s. by_plain (λ y. merge (merge (State s) y) c ≡ merge (State s) (merge y c))
      (λ y q. second_plain s y c q)
      (λ t. by_plain (λ z. merge (merge (State s) (State t)) z ≡ merge (State s) (merge (State t) z))
      (λ z r. third_plain s t z r)
      (λ u. states-assoc merged s t u) c) b) a

module _ (merged : ℕ → Option (AggName × Scalar)) where
  merge_from-IsCommutative : (place : ℕ) → IsCommutative (merge_from merged place)
  merge_from-IsCommutative place [] [] = refl
  merge_from-IsCommutative place [] (y ∷ b) = refl
  merge_from-IsCommutative place (x ∷ a) [] = refl
  merge_from-IsCommutative place (x ∷ a) (y ∷ b) =
      ap₂ (λ (v : Value) (vs : List Value). v ∷ vs) (merge_values-IsCommutative (merged place) x y) (merge_from-IsCommutative (place + 1) a b)

  merge_from-IsAssociative : (place : ℕ) → IsAssociative (merge_from merged place)
  merge_from-IsAssociative place [] b c = refl
  merge_from-IsAssociative place (x ∷ a) [] c = refl
  merge_from-IsAssociative place (x ∷ a) (y ∷ b) [] = refl
  merge_from-IsAssociative place (x ∷ a) (y ∷ b) (z ∷ c) =
      ap₂ (λ (v : Value) (vs : List Value). v ∷ vs) (merge_values-IsAssociative (merged place) x y z) (merge_from-IsAssociative (place + 1) a b c)

module _ (kinds : List Kind) (key : List ℕ) where
  pub merge_rows-IsCommutative : IsCommutative (merge_rows kinds key)
  merge_rows-IsCommutative = merge_from-IsCommutative (merged_at kinds key) 0

  pub merge_rows-IsAssociative : IsAssociative (merge_rows kinds key)
  merge_rows-IsAssociative = merge_from-IsAssociative (merged_at kinds key) 0

  fold_behind : (a b : List Value) (rows : List (List Value)) → fold (merge_rows kinds key) (merge_rows kinds key a b) rows ≡ merge_rows kinds key a (fold (merge_rows kinds key) b rows)
  fold_behind a b [] = refl
  fold_behind a b (row ∷ rows) =
      ap (λ (first : List Value). fold (merge_rows kinds key) first rows) (merge_rows-IsAssociative a b row) ∙ fold_behind a (merge_rows kinds key b row) rows

  -- rows are merged one after the other
  pub merge_all-IsStepwise : IsStepwise (merge_rows kinds key) (merge_all kinds key)
  merge_all-IsStepwise first next rows = fold_behind first next rows
