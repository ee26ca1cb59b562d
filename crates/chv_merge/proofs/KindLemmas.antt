-- The rows of each key as one are of the kinds of the rows, where joint sets are not too large.
use Rattle.std.proofs.Common.{◌≡◌, ℕ, zero, suc, ◌+◌, ◌<◌, ◌≤◌, ◌^◌, nat_eq, true, false, if◌then◌else◌, List, [], ◌∷◌, Option, None, Some, Less, Equal, Greater, refl, sym, ap, subst, ◌∙◌, ◌⊎◌, inl, inr, arith, slice_get}
use Rattle.std.specs.List.{list_any}
use Rattle.std.specs.Option.{option_and_then}
use Rattle.chv_agg.proofs.JoinFits.{join-fits, set_size-join}
use Rattle.chv_agg.proofs.StateFrontLemmas.{state_in-spelled}
use Rattle.chv_agg.specs.OfKinds.{AllAreOf, AreOf, IsOf}
use Rattle.chv_agg.specs.Pairs.{put_pair}
use Rattle.chv_agg.specs.Sets.{SetsWithin, set_at, set_in, total_of}
use Rattle.chv_agg.specs.StateBytes.{AreState, join_bytes, state_in}
use Rattle.chv_agg.specs.States.{FitsState, join, lower, set_size}
use Rattle.chv_types.specs.Members.{by_order}
use Rattle.chv_types.specs.Order.{row_cmp, value_cmp}
use Rattle.chv_types.specs.declared.aggregate.AggName.{AggName}
use Rattle.chv_types.specs.declared.kind.Kind.{Kind}
use Rattle.chv_types.specs.declared.kind.Kind.TheVariants as kind
use Rattle.chv_types.specs.declared.kind.Scalar.{Scalar}
use Rattle.chv_types.specs.declared.value.Value.{Value}
use Rattle.chv_types.specs.declared.value.Value.TheVariants.{Whole, Truth, Text, State}
use Rattle.chv_merge.specs.NormalForms.{aggregated, keyed, merge_from, merge_rows, merge_values, merged_at, states_of}
use Rattle.chv_merge.proofs.AggregatedLemmas.{Pair, pairs_of, rows_in}

-- a merged value is of the kind of both, and has no larger a set than both
abbrev IsMerged : Kind → Value → Value → Value → Type 0
IsMerged of x y made = IsOf of made × (set_in of made ≤ set_in of x + set_in of y)

lower-IsMerged : (of : Kind) (x y : Value) → IsOf of x → IsOf of y → IsMerged of x y (lower x y)
lower-IsMerged of x y h k = elim (value_cmp x y) as (λ o. IsMerged of x y (by_order o x x y)) [
  | Less ↦ (h, omega arith)
  | Equal ↦ (h, omega arith)
  | Greater ↦ (k, omega arith)
]

spelled_fits : (agg : AggName) (arg : Scalar) (spelling : List ℕ) → AreState agg arg spelling → FitsState agg arg (state_in agg arg spelling)
spelled_fits agg arg spelling h = subst (FitsState agg arg) (sym (ap (state_in agg arg) h.spelled ∙ state_in-spelled agg arg h.state h.fits)) h.fits

join-IsMerged : (agg : AggName) (arg : Scalar) (a b : List ℕ) → AreState agg arg a → AreState agg arg b
    → set_size (state_in agg arg a) + set_size (state_in agg arg b) < 2 ^ 64 → IsMerged (kind.State agg arg) (State a) (State b) (State (join_bytes agg arg a b))
join-IsMerged agg arg a b h k few =
    let no_more : set_size (join (state_in agg arg a) (state_in agg arg b)) ≤ set_size (state_in agg arg a) + set_size (state_in agg arg b) = set_size-join (state_in agg arg a) (state_in agg arg b) in
    let fits : FitsState agg arg (join (state_in agg arg a) (state_in agg arg b)) =
    join-fits agg arg (state_in agg arg a) (state_in agg arg b) (spelled_fits agg arg a h) (spelled_fits agg arg b k) (omega (arith, few, no_more)) in
    let read : set_size (state_in agg arg (join_bytes agg arg a b)) ≡ set_size (join (state_in agg arg a) (state_in agg arg b)) =
    ap set_size (state_in-spelled agg arg (join (state_in agg arg a) (state_in agg arg b)) fits) in
    (record { state = join (state_in agg arg a) (state_in agg arg b); fits = fits; spelled = refl }, omega (arith, no_more, read))

states-IsMerged : (agg : AggName) (arg : Scalar) (x y : Value) → IsOf (kind.State agg arg) x → IsOf (kind.State agg arg) y
    → set_in (kind.State agg arg) x + set_in (kind.State agg arg) y < 2 ^ 64 → IsMerged (kind.State agg arg) x y (merge_values (Some (agg, arg)) x y)
states-IsMerged agg arg (State a) (State b) h k few = join-IsMerged agg arg a b h k few
states-IsMerged agg arg (State a) (Whole n) h k few = absurd k
states-IsMerged agg arg (State a) (Truth t) h k few = absurd k
states-IsMerged agg arg (State a) (Text text) h k few = absurd k
states-IsMerged agg arg (Whole n) y h k few = absurd h
states-IsMerged agg arg (Truth t) y h k few = absurd h
states-IsMerged agg arg (Text text) y h k few = absurd h

by_states : (of : Kind) (x y : Value) → IsOf of x → IsOf of y → set_in of x + set_in of y < 2 ^ 64 → IsMerged of x y (merge_values (states_of of) x y)
by_states (kind.Plain plain) x y h k few = lower-IsMerged (kind.Plain plain) x y h k
by_states (kind.State agg arg) x y h k few = states-IsMerged agg arg x y h k few

-- at a place of a kind the states of the kind are merged, or none
abbrev Suit : Option (AggName × Scalar) → Kind → Type 0
Suit merged of = (merged ≡ None) ⊎ (merged ≡ states_of of)

merge_values-IsMerged : (merged : Option (AggName × Scalar)) (of : Kind) (x y : Value) → Suit merged of → IsOf of x → IsOf of y
    → set_in of x + set_in of y < 2 ^ 64 → IsMerged of x y (merge_values merged x y)
merge_values-IsMerged merged of x y (inl none) h k few = subst (λ m. IsMerged of x y (merge_values m x y)) (sym none) (lower-IsMerged of x y h k)
merge_values-IsMerged merged of x y (inr same) h k few = subst (λ m. IsMerged of x y (merge_values m x y)) (sym same) (by_states of x y h k few)

-- a row has no larger sets than two others
abbrev NoMore : List Kind → List Value → List Value → List Value → Type 0
NoMore kinds a b made = (place : ℕ) (of : Kind) → slice_get kinds place ≡ Some of → set_at of place made ≤ set_at of place a + set_at of place b

-- the sets of two rows together are small
abbrev Few : List Kind → List Value → List Value → Type 0
Few kinds a b = (place : ℕ) (of : Kind) → slice_get kinds place ≡ Some of → set_at of place a + set_at of place b < 2 ^ 64

no_more : (first : Kind) (kinds : List Kind) (x y z : Value) (a b made : List Value) → set_in first z ≤ set_in first x + set_in first y → NoMore kinds a b made
    → NoMore (first ∷ kinds) (x ∷ a) (y ∷ b) (z ∷ made)
no_more first kinds x y z a b made h k zero of e = let same : first ≡ of = cc in subst (λ o. set_in o z ≤ set_in o x + set_in o y) same h
no_more first kinds x y z a b made h k (suc place) of e = k place of e

module _ (merged : ℕ → Option (AggName × Scalar)) where
  -- from a place on the states of kinds are merged, or none
  abbrev AllSuit : ℕ → List Kind → Type 0
  AllSuit from kinds = (place : ℕ) (of : Kind) → slice_get kinds place ≡ Some of → Suit (merged (from + place)) of

  merge_from-of : (kinds : List Kind) (from : ℕ) (a b : List Value) → AllSuit from kinds → AreOf kinds a → AreOf kinds b → Few kinds a b
      → AreOf kinds (merge_from merged from a b) × NoMore kinds a b (merge_from merged from a b)
  merge_from-of [] from [] [] suit h k few = (tt, λ place of e. omega arith)
  merge_from-of [] from (x ∷ a) b suit h k few = absurd h
  merge_from-of [] from [] (y ∷ b) suit h k few = absurd k
  merge_from-of (of ∷ kinds) from [] b suit h k few = absurd h
  merge_from-of (of ∷ kinds) from (x ∷ a) [] suit h k few = absurd k
  merge_from-of (of ∷ kinds) from (x ∷ a) (y ∷ b) suit h k few =
      let here : Suit (merged from) of = subst (λ n. Suit (merged n) of) (omega arith) (suit zero of refl) in
      let first : IsMerged of x y (merge_values (merged from) x y) = merge_values-IsMerged (merged from) of x y here h.0 k.0 (few zero of refl) in
      let rest = merge_from-of kinds (from + 1) a b (λ place other e. subst (λ n. Suit (merged n) other) (omega arith) (suit (suc place) other e)) h.1 k.1 (λ place other e. few (suc place) other e) in
      ((first.0, rest.0), no_more of kinds x y (merge_values (merged from) x y) a b (merge_from merged (from + 1) a b) first.1 rest.1)

merged_at-suits : (kinds : List Kind) (key : List ℕ) → AllSuit (merged_at kinds key) 0 kinds
merged_at-suits kinds key place of e =
    subst (λ n. Suit (merged_at kinds key n) of) (omega arith)
    (elim (list_any (nat_eq place) key) as (λ b. Suit (if b then None else option_and_then states_of (slice_get kinds place)) of) [
      | true ↦ inl refl
      | false ↦ inr (ap (option_and_then states_of) e)
    ])

module _ (kinds : List Kind) (key : List ℕ) where
  merge_rows-of : (a b : List Value) → AreOf kinds a → AreOf kinds b → Few kinds a b → AreOf kinds (merge_rows kinds key a b) × NoMore kinds a b (merge_rows kinds key a b)
  merge_rows-of a b = merge_from-of (merged_at kinds key) kinds 0 a b (merged_at-suits kinds key)

  put_pair-of : (pair : Pair) (pairs : List Pair) → AreOf kinds pair.1 → AllAreOf kinds (rows_in pairs)
      → ((place : ℕ) (of : Kind) → slice_get kinds place ≡ Some of → set_at of place pair.1 + total_of (set_at of place) (rows_in pairs) < 2 ^ 64)
      → AllAreOf kinds (rows_in (put_pair row_cmp (merge_rows kinds key) pair pairs))
      × ((place : ℕ) (of : Kind) → slice_get kinds place ≡ Some of
      → total_of (set_at of place) (rows_in (put_pair row_cmp (merge_rows kinds key) pair pairs)) ≤ set_at of place pair.1 + total_of (set_at of place) (rows_in pairs))
  put_pair-of pair [] h k few = ((h, tt), λ place of e. omega arith)
  put_pair-of pair (first ∷ pairs) h k few =
      elim (row_cmp pair.0 first.0) as (λ o.
      AllAreOf kinds (rows_in (by_order o (pair ∷ (first ∷ pairs)) ((first.0, merge_rows kinds key pair.1 first.1) ∷ pairs) (first ∷ put_pair row_cmp (merge_rows kinds key) pair pairs)))
      × ((place : ℕ) (of : Kind) → slice_get kinds place ≡ Some of
      → total_of (set_at of place) (rows_in (by_order o (pair ∷ (first ∷ pairs)) ((first.0, merge_rows kinds key pair.1 first.1) ∷ pairs) (first ∷ put_pair row_cmp (merge_rows kinds key) pair pairs)))
      ≤ set_at of place pair.1 + (set_at of place first.1 + total_of (set_at of place) (rows_in pairs)))) [
        | Less ↦ ((h, k), λ place of e. omega arith)
        | Equal ↦
            let made = merge_rows-of pair.1 first.1 h k.0 (λ place of e. omega (arith, few place of e)) in
            ((made.0, k.1), λ place of e. omega (arith, made.1 place of e))
        | Greater ↦
            let rest = put_pair-of pair pairs h k.1 (λ place of e. omega (arith, few place of e)) in
            ((k.0, rest.0), λ place of e. omega (arith, rest.1 place of e))
      ]

  pairs_of-of : (rows : List (List Value)) → AllAreOf kinds rows
      → ((place : ℕ) (of : Kind) → slice_get kinds place ≡ Some of → total_of (set_at of place) rows < 2 ^ 64)
      → AllAreOf kinds (rows_in (pairs_of kinds key rows))
      × ((place : ℕ) (of : Kind) → slice_get kinds place ≡ Some of → total_of (set_at of place) (rows_in (pairs_of kinds key rows)) ≤ total_of (set_at of place) rows)
  pairs_of-of [] h few = (tt, λ place of e. omega arith)
  pairs_of-of (row ∷ rows) h few =
      let rest = pairs_of-of rows h.1 (λ place of e. omega (arith, few place of e)) in
      let made = put_pair-of (keyed key row) (pairs_of kinds key rows) h.0 rest.0 (λ place of e. omega (arith, few place of e, rest.1 place of e)) in
      (made.0, λ place of e. omega (arith, made.1 place of e, rest.1 place of e))

  pub aggregated-kinds : (most : ℕ) (rows : List (List Value)) → most < 2 ^ 64 → AllAreOf kinds rows → SetsWithin most kinds rows → AllAreOf kinds (aggregated kinds key rows)
  unfolding aggregated
  aggregated-kinds most rows small are within = (pairs_of-of rows are (λ place of e. omega (arith, small, within place of e))).0
