-- What follows where states are joined in any order.
use Rattle.std.proofs.Common.{◌≡◌, Bool, true, false, true≢false, List, [], ◌∷◌, ◌++◌, Less, Equal, Greater, map, if◌then◌else◌, get_or, refl, sym, ap, ap₂, ◌∙◌}
use Rattle.std.proofs.lemmas.List.Elements.{All-contains, All-head, All-tail, Contains-append_left, Contains-append_right, Contains-get_or}
use Rattle.std.proofs.lemmas.List.Sorted.{ranks_by}
use Rattle.std.proofs.lemmas.List.Sums.{fold-append}
use Rattle.std.specs.List.{All, fold}
use Rattle.std.specs.List.Sorted.{IsPermutation}
use Rattle.std.specs.Ordering.{is_lt, ordering_reverse}
use Rattle.chv_agg.specs.AggregateLaws.{Mixture, Nothing, More, Both, mixed, state_from, values_of}
use Rattle.chv_types.proofs.SortingLemmas.{sorted_by-permuted}
use Rattle.chv_types.specs.Order.{value_cmp}
use Rattle.chv_types.specs.OrderLaws.{value_cmp_total, value_cmp-IsAntisymmetric}
use Rattle.chv_types.specs.Sorting.{put_in_order, sorted_by}
use Rattle.chv_types.specs.declared.value.Value.{Value}

-- what holds of all items of two lists holds of those of either
All-left : (P : Value → Type 0) (xs ys : List Value) → All P (xs ++ ys) → All P xs
All-left P xs ys all k d within = All-contains P (xs ++ ys) (get_or xs k d) all (Contains-append_left xs ys (get_or xs k d) (Contains-get_or xs k d within))

All-right : (P : Value → Type 0) (xs ys : List Value) → All P (xs ++ ys) → All P ys
All-right P xs ys all k d within = All-contains P (xs ++ ys) (get_or ys k d) all (Contains-append_right xs ys (get_or ys k d) (Contains-get_or ys k d within))

-- two lists are mapped one after the other
map-append : {S : Type 0} (one : Value → S) (xs ys : List Value) → map one (xs ++ ys) ≡ map one xs ++ map one ys
map-append one [] ys = refl
map-append one (x ∷ xs) ys = ap (λ rest. one x ∷ rest) (map-append one xs ys)

module _ {S : Type 0} (join : S → S → S) (assoc : (a b c : S) → join (join a b) c ≡ join a (join b c)) where
  -- what stands in front of all may be joined last
  pub fold_out : (a b : S) (xs : List S) → fold join (join a b) xs ≡ join a (fold join b xs)
  fold_out a b [] = refl
  fold_out a b (x ∷ xs) = ap (λ s. fold join s xs) (assoc a b x) ∙ fold_out a (join b x) xs

  module _ (comm : (a b : S) → join a b ≡ join b a) (unit : S) (one : Value → S) where
    -- a value in front of others
    pub state_from-cons : (value : Value) (values : List Value) → state_from unit one join (value ∷ values) ≡ join (one value) (state_from unit one join values)
    state_from-cons value values = ap (λ s. fold join s (map one values)) (comm unit (one value)) ∙ fold_out (one value) unit (map one values)

    -- two values in front of others change places
    pub state_from-swap : (x y : Value) (values : List Value) → state_from unit one join (x ∷ (y ∷ values)) ≡ state_from unit one join (y ∷ (x ∷ values))
    state_from-swap x y values =
        ap (λ s. fold join s (map one values)) (assoc unit (one x) (one y) ∙ ap (join unit) (comm (one x) (one y)) ∙ sym (assoc unit (one y) (one x)))

module _ {S : Type 0} (P : Value → Type 0) (Fits : S → Type 0) (unit : S) (one : Value → S) (join : S → S → S) (assoc : (a b c : S) → join (join a b) c ≡ join a (join b c)) (comm : (a b : S) → join a b ≡ join b a)
    (identity : (a : S) → Fits a → join unit a ≡ a) (fits_unit : Fits unit) (fits_one : (value : Value) → P value → Fits (one value)) (closed : (a b : S) → Fits a → Fits b → Fits (join a b)) where
  -- the state of a list of such values fits
  fold-fits : (a : S) (values : List Value) → Fits a → All P values → Fits (fold join a (map one values))
  fold-fits a [] fits of = fits
  fold-fits a (value ∷ values) fits of =
      fold-fits (join a (one value)) values (closed a (one value) fits (fits_one value (All-head P value values of))) (All-tail P value values of)

  -- the states of two lists are joined to that of both
  pub state_from-append : (xs ys : List Value) → All P xs → join (state_from unit one join xs) (state_from unit one join ys) ≡ state_from unit one join (xs ++ ys)
  state_from-append xs ys of =
      let first : S = state_from unit one join xs in
      let same : join first unit ≡ first = comm first unit ∙ identity first (fold-fits unit xs fits_unit of) in
      sym (fold_out join assoc first unit (map one ys)) ∙ ap (λ s. fold join s (map one ys)) same
      ∙ sym (fold-append join unit (map one xs) (map one ys)) ∙ ap (fold join unit) (sym (map-append one xs ys))

  -- what came to be by values and merges stands for the list of the values
  pub mixed-state_from : (mixture : Mixture) → All P (values_of mixture) → mixed unit one join mixture ≡ state_from unit one join (values_of mixture)
  mixed-state_from Nothing of = refl
  mixed-state_from (More mixture value) of =
      let before : mixed unit one join mixture ≡ state_from unit one join (values_of mixture) = mixed-state_from mixture (All-left P (values_of mixture) (value ∷ []) of) in
      ap (λ s. join s (one value)) before
      ∙ sym (fold-append join unit (map one (values_of mixture)) (one value ∷ [])) ∙ ap (fold join unit) (sym (map-append one (values_of mixture) (value ∷ [])))
  mixed-state_from (Both first second) of =
      let left : All P (values_of first) = All-left P (values_of first) (values_of second) of in
      let right : All P (values_of second) = All-right P (values_of first) (values_of second) of in
      ap₂ join (mixed-state_from first left) (mixed-state_from second right)
      ∙ state_from-append (values_of first) (values_of second) left

module _ {S : Type 0} (join : S → S → S) (assoc : (a b c : S) → join (join a b) c ≡ join a (join b c)) (comm : (a b : S) → join a b ≡ join b a) (unit : S) (one : Value → S) where
  -- a value may be put anywhere
  put_anywhere : (below : Value → Value → Bool) (x : Value) (values : List Value) → state_from unit one join (put_in_order below x values) ≡ state_from unit one join (x ∷ values)
  put_anywhere below x [] = refl
  put_anywhere below x (y ∷ values) =
      elim (below y x) as (λ b. state_from unit one join (if b then y ∷ put_in_order below x values else x ∷ (y ∷ values)) ≡ state_from unit one join (x ∷ (y ∷ values))) [
        | true ↦ state_from-cons join assoc comm unit one y (put_in_order below x values) ∙ ap (join (one y)) (put_anywhere below x values)
            ∙ sym (state_from-cons join assoc comm unit one y (x ∷ values)) ∙ state_from-swap join assoc comm unit one y x values
        | false ↦ refl
      ]

  sorted_state : (below : Value → Value → Bool) (values : List Value) → state_from unit one join (sorted_by below values) ≡ state_from unit one join values
  sorted_state below [] = refl
  sorted_state below (x ∷ values) =
      put_anywhere below x (sorted_by below values) ∙ state_from-cons join assoc comm unit one x (sorted_by below values)
      ∙ ap (join (one x)) (sorted_state below values) ∙ sym (state_from-cons join assoc comm unit one x values)

  abbrev below : Value → Value → Bool
  below x y = is_lt (value_cmp x y)

  apart : (x y : Value) → below x y ≡ false → below y x ≡ false → x ≡ y
  apart x y p q =
      elim (value_cmp x y) as (λ o. value_cmp x y ≡ o → is_lt o ≡ false → x ≡ y) [
        | Less ↦ λ e f. absurd (true≢false f)
        | Equal ↦ λ e f. value_cmp-IsAntisymmetric x y e
        | Greater ↦ λ e f. absurd (true≢false (ap is_lt (sym (value_cmp_total.antisymm y x ∙ ap ordering_reverse e)) ∙ q))
      ] refl p

  -- the state of a list goes by what it has
  pub state_from-permuted : (xs ys : List Value) → IsPermutation xs ys → state_from unit one join xs ≡ state_from unit one join ys
  state_from-permuted xs ys moved =
      sym (sorted_state below xs)
      ∙ ap (state_from unit one join) (sorted_by-permuted (ranks_by value_cmp_total (λ (x : Value). x)) apart xs ys moved)
      ∙ sorted_state below ys
