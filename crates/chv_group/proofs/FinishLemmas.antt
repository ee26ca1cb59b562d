-- Keys in order have the groups of the definition.
use Rattle.std.proofs.Common.{◌≡◌, ℕ, ◌<◌, Bool, true, false, ◌&&◌, List, [], ◌∷◌, length, map, get_or, Less, Equal, Greater, refl, sym, ap, ap₂, subst, ◌∙◌, arith}
use Rattle.std.proofs.lemmas.Cmp.{eq_by_cmp_equiv}
use Rattle.std.proofs.lemmas.List.{get_or-map, length-map}
use Rattle.std.proofs.lemmas.List.Elements.{All-from_recursion, All-head, All-tail}
use Rattle.std.proofs.lemmas.List.MinMax.{ranks_by}
use Rattle.std.proofs.lemmas.List.Sorted.{All-permutation, IsPermutation-map}
use Rattle.std.proofs.lemmas.Map.Keys.{IsDistinct-head, IsDistinct-tail, IsDistinct-IsPermutation}
use Rattle.std.specs.Cmp.{IsStrictWeakOrder}
use Rattle.std.specs.List.{All, IsDistinct}
use Rattle.std.specs.List.Sorted.{IsPermutation, IsSortedBy}
use Rattle.std.specs.Ordering.{eq_by_cmp, is_eq, is_lt, ordering_reverse}
use Rattle.chv_agg.specs.declared.any_agg.AnyAgg.{AnyAgg}
use Rattle.chv_group.proofs.KeyLemmas.{placed_rows}
use Rattle.chv_group.proofs.PartLemmas.{keys-groups_of}
use Rattle.chv_group.proofs.TallyLemmas.{states_over-none, values_of-states_over, values_of-units}
use Rattle.chv_group.specs.Groups.{grouped, is_empty, row_for}
use Rattle.chv_group.specs.Keys.{ArePlaced, all_values, key_below, key_values, placed_groups, placed_row}
use Rattle.chv_group.specs.Takings.{AreOf, group_keys, input_keys}
use Rattle.chv_group.specs.Tallies.{unit_value, values_of}
use Rattle.chv_group.specs.declared.call.AggCall.{AggCall}
use Rattle.chv_group.specs.declared.call.Keyed.{Keyed}
use Rattle.chv_group.specs.declared.placed_key.PlacedKey.{PlacedKey}
use Rattle.chv_types.proofs.MemberLemmas.{HaveSame-permuted, HaveSame-trans, members-unique}
use Rattle.chv_types.proofs.SortingLemmas.{Ascending, Ascending-from_sorted}
use Rattle.chv_types.specs.Members.{HaveSame, Rises, members}
use Rattle.chv_types.specs.Order.{row_cmp}
use Rattle.chv_types.specs.OrderLaws.{row_cmp_total, row_cmp-IsAntisymmetric}
use Rattle.chv_types.specs.declared.value.Value.{Value}

-- of two keys that differ, one that is not above the other is below it
below : (a b : List Value) → is_lt (row_cmp b a) ≡ false → eq_by_cmp row_cmp a b ≡ false → row_cmp a b ≡ Less
below a b = elim (row_cmp a b) as (λ o. row_cmp a b ≡ o → is_lt (row_cmp b a) ≡ false → is_eq o ≡ false → o ≡ Less) [
  | Less ↦ λ e f g. refl
  | Equal ↦ λ e f g. cc
  | Greater ↦ λ e f g. let back : is_lt (row_cmp b a) ≡ true = ap is_lt (row_cmp_total.antisymm b a ∙ ap ordering_reverse e) in cc
] refl

pub key_below-IsStrictWeakOrder : IsStrictWeakOrder key_below
key_below-IsStrictWeakOrder = ranks_by row_cmp_total (λ (key : PlacedKey). key_values key.key)

-- keys in order rise, where they differ
rising : (keys : List PlacedKey) → Ascending key_below keys → IsDistinct (eq_by_cmp row_cmp) (all_values keys) → Rises row_cmp (all_values keys)
rising [] up apart = tt
rising (key ∷ keys) up apart = (
  first,
  rising keys up.1 (IsDistinct-tail (eq_by_cmp row_cmp) (key_values key.key) (all_values keys) apart),
)
  where
    first : All (λ (values : List Value). row_cmp (key_values key.key) values ≡ Less) (all_values keys)
    first k d within =
        let inside : k < length keys = rw length-map at within in
        let differ : All (λ (values : List Value). eq_by_cmp row_cmp (key_values key.key) values ≡ false) (all_values keys) =
        All-from_recursion (λ (values : List Value). eq_by_cmp row_cmp (key_values key.key) values ≡ false) (all_values keys)
        (IsDistinct-head (eq_by_cmp row_cmp) (key_values key.key) (all_values keys) apart) in
        let is_key : get_or (all_values keys) k d ≡ key_values (get_or keys k key).key = get_or-map (λ (other : PlacedKey). key_values other.key) keys k key d inside in
        below (key_values key.key) (get_or (all_values keys) k d) (ap (λ (values : List Value). is_lt (row_cmp values (key_values key.key))) is_key ∙ up.0 k key inside) (differ k d within)

module _ (calls : List AggCall) (inputs : List Keyed) (tallies : List AnyAgg) where
  -- rows of keys are those of the definition
  rows_of_keys : (keys : List PlacedKey) → All (λ (key : PlacedKey). placed_row calls tallies key ≡ row_for calls inputs (key_values key.key)) keys
      → map (placed_row calls tallies) keys ≡ map (row_for calls inputs) (all_values keys)
  rows_of_keys [] all = refl
  rows_of_keys (key ∷ keys) all =
      ap₂ (λ (row : List Value) (rows : List (List Value)). row ∷ rows) (All-head (λ (one : PlacedKey). placed_row calls tallies one ≡ row_for calls inputs (key_values one.key)) key keys all)
      (rows_of_keys keys (All-tail (λ (one : PlacedKey). placed_row calls tallies one ≡ row_for calls inputs (key_values one.key)) key keys all))

  module _ (names : List (List ℕ)) (keys : List PlacedKey) (of : AreOf calls names (placed_groups (length calls) keys tallies) inputs) (placed : ArePlaced keys) where
    -- keys in order are those of the inputs, each once
    sorted_keys : (sorted : List PlacedKey) → IsPermutation keys sorted → IsSortedBy key_below sorted → all_values sorted ≡ members row_cmp (input_keys inputs)
    sorted_keys sorted moved in_order =
        let same : group_keys (placed_groups (length calls) keys tallies) ≡ all_values keys = keys-groups_of (length calls) (all_values keys) tallies in
        let changed : IsPermutation (all_values keys) (all_values sorted) = IsPermutation-map (λ (key : PlacedKey). key_values key.key) keys sorted moved in
        members-unique row_cmp row_cmp_total row_cmp-IsAntisymmetric (input_keys inputs) (all_values sorted)
        (rising sorted (Ascending-from_sorted key_below-IsStrictWeakOrder sorted in_order)
        (IsDistinct-IsPermutation (eq_by_cmp row_cmp) (eq_by_cmp_equiv row_cmp_total).symm (all_values keys) (all_values sorted) changed (subst (IsDistinct (eq_by_cmp row_cmp)) same of.apart)))
        (HaveSame-trans (input_keys inputs) (all_values keys) (all_values sorted) (subst (HaveSame (input_keys inputs)) same of.same)
        (HaveSame-permuted (all_values keys) (all_values sorted) changed))

    sorted_rows : (sorted : List PlacedKey) → IsPermutation keys sorted → IsSortedBy key_below sorted
        → map (placed_row calls tallies) sorted ≡ map (row_for calls inputs) (members row_cmp (input_keys inputs))
    sorted_rows sorted moved in_order =
        rows_of_keys sorted (All-permutation (λ (key : PlacedKey). placed_row calls tallies key ≡ row_for calls inputs (key_values key.key)) keys sorted moved
        (placed_rows calls keys tallies inputs placed of.states))
        ∙ ap (map (row_for calls inputs)) (sorted_keys sorted moved in_order)

-- there are no inputs where there are no groups
no_inputs : (calls : List AggCall) (names : List (List ℕ)) (inputs : List Keyed) → AreOf calls names [] inputs → inputs ≡ []
no_inputs calls names [] of = refl
no_inputs calls names (input ∷ inputs) of = let there = (of.same input.key).0 (0, omega arith, refl) in let within = there.1 in absurd (omega arith)

-- rows in order are the groups of the inputs, but for the row that is always there
pub grouped-rows : (calls : List AggCall) (names : List (List ℕ)) (keys sorted : List PlacedKey) (tallies : List AnyAgg) (inputs : List Keyed) (always : Bool)
    → AreOf calls names (placed_groups (length calls) keys tallies) inputs → ArePlaced keys → IsPermutation keys sorted → IsSortedBy key_below sorted → (always && is_empty keys) ≡ false
    → map (placed_row calls tallies) sorted ≡ grouped calls inputs always
unfolding grouped
grouped-rows calls names keys sorted tallies inputs false of placed moved in_order some = sorted_rows calls inputs tallies names keys of placed sorted moved in_order
grouped-rows calls names [] sorted tallies [] true of placed moved in_order some = cc
grouped-rows calls names (key ∷ keys) sorted tallies [] true of placed moved in_order some =
    let there = (of.same (key_values key.key)).1 (0, omega arith, refl) in let within = there.1 in absurd (omega arith)
grouped-rows calls names keys sorted tallies (input ∷ inputs) true of placed moved in_order some = sorted_rows calls (input ∷ inputs) tallies names keys of placed sorted moved in_order

-- and that row
pub grouped-none : (calls : List AggCall) (names : List (List ℕ)) (keys : List PlacedKey) (tallies : List AnyAgg) (inputs : List Keyed) (always : Bool)
    → AreOf calls names (placed_groups (length calls) keys tallies) inputs → (always && is_empty keys) ≡ true → map unit_value calls ∷ [] ≡ grouped calls inputs always
unfolding grouped
grouped-none calls names keys tallies inputs false of none = cc
grouped-none calls names (key ∷ keys) tallies inputs true of none = cc
grouped-none calls names [] tallies [] true of none =
    ap (λ (values : List Value). values ∷ []) (sym (values_of-units calls) ∙ ap (values_of calls) (sym (states_over-none calls 0)) ∙ values_of-states_over calls 0 [])
grouped-none calls names [] tallies (input ∷ inputs) true of none = let e : input ∷ inputs ≡ [] = no_inputs calls names (input ∷ inputs) of in cc
