-- Groups are the states of the inputs one by one, collapsed.
use Rattle.std.proofs.Common.{◌≡◌, ℕ, ◌+◌, Bool, true, false, List, [], ◌∷◌, ◌++◌, map, refl, sym, ap, ap₂, ◌∙◌, arith}
use Rattle.std.proofs.lemmas.List.Sorted.{IsPermutation-map, length_permutation}
use Rattle.std.specs.List.Sorted.{IsPermutation}
use Rattle.chv_agg.proofs.JoinOrder.{join-assoc, join-comm}
use Rattle.chv_agg.proofs.PairLemmas.{collapse-each_by_key, collapse-permuted, join_each-IsAssociative, join_each-IsCommutative, merged-IsStepwise}
use Rattle.chv_agg.specs.Pairs.{collapse, IsStepwise, join_each}
use Rattle.chv_agg.specs.States.{join}
use Rattle.chv_agg.specs.declared.any_agg.AnyAgg.{AnyAgg}
use Rattle.chv_group.proofs.TallyLemmas.{values_of-states_over}
use Rattle.chv_group.specs.Collapses.{states_alone, states_row}
use Rattle.chv_group.specs.Groups.{argument_at, grouped, input_state, inputs_of, row_for}
use Rattle.chv_group.specs.Takings.{input_keys}
use Rattle.chv_group.specs.Tallies.{states_over}
use Rattle.chv_group.specs.declared.call.AggCall.{AggCall}
use Rattle.chv_group.specs.declared.call.Keyed.{Keyed}
use Rattle.chv_types.specs.Members.{members}
use Rattle.chv_types.specs.Order.{row_cmp}
use Rattle.chv_types.specs.OrderLaws.{row_cmp_total, row_cmp-IsAntisymmetric}
use Rattle.chv_types.specs.declared.value.Value.{Value}

-- the states of calls over inputs are joined input by input
states_over-IsStepwise : (calls : List AggCall) (place : ℕ) → IsStepwise (join_each join) (states_over place calls)
states_over-IsStepwise [] place first next inputs = refl
states_over-IsStepwise (call ∷ calls) place first next inputs =
    ap₂ (λ (state : AnyAgg) (states : List AnyAgg). state ∷ states)
    (merged-IsStepwise call.agg call.arg (input_state call) join-assoc join-comm (argument_at place first) (argument_at place next) (map (argument_at place) inputs))
    (states_over-IsStepwise calls (place + 1) first next inputs)

module _ (calls : List AggCall) where
  -- rows of keys with states
  rows_of : (keys : List (List Value)) (inputs : List Keyed)
      → map (row_for calls inputs) keys ≡ map (states_row calls) (map (λ key. (key, states_over 0 calls (inputs_of key inputs))) keys)
  rows_of [] inputs = refl
  rows_of (key ∷ keys) inputs =
      ap₂ (λ (row : List Value) (rows : List (List Value)). row ∷ rows)
      (ap (λ (values : List Value). key ++ values) (sym (values_of-states_over calls 0 (inputs_of key inputs)))) (rows_of keys inputs)

  pub grouped-collapse : (inputs : List Keyed) → grouped calls inputs false ≡ map (states_row calls) (collapse row_cmp (join_each join) (states_alone calls inputs))
  unfolding grouped
  grouped-collapse inputs =
      rows_of (members row_cmp (input_keys inputs)) inputs
      ∙ ap (map (states_row calls))
      (sym (collapse-each_by_key row_cmp (join_each join) (λ (input : Keyed). input.key) (states_over 0 calls) (states_over-IsStepwise calls 0) row_cmp_total row_cmp-IsAntisymmetric (join_each-IsAssociative join join-assoc) inputs))

  grouped-permuted : (xs ys : List Keyed) → IsPermutation xs ys → grouped calls xs false ≡ grouped calls ys false
  grouped-permuted xs ys moved =
      grouped-collapse xs
      ∙ ap (map (states_row calls))
      (collapse-permuted row_cmp (join_each join) row_cmp_total row_cmp-IsAntisymmetric (join_each-IsAssociative join join-assoc) (join_each-IsCommutative join join-comm)
      (states_alone calls xs) (states_alone calls ys) (IsPermutation-map _ xs ys moved))
      ∙ sym (grouped-collapse ys)

  -- where there are inputs, there is no other group
  pub grouped-bag : (xs ys : List Keyed) (always : Bool) → IsPermutation xs ys → grouped calls xs always ≡ grouped calls ys always
  unfolding grouped
  grouped-bag xs ys false moved = grouped-permuted xs ys moved
  grouped-bag [] [] true moved = refl
  grouped-bag [] (y ∷ ys) true moved = absurd (omega (arith, length_permutation [] (y ∷ ys) moved))
  grouped-bag (x ∷ xs) [] true moved = absurd (omega (arith, length_permutation (x ∷ xs) [] moved))
  grouped-bag (x ∷ xs) (y ∷ ys) true moved = grouped-permuted (x ∷ xs) (y ∷ ys) moved
