-- The states of a column as one.
use Rattle.std.proofs.Common.{◌≡◌, ◌<◌, ◌^◌, ℕ, List, [], ◌∷◌, ◌++◌, Some, length, slice_get, refl, sym, ap, subst, ◌∙◌, fold}
use Rattle.std.proofs.lemmas.List.{map-append}
use Rattle.std.proofs.lemmas.List.Elements.{filter_map-append}
use Rattle.std.proofs.lemmas.List.Sums.{fold-append}
use Rattle.std.specs.Prelude.{OnOk}
use Rattle.std.specs.declared.result.Result.{Result}
use Rattle.std.specs.declared.result.Result.TheVariants.{Ok, Err}
use Rattle.chv_agg.proofs.StateFrontLemmas.{state_in-fits, state_in-over, state_in-reads_back}
use Rattle.chv_agg.proofs.StateLaws.{IsOver-FitsState, join-IsOver, join-unit}
use Rattle.chv_agg.specs.OfKinds.{IsOf}
use Rattle.chv_agg.specs.StateBytes.{AreState, state_bytes, state_in}
use Rattle.chv_agg.specs.States.{FitsState, IsOver, join, merged, unit_of}
use Rattle.chv_agg.specs.declared.any_agg.AnyAgg.{AnyAgg}
use Rattle.chv_types.specs.Order.{bytes}
use Rattle.chv_types.specs.declared.aggregate.AggName.{AggName}
use Rattle.chv_types.specs.declared.kind.Kind.{Kind}
use Rattle.chv_types.specs.declared.kind.Kind.TheVariants as kind
use Rattle.chv_types.specs.declared.kind.Scalar.{Scalar}
use Rattle.chv_types.specs.declared.value.Value.{Value}
use Rattle.chv_types.specs.declared.value.Value.TheVariants.{Whole, Truth, Text, State}
use Rattle.chv_merge.specs.Merging.{column, merged_states, states_in}
use Rattle.chv_merge.specs.NormalForms.{merge_values}

-- each value is of a kind
abbrev pub EachIsOf : Kind → List Value → Type 0
EachIsOf of [] = Unit {0}
EachIsOf of (value ∷ values) = IsOf of value × EachIsOf of values

module _ (agg : AggName) (arg : Scalar) where
  -- a state that another was joined to is one of its function
  pub over-joined : {A E : Type 0} (old new other : AnyAgg) (result : Result A E) → IsOver agg arg old → OnOk result (new ≡ join old other)
      → OnOk result (FitsState agg arg other) → OnOk result (IsOver agg arg new)
  over-joined old new other (Ok done) over is fits = subst (IsOver agg arg) (sym is) (join-IsOver agg arg old other over (IsOver-FitsState agg arg other fits))
  over-joined old new other (Err fault) over is fits = tt

  -- a state of fewer than 2^64 bytes fits
  pub few-fit : (state : AnyAgg) → IsOver agg arg state → length (state_bytes arg state) < 2 ^ 64 → FitsState agg arg state
  few-fit state over few = subst (FitsState agg arg) (state_in-reads_back agg arg state over) (state_in-fits agg arg (state_bytes arg state) few)

  -- what bytes of a state stand for is spelled by them
  spelled : (bytes : List ℕ) → AreState agg arg bytes → state_bytes arg (state_in agg arg bytes) ≡ bytes
  spelled bytes are =
      ap (state_bytes arg) (ap (state_in agg arg) are.spelled ∙ state_in-reads_back agg arg are.state (IsOver-FitsState agg arg are.state are.fits)) ∙ sym are.spelled

  -- states joined one after the other, and their bytes
  fold-states : (state : AnyAgg) (values : List Value) → IsOver agg arg state → EachIsOf (kind.State agg arg) values
      → fold (merge_values (Some (agg, arg))) (State (state_bytes arg state)) values ≡ State (state_bytes arg (merged state (states_in agg arg values)))
  fold-states state [] over are = refl
  fold-states state (State spelling ∷ values) over are =
      let other = state_in agg arg spelling in
      ap (λ s. fold (merge_values (Some (agg, arg))) (State (state_bytes arg (join s other))) values) (state_in-reads_back agg arg state over)
      ∙ fold-states (join state other) values (join-IsOver agg arg state other over (state_in-over agg arg spelling)) are.1
  fold-states state (Whole n ∷ values) over are = absurd are.0
  fold-states state (Truth b ∷ values) over are = absurd are.0
  fold-states state (Text text ∷ values) over are = absurd are.0

  -- the first state and the others, merged into the state of no values
  pub fold-column : (value : Value) (values : List Value) → IsOf (kind.State agg arg) value → EachIsOf (kind.State agg arg) values
      → State (state_bytes arg (merged (unit_of agg arg) (states_in agg arg (value ∷ values)))) ≡ fold (merge_values (Some (agg, arg))) value values
  fold-column (State spelling) values is are =
      let first = state_in agg arg spelling in
      ap (λ s. State (state_bytes arg (merged s (states_in agg arg values)))) (join-unit agg arg first (state_in-over agg arg spelling))
      ∙ sym (fold-states first values (state_in-over agg arg spelling) are)
      ∙ ap (λ b. fold (merge_values (Some (agg, arg))) (State b) values) (spelled spelling is)
  fold-column (Whole n) values is are = absurd is
  fold-column (Truth b) values is are = absurd is
  fold-column (Text text) values is are = absurd is

  -- a state more
  pub states-push : (place : ℕ) (seen : List (List Value)) (row : List Value) (old new : AnyAgg) → old ≡ merged_states agg arg place seen
      → new ≡ merged old (states_in agg arg (column place (row ∷ []))) → new ≡ merged_states agg arg place (seen ++ row ∷ [])
  states-push place seen row old new so_far taken =
      taken ∙ ap (λ s. merged s (states_in agg arg (column place (row ∷ [])))) so_far
      ∙ sym (fold-append join (unit_of agg arg) (states_in agg arg (column place seen)) (states_in agg arg (column place (row ∷ []))))
      ∙ ap (merged (unit_of agg arg)) (sym (map-append (λ value. state_in agg arg (bytes value)) (column place seen) (column place (row ∷ []))))
      ∙ ap (λ values. merged (unit_of agg arg) (states_in agg arg values)) (sym (filter_map-append (λ (r : List Value). slice_get r place) seen (row ∷ [])))
