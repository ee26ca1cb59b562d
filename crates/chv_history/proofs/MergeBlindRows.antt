-- The states of rows that are merged.
use Rattle.std.proofs.Common.{◌≡◌, ℕ, zero, suc, ◌+◌, nat_eq, Bool, true, false, if◌then◌else◌, List, [], ◌∷◌, Option, None, Some, Less, Equal, Greater, refl, sym, ap, ap₂, subst, ◌∙◌, arith, slice_get}
use Rattle.std.specs.List.{list_any}
use Rattle.chv_agg.proofs.JoinOrder.{join-assoc, join-comm}
use Rattle.chv_agg.proofs.PairLemmas.{merged-IsStepwise}
use Rattle.chv_agg.proofs.StateFrontLemmas.{join_bytes-joined}
use Rattle.chv_agg.specs.OfKinds.{AreOf, IsOf}
use Rattle.chv_agg.specs.Pairs.{join_each, join_found}
use Rattle.chv_agg.specs.StateBytes.{join_bytes, state_in}
use Rattle.chv_agg.specs.States.{join, merged, one_like, unit_of}
use Rattle.chv_agg.specs.declared.any_agg.AnyAgg.{AnyAgg}
use Rattle.chv_expr.proofs.TermFits.{AllOf}
use Rattle.chv_group.specs.Groups.{argument_at, call_state, input_state, takes_states}
use Rattle.chv_group.specs.Tallies.{states_over}
use Rattle.chv_group.specs.declared.call.AggCall.{AggCall}
use Rattle.chv_group.specs.declared.call.Keyed.{Keyed}
use Rattle.chv_merge.proofs.KeyLemmas.{merge_from-found}
use Rattle.chv_merge.specs.NormalForms.{merge_from, merge_rows, merge_values, merged_at}
use Rattle.chv_types.specs.Members.{by_order}
use Rattle.chv_types.specs.Order.{bytes, value_cmp}
use Rattle.chv_types.specs.declared.aggregate.AggName.{AggName}
use Rattle.chv_types.specs.declared.kind.Kind.{Kind}
use Rattle.chv_types.specs.declared.kind.Kind.TheVariants as kind
use Rattle.chv_types.specs.declared.kind.Scalar.{Scalar}
use Rattle.chv_types.specs.declared.value.Value.{Value}
use Rattle.chv_types.specs.declared.value.Value.TheVariants.{Whole, Truth, Text, State}

-- a column of states has states
abbrev pub IsShaped : Kind → Value → Type 0
IsShaped (kind.Plain plain) value = Unit {0}
IsShaped (kind.State agg arg) (State spelling) = Unit {0}
IsShaped (kind.State agg arg) other = ⊥

value_shaped : (of : Kind) (value : Value) → IsOf of value → IsShaped of value
value_shaped (kind.Plain plain) value is = tt
value_shaped (kind.State agg arg) (State spelling) is = tt
value_shaped (kind.State agg arg) (Whole n) is = absurd is
value_shaped (kind.State agg arg) (Truth truth) is = absurd is
value_shaped (kind.State agg arg) (Text text) is = absurd is

pub row_shaped : (kinds : List Kind) (row : List Value) → AreOf kinds row → AllOf IsShaped kinds row
row_shaped [] [] are = tt
row_shaped [] (value ∷ row) are = absurd are
row_shaped (of ∷ kinds) [] are = absurd are
row_shaped (of ∷ kinds) (value ∷ row) are = (value_shaped of value are.0, row_shaped kinds row are.1)

-- two states are merged to one
states_shaped : (merged : Option (AggName × Scalar)) (agg : AggName) (arg : Scalar) (s t : List ℕ) → IsShaped (kind.State agg arg) (merge_values merged (State s) (State t))
states_shaped None agg arg s t = elim (value_cmp (State s) (State t)) as (λ o. IsShaped (kind.State agg arg) (by_order o (State s) (State s) (State t))) [
  | Less ↦ tt
  | Equal ↦ tt
  | Greater ↦ tt
]
states_shaped (Some (function, over)) agg arg s t = tt

values_shaped : (merged : Option (AggName × Scalar)) (of : Kind) (a b : Value) → IsShaped of a → IsShaped of b → IsShaped of (merge_values merged a b)
values_shaped merged (kind.Plain plain) a b p q = tt
values_shaped merged (kind.State agg arg) (State s) (State t) p q = states_shaped merged agg arg s t
values_shaped merged (kind.State agg arg) (State s) (Whole n) p q = absurd q
values_shaped merged (kind.State agg arg) (State s) (Truth truth) p q = absurd q
values_shaped merged (kind.State agg arg) (State s) (Text text) p q = absurd q
values_shaped merged (kind.State agg arg) (Whole n) b p q = absurd p
values_shaped merged (kind.State agg arg) (Truth truth) b p q = absurd p
values_shaped merged (kind.State agg arg) (Text text) b p q = absurd p

from_shaped : (merged : ℕ → Option (AggName × Scalar)) (place : ℕ) (kinds : List Kind) (a b : List Value)
    → AllOf IsShaped kinds a → AllOf IsShaped kinds b → AllOf IsShaped kinds (merge_from merged place a b)
from_shaped merged place [] [] [] p q = tt
from_shaped merged place [] [] (y ∷ b) p q = absurd q
from_shaped merged place [] (x ∷ a) b p q = absurd p
from_shaped merged place (of ∷ kinds) [] b p q = absurd p
from_shaped merged place (of ∷ kinds) (x ∷ a) [] p q = absurd q
from_shaped merged place (of ∷ kinds) (x ∷ a) (y ∷ b) p q = (values_shaped (merged place) of x y p.0 q.0, from_shaped merged (place + 1) kinds a b p.1 q.1)

-- rows merged have states in the columns of states
pub merged_shaped : (kinds : List Kind) (key : List ℕ) (a b : List Value) → AllOf IsShaped kinds a → AllOf IsShaped kinds b → AllOf IsShaped kinds (merge_rows kinds key a b)
merged_shaped kinds key a b = from_shaped (merged_at kinds key) 0 kinds a b

-- the state at the place of a column of states
pub state_at : (kinds : List Kind) (row : List Value) (place : ℕ) (agg : AggName) (arg : Scalar) → AllOf IsShaped kinds row → slice_get kinds place ≡ Some (kind.State agg arg)
    → (spelling : List ℕ) × (slice_get row place ≡ Some (State spelling))
state_at [] [] place agg arg are at = absurd (cc at)
state_at [] (value ∷ row) place agg arg are at = absurd are
state_at (of ∷ kinds) [] place agg arg are at = absurd are
state_at (kind.Plain plain ∷ kinds) (value ∷ row) zero agg arg are at = absurd (cc at)
state_at (kind.State function over ∷ kinds) (State spelling ∷ row) zero agg arg are at = (spelling, refl)
state_at (kind.State function over ∷ kinds) (Whole n ∷ row) zero agg arg are at = absurd are.0
state_at (kind.State function over ∷ kinds) (Truth truth ∷ row) zero agg arg are at = absurd are.0
state_at (kind.State function over ∷ kinds) (Text text ∷ row) zero agg arg are at = absurd are.0
state_at (of ∷ kinds) (value ∷ row) (suc place) agg arg are at = state_at kinds row place agg arg are.1 at

-- a state of a column that is merged and no key is joined
module _ (kinds : List Kind) (key : List ℕ) (place : ℕ) (agg : AggName) (arg : Scalar) (at : slice_get kinds place ≡ Some (kind.State agg arg))
    (free : list_any (nat_eq place) key ≡ false) where
  merged_here : merged_at kinds key place ≡ Some (agg, arg)
  merged_here = rw (free, at) refl

  pub state_merged : (a b : List Value) (s t : List ℕ) → slice_get a place ≡ Some (State s) → slice_get b place ≡ Some (State t)
      → slice_get (merge_rows kinds key a b) place ≡ Some (State (join_bytes agg arg s t))
  state_merged a b s t x y =
      merge_from-found (merged_at kinds key) 0 a b place
      ∙ ap (λ i. join_found (merge_values (merged_at kinds key i)) (slice_get a place) (slice_get b place)) (omega arith)
      ∙ ap (λ merged. join_found (merge_values merged) (slice_get a place) (slice_get b place)) merged_here
      ∙ ap₂ (λ (o r : Option Value). join_found (merge_values (Some (agg, arg))) o r) x y

-- the state of a call over one argument
abbrev pub state_alone : AggCall → Value → AnyAgg
state_alone call value = call_state call (value ∷ [])

input_spelled : (call : AggCall) (value : Value) → takes_states call.form ≡ true → input_state call value ≡ state_in call.agg call.arg (bytes value)
input_spelled call value takes = ap (λ (b : Bool). if b then state_in call.agg call.arg (bytes value) else one_like (unit_of call.agg call.arg) value) takes

-- over a joined state it is that over both
pub state_joined : (call : AggCall) (s t : List ℕ) → takes_states call.form ≡ true
    → state_alone call (State (join_bytes call.agg call.arg s t)) ≡ join (state_alone call (State s)) (state_alone call (State t))
state_joined call s t takes =
    let unit : AnyAgg = unit_of call.agg call.arg in
    ap (join unit)
    (input_spelled call (State (join_bytes call.agg call.arg s t)) takes
    ∙ join_bytes-joined call.agg call.arg s t
    ∙ sym (ap₂ join (input_spelled call (State s) takes) (input_spelled call (State t) takes)))
    ∙ sym (join-assoc unit (input_state call (State s)) (input_state call (State t)))
    ∙ merged-IsStepwise call.agg call.arg (input_state call) join-assoc join-comm (State s) (State t) []

-- calls over one input, each of which gives the joined state of those over two others
pub states_joined : (place : ℕ) (calls : List AggCall) (x y both : Keyed)
    → ((i : ℕ) (call : AggCall) → slice_get calls i ≡ Some call
    → state_alone call (argument_at (place + i) both) ≡ join (state_alone call (argument_at (place + i) x)) (state_alone call (argument_at (place + i) y)))
    → states_over place calls (both ∷ []) ≡ join_each join (states_over place calls (x ∷ [])) (states_over place calls (y ∷ []))
states_joined place [] x y both each = refl
states_joined place (call ∷ calls) x y both each =
    let here : place + 0 ≡ place = omega arith in
    ap₂ (λ (state : AnyAgg) (states : List AnyAgg). state ∷ states)
    (subst (λ n. state_alone call (argument_at n both) ≡ join (state_alone call (argument_at n x)) (state_alone call (argument_at n y))) here (each 0 call refl))
    (states_joined (place + 1) calls x y both (λ i other is.
    let next : place + suc i ≡ place + 1 + i = omega arith in
    subst (λ n. state_alone other (argument_at n both) ≡ join (state_alone other (argument_at n x)) (state_alone other (argument_at n y))) next (each (suc i) other is)))
