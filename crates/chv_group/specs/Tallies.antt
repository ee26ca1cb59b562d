-- The states of calls over a group.
use Rattle.std.specs.Prelude.{ℕ, ◌≡◌, ◌+◌, List, [], ◌∷◌, map, take, drop}
use Rattle.chv_agg.specs.States.{IsOver, join, unit_of}
use Rattle.chv_agg.specs.declared.any_agg.AnyAgg.{AnyAgg}
use Rattle.chv_group.specs.Groups.{argument_at, call_state, input_state, state_value}
use Rattle.chv_group.specs.declared.call.AggCall.{AggCall}
use Rattle.chv_group.specs.declared.call.Keyed.{Keyed}
use Rattle.chv_types.specs.declared.value.Value.{Value}

-- the states of calls over no inputs
abbrev pub units : List AggCall → List AnyAgg
units calls = map (λ (call : AggCall). unit_of call.agg call.arg) calls

-- the states of calls over the inputs of a group, where the argument of the first is at this place
abbrev pub states_over : ℕ → List AggCall → List Keyed → List AnyAgg
states_over place [] inputs = []
states_over place (call ∷ calls) inputs = call_state call (map (argument_at place) inputs) ∷ states_over (place + 1) calls inputs

-- the states of calls with one argument more for each
abbrev pub fed : List AggCall → List AnyAgg → List Value → List AnyAgg
fed (call ∷ calls) (state ∷ states) (value ∷ values) = join state (input_state call value) ∷ fed calls states values
fed calls states values = []

-- what calls give of their states
abbrev pub values_of : List AggCall → List AnyAgg → List Value
values_of (call ∷ calls) (state ∷ states) = state_value call state ∷ values_of calls states
values_of calls states = []

-- what a call gives of no inputs
abbrev pub unit_value : AggCall → Value
unit_value call = state_value call (unit_of call.agg call.arg)

-- so many items from a place on
abbrev pub part : {A : Type 0} → ℕ → ℕ → List A → List A
part first count items = take count (drop first items)

-- of two lists all is the same but for so many items from a place on
pub record KeepsOthers {A : Type 0} (first count : ℕ) (old new : List A) : Type 0 where
  pub before : take first new ≡ take first old
  pub behind : drop (first + count) new ≡ drop (first + count) old

-- each call has a state of its function
abbrev pub AreOver : List AggCall → List AnyAgg → Type 0
AreOver [] [] = Unit {0}
AreOver [] (state ∷ states) = ⊥
AreOver (call ∷ calls) [] = ⊥
AreOver (call ∷ calls) (state ∷ states) = IsOver call.agg call.arg state × AreOver calls states
