-- Rows by their keys: docs/SQL.md, "GROUP BY".
use Rattle.std.specs.Prelude.{ℕ, pos, ◌≡◌, ◌+◌, Bool, true, false, ◌&&◌, if◌then◌else◌, List, [], ◌∷◌, ◌++◌, map, slice_get}
use Rattle.std.specs.List.{filter}
use Rattle.std.specs.Option.{unwrap_or}
use Rattle.std.specs.Ordering.{is_eq}
use Rattle.chv_agg.specs.StateBytes.{state_bytes, state_in}
use Rattle.chv_agg.specs.States.{merged, one_like, unit_of, value_of}
use Rattle.chv_agg.specs.declared.any_agg.AnyAgg.{AnyAgg}
use Rattle.chv_group.specs.declared.call.AggCall.{AggCall}
use Rattle.chv_group.specs.declared.call.Keyed.{Keyed}
use Rattle.chv_types.specs.Fits.{IsOfScalar}
use Rattle.chv_types.specs.Members.{members}
use Rattle.chv_types.specs.Order.{bytes, row_cmp}
use Rattle.chv_types.specs.declared.aggregate.AggForm.{AggForm}
use Rattle.chv_types.specs.declared.aggregate.AggForm.TheVariants as form
use Rattle.chv_types.specs.declared.aggregate.AggName.{AggName}
use Rattle.chv_types.specs.declared.aggregate.AggName.TheVariants as agg
use Rattle.chv_types.specs.declared.kind.Scalar.{Scalar}
use Rattle.chv_types.specs.declared.value.Value.{Value}
use Rattle.chv_types.specs.declared.value.Value.TheVariants.{Whole, State}

-- a form takes states
abbrev pub takes_states : AggForm → Bool
takes_states form.Plain = false
takes_states form.State = false
takes_states form.Merge = true
takes_states form.MergeState = true

-- a form gives a state
abbrev pub gives_state : AggForm → Bool
gives_state form.Plain = false
gives_state form.State = true
gives_state form.Merge = false
gives_state form.MergeState = true

-- the state that an argument of a call stands for: the one that it spells, or that of one value
abbrev pub input_state : AggCall → Value → AnyAgg
input_state call value =
    if takes_states call.form then state_in call.agg call.arg (bytes value) else one_like (unit_of call.agg call.arg) value

-- the state of a call over arguments
abbrev pub call_state : AggCall → List Value → AnyAgg
call_state call arguments = merged (unit_of call.agg call.arg) (map (input_state call) arguments)

-- what a call gives of its state
abbrev pub state_value : AggCall → AnyAgg → Value
state_value call state = if gives_state call.form then State (state_bytes call.arg state) else value_of call.arg state

-- the argument at a place; behind the arguments it is 0
abbrev pub argument_at : ℕ → Keyed → Value
argument_at place input = unwrap_or (slice_get input.args place) (Whole (pos 0))

-- what calls give over the inputs of a group, where the argument of the first is at this place
abbrev pub results : ℕ → List AggCall → List Keyed → List Value
results place [] inputs = []
results place (call ∷ calls) inputs =
    state_value call (call_state call (map (argument_at place) inputs)) ∷ results (place + 1) calls inputs

-- the inputs of a key
abbrev pub inputs_of : List Value → List Keyed → List Keyed
inputs_of key inputs = filter (λ (input : Keyed). is_eq (row_cmp input.key key)) inputs

-- the row of a key: the key, and what calls give over its inputs
abbrev pub row_for : List AggCall → List Keyed → List Value → List Value
row_for calls inputs key = key ++ results 0 calls (inputs_of key inputs)

-- a list has no item
abbrev pub is_empty : {A : Type 0} → List A → Bool
is_empty [] = true
is_empty (item ∷ items) = false

-- the rows of groups: one for each key, in the order of keys; and where there is always one, that of no inputs
unfoldable pub grouped : List AggCall → List Keyed → Bool → List (List Value)
grouped calls inputs always =
    if always && is_empty inputs then row_for calls [] [] ∷ []
    else map (row_for calls inputs) (members row_cmp (map (λ (input : Keyed). input.key) inputs))

-- a value is one that a function over values of a kind takes: for a count it is any
abbrev pub TakesValue : AggName → Scalar → Value → Type 0
TakesValue agg.Count arg value = Unit {0}
TakesValue other arg value = IsOfScalar arg value

-- a value is one that a call takes: as a state it is any, since one that spells none stands for no values
abbrev pub TakesArgument : AggCall → Value → Type 0
TakesArgument call value = takes_states call.form ≡ false → TakesValue call.agg call.arg value

-- calls take these values, one each
abbrev pub TakesArguments : List AggCall → List Value → Type 0
TakesArguments [] [] = Unit {0}
TakesArguments [] (value ∷ values) = ⊥
TakesArguments (call ∷ calls) [] = ⊥
TakesArguments (call ∷ calls) (value ∷ values) = TakesArgument call value × TakesArguments calls values
