-- How a list of values is read that rises.
use Rattle.std.specs.Prelude.{ℕ, ◌≡◌, Bool, true, List, [], ◌∷◌, ◌++◌}
use Rattle.std.specs.declared.option.Option.{Option}
use Rattle.std.specs.declared.option.Option.TheVariants.{None, Some}
use Rattle.std.specs.List.{All}
use Rattle.std.specs.Ordering.{is_lt}
use Rattle.chv_agg.specs.Plain.{scalar_spelling, values_spelling}
use Rattle.chv_bytes.specs.Places.{StandsAt}
use Rattle.chv_types.specs.Fits.{IsOfScalar}
use Rattle.chv_types.specs.Members.{Rises}
use Rattle.chv_types.specs.Order.{value_cmp}
use Rattle.chv_types.specs.Values.{seen_value}
use Rattle.chv_types.specs.declared.seen.Seen.{Seen}
use Rattle.chv_types.specs.declared.kind.Scalar.{Scalar}
use Rattle.chv_types.specs.declared.value.Value.{Value}

-- a value stands above the last of a list, where it has one
abbrev pub follows : List Value → Value → Bool
follows [] value = true
follows (last ∷ []) value = is_lt (value_cmp last value)
follows (first ∷ (next ∷ values)) value = follows (next ∷ values) value

-- a value stands above the last one that was seen, where there is one
abbrev pub is_above : Option Seen → Value → Bool
is_above None value = true
is_above (Some last) value = is_lt (value_cmp (seen_value last) value)

-- what fits stands in bytes, from one place to another
pub record EndsAt {State : Type 0} (Fits : State → Type 0) (spelling : State → List ℕ) (bytes : List ℕ) (at behind : ℕ) : Type 0 where
  pub state : State
  pub fits : Fits state
  pub stands : StandsAt (spelling state) bytes at behind

-- a list gains a value of a kind above its last, whose spelling stands at a place of bytes
pub record Gains (arg : Scalar) (old new : List Value) (bytes : List ℕ) (at behind : ℕ) : Type 0 where
  pub value : Value
  pub of : IsOfScalar arg value
  pub above : follows old value ≡ true
  pub gained : new ≡ old ++ value ∷ []
  pub stands : StandsAt (scalar_spelling arg value) bytes at behind

-- values of a kind rise, and their spelling stands at a place of bytes
pub record RiseAt (arg : Scalar) (values : List Value) (bytes : List ℕ) (at behind : ℕ) : Type 0 where
  pub of : All (IsOfScalar arg) values
  pub rise : Rises value_cmp values
  pub stand : StandsAt (values_spelling arg values) bytes at behind
