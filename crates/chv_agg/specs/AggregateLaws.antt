-- What aggregate functions keep to: docs/SQL.md, "Aggregate functions".
use Rattle.std.specs.Prelude.{ℕ, ℤ, pos, ◌≡◌, ◌<◌, ◌^◌, ◌≤ℤ◌, ◌-◌, neg_ℤ, List, [], ◌∷◌, ◌++◌, length, map}
use Rattle.std.specs.List.{All, fold}
use Rattle.chv_types.specs.Fits.{IsOfScalar}
use Rattle.chv_types.specs.Members.{Rises}
use Rattle.chv_types.specs.Order.{value_cmp}
use Rattle.chv_types.specs.declared.kind.Scalar.{Scalar}
use Rattle.chv_types.specs.declared.value.Value.{Value}

-- a number has 64 bits without sign
abbrev pub IsUnsigned : ℕ → Type 0
IsUnsigned n = n < 2 ^ 64

-- a number has 64 bits with sign
abbrev pub IsSigned : ℤ → Type 0
IsSigned n = (neg_ℤ (pos (2 ^ 63)) ≤ℤ n) × (n ≤ℤ pos (2 ^ 63 - 1))

-- values are of a kind and rise
abbrev pub IsSet : Scalar → List Value → Type 0
IsSet arg values = All (IsOfScalar arg) values × Rises value_cmp values

-- states are joined in any order; the state of no values changes none that fits, and what is made of states that fit, fits
pub record AggregateLaws {State : Type 0} (Fits : Scalar → State → Type 0) (unit : State) (one : Value → State) (join : State → State → State) : Type 0 where
  pub assoc : (a b c : State) → join (join a b) c ≡ join a (join b c)
  pub comm : (a b : State) → join a b ≡ join b a
  pub identity : (arg : Scalar) (a : State) → Fits arg a → join unit a ≡ a
  pub fits_unit : (arg : Scalar) → Fits arg unit
  pub fits_one : (arg : Scalar) (value : Value) → IsOfScalar arg value → Fits arg (one value)
  pub closed : (arg : Scalar) (a b : State) → Fits arg a → Fits arg b → Fits arg (join a b)

-- bytes begin with one state of a kind at most, so what is spelled reads back, whatever follows it
pub record SpellingLaws {State : Type 0} (Fits : Scalar → State → Type 0) (Counted : State → Type 0) (spelling : Scalar → State → List ℕ) : Type 0 where
  pub one : (arg : Scalar) (a b : State) (x y : List ℕ) → Fits arg a → Counted a → Fits arg b → Counted b → spelling arg a ++ x ≡ spelling arg b ++ y → (a ≡ b) × (x ≡ y)

-- a state is none that keeps its values
abbrev pub keeps_none : {State : Type 0} → State → Type 0
keeps_none state = Unit {0}

-- a set has fewer than 2^64 values
abbrev pub has_few : List Value → Type 0
has_few values = length values < 2 ^ 64

-- the state of values, one after the other
abbrev pub state_from : {State : Type 0} → State → (Value → State) → (State → State → State) → List Value → State
state_from unit one join values = fold join unit (map one values)

-- how a state came to be: from nothing, by one value more, or by a merge
pub data Mixture : Type 0 where
  Nothing : Mixture
  More : Mixture → Value → Mixture
  Both : Mixture → Mixture → Mixture

-- the values that went into a state
abbrev pub values_of : Mixture → List Value
values_of Nothing = []
values_of (More mixture value) = values_of mixture ++ value ∷ []
values_of (Both first second) = values_of first ++ values_of second

-- the state that came to be so
abbrev pub mixed : {State : Type 0} → State → (Value → State) → (State → State → State) → Mixture → State
mixed unit one join Nothing = unit
mixed unit one join (More mixture value) = join (mixed unit one join mixture) (one value)
mixed unit one join (Both first second) = join (mixed unit one join first) (mixed unit one join second)
