-- How many values the states of rows have.
use Rattle.std.specs.Prelude.{ℕ, pos, ◌≡◌, ◌+◌, ◌≤◌, List, [], ◌∷◌, Some, slice_get}
use Rattle.std.specs.Option.{unwrap_or}
use Rattle.chv_agg.specs.StateBytes.{state_in}
use Rattle.chv_agg.specs.States.{set_size}
use Rattle.chv_types.specs.Order.{bytes}
use Rattle.chv_types.specs.declared.kind.Kind.{Kind}
use Rattle.chv_types.specs.declared.kind.Kind.TheVariants as kind
use Rattle.chv_types.specs.declared.value.Value.{Value}
use Rattle.chv_types.specs.declared.value.Value.TheVariants.{Whole}

-- the numbers of items together
abbrev pub total_of : {A : Type 0} → (A → ℕ) → List A → ℕ
total_of f [] = 0
total_of f (x ∷ xs) = f x + total_of f xs

-- how many different values the state has that a value of a kind spells
abbrev pub set_in : Kind → Value → ℕ
set_in (kind.Plain plain) value = 0
set_in (kind.State function arg) value = set_size (state_in function arg (bytes value))

-- the same of the value that a row has at a place
abbrev pub set_at : Kind → ℕ → List Value → ℕ
set_at of place row = set_in of (unwrap_or (slice_get row place) (Whole (pos 0)))

-- the states of each column have sets of so many values together at most
abbrev pub SetsWithin : ℕ → List Kind → List (List Value) → Type 0
SetsWithin most kinds rows = (place : ℕ) (of : Kind) → slice_get kinds place ≡ Some of → total_of (set_at of place) rows ≤ most
