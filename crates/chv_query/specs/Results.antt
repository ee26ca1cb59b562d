-- What a query gives over rows: docs/SQL.md, "SELECT".
use Rattle.std.specs.Prelude.{ℕ, ◌≡◌, Bool, true, List, [], ◌∷◌, map, take, drop, slice_get, if◌then◌else◌, Option, None, Some, is_none}
use Rattle.std.specs.List.{flat_map, list_any, position}
use Rattle.std.specs.Option.{option_map, option_and_then, unwrap_or}
use Rattle.chv_types.specs.declared.value.Value.{Value}
use Rattle.chv_expr.specs.Terms.{Term, value_at}
use Rattle.chv_expr.specs.Values.{is_true}
use Rattle.chv_group.specs.Groups.{grouped}
use Rattle.chv_group.specs.declared.call.Keyed.{Keyed}
use Rattle.chv_query.specs.declared.groups.Groups.{Groups}

-- a row passes the condition, where there is one; None where that divides by zero
abbrev pub passes : Option Term → List Value → Option Bool
passes None row = Some true
passes (Some condition) row = option_map is_true (condition.value row)

-- the values of outputs over a row; None where one divides by zero
abbrev pub output_row : List Term → List Value → Option (List Value)
output_row [] row = Some []
output_row (output ∷ outputs) row = option_and_then (λ value. option_map (λ values. value ∷ values) (output_row outputs row)) (output.value row)

-- what is made of a row: nothing where it does not pass, else one row; None where that divides by zero
unfoldable pub outcome : Option Term → List Term → List Value → Option (List (List Value))
outcome filter outputs row =
    option_and_then (λ passed. if passed then option_map (λ values. values ∷ []) (output_row outputs row) else Some []) (passes filter row)

-- what is made of rows, in their order; a row that divides by zero is left out
abbrev pub results : (List Value → Option (List (List Value))) → List (List Value) → List (List Value)
results made rows = flat_map (λ row. unwrap_or (made row) []) rows

-- the first values are the key, the others the arguments
abbrev pub keyed : ℕ → List Value → Keyed
keyed keys values = record { key = take keys values; args = drop keys values }

-- the values at these places
abbrev pub arranged : List ℕ → List Value → List Value
arranged places row = map (λ place. value_at place row) places

-- places are those from the first on
abbrev pub AreInOrder : List ℕ → Type 0
AreInOrder places = (place at : ℕ) → slice_get places place ≡ Some at → at ≡ place

-- what becomes of rows: they are grouped, where they are
unfoldable pub shaped : Option Groups → List (List Value) → List (List Value)
shaped None rows = rows
shaped (Some groups) rows = map (arranged groups.cells) (grouped groups.calls (map (keyed groups.keys) rows) groups.always)

-- a row divides by zero
abbrev pub division_in : (List Value → Option (List (List Value))) → List (List Value) → Bool
division_in made rows = list_any (λ row. is_none (made row)) rows

-- the place of the first row that divides by zero
abbrev pub first_division_in : (List Value → Option (List (List Value))) → List (List Value) → Option ℕ
first_division_in made rows = position (λ row. is_none (made row)) rows
