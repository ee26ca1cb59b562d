-- The columns that an INSERT fills, by their places in the table.
use Rattle.std.specs.Prelude.{ℕ, ◌≡◌, ◌<◌, false, nat_eq, set, List, [], ◌∷◌, map, Option, Result, Ok, slice_get}
use Rattle.std.specs.List.{list_any}
use Rattle.chv_ast.specs.declared.expr.Literal.{Literal}
use Rattle.chv_ast.specs.declared.refusal.Refusal.{Refusal}
use Rattle.chv_ast.specs.declared.refusal.Refusal.TheVariants.{UnknownColumn, NameTaken, TypeMismatch}
use Rattle.chv_catalog.specs.Checks.{has_repeat, is_unknown, is_state, places_of}
use Rattle.chv_types.specs.Steps.{refuse_if, and_then, or_refuse}
use Rattle.chv_types.specs.declared.kind.Kind.{Kind}
use Rattle.chv_types.specs.declared.table.Column.{Column}
use Rattle.chv_types.specs.declared.value.Value.{Value}
use Rattle.chv_query.specs.Plans.{filled_names, kinds_at, value_for}

-- places of so many columns, each of them once
abbrev pub ArePlaces : ℕ → List ℕ → Type 0
ArePlaces columns [] = Unit {0}
ArePlaces columns (place ∷ places) =
    (place < columns) × (list_any (λ other. nat_eq other place) places ≡ false) × ArePlaces columns places

abbrev pub kinds_in : List Column → List Kind
kinds_in columns = map (λ column. column.kind) columns

abbrev pub names_in : List Column → List (List ℕ)
names_in columns = map (λ column. column.name) columns

-- the places of columns with these names, each of which is a column's, once, and none a state's
abbrev pub checked_places : List Column → List (List ℕ) → Result (List ℕ) Refusal
checked_places columns names =
    let places = places_of (names_in columns) names in
    refuse_if (list_any (is_unknown (names_in columns)) names) UnknownColumn
    (refuse_if (has_repeat names) NameTaken
    (refuse_if (list_any is_state (kinds_at (kinds_in columns) places)) TypeMismatch
    (Ok places)))

-- the places of the columns that are filled
abbrev pub filled_places : List Column → Option (List (List ℕ)) → Result (List ℕ) Refusal
filled_places columns listed = checked_places columns (filled_names (names_in columns) listed)

-- a row with the values of literals at places, which are written one after the other
abbrev pub written : List Kind → List ℕ → List Literal → List Value → Result (List Value) Refusal
written kinds [] literals row = Ok row
written kinds (place ∷ places) [] row = Ok row
written kinds (place ∷ places) (literal ∷ literals) row =
    and_then (or_refuse TypeMismatch (slice_get kinds place)) (λ kind.
    and_then (value_for kind literal) (λ value.
    written kinds places literals (set row place value)))
