-- What a bound query gives over rows is what is asked.
use Rattle.std.proofs.Common.{◌≡◌, ◌∙◌, List, [], ◌∷◌, Option, is_none, is_some, refl, sym, ap, map, ℕ}
use Rattle.std.proofs.lemmas.List.Elements.{All-weaker}
use Rattle.std.specs.List.{All}
use Rattle.chv_catalog.specs.Schemas.{kinds_of}
use Rattle.chv_types.specs.Fits.{FitAll}
use Rattle.chv_catalog.proofs.Positions.{is_some-position}
use Rattle.chv_types.specs.declared.table.Column.{Column}
use Rattle.chv_types.specs.declared.value.Value.{Value}
use Rattle.chv_query.specs.Bound.{IsQuery, TakesRow, first_division, made_by, run}
use Rattle.chv_query.specs.Queries.{Asked, divides, made_of, result_of}
use Rattle.chv_query.specs.Results.{division_in, results}
use Rattle.chv_query.specs.Shown.{kinds_shown, shown, shown_of}
use Rattle.chv_query.specs.declared.query.Query.{Query}

module _ (made other : List Value → Option (List (List Value))) (same : (row : List Value) → made row ≡ other row) where
  results-same : (rows : List (List Value)) → results made rows ≡ results other rows
  results-same [] = refl
  results-same (row ∷ rows) = rw (same row, results-same rows) refl

  division_in-same : (rows : List (List Value)) → division_in made rows ≡ division_in other rows
  division_in-same [] = refl
  division_in-same (row ∷ rows) = rw (same row, division_in-same rows) refl

module _ (query : Query) (asked : Asked) (is : IsQuery query asked) (rows : List (List Value)) where
  -- its rows are those that are asked
  pub run-result_of : run query rows ≡ result_of asked rows
  run-result_of = rw (is.grouping, results-same (made_by query) (made_of asked) is.same rows) refl

  -- it divides by zero where there is a first row on which it does
  pub divides-first_division : (place : Option ℕ) → first_division query rows ≡ place → divides asked rows ≡ is_some place
  divides-first_division place first =
      sym (division_in-same (made_by query) (made_of asked) is.same rows)
      ∙ sym (is_some-position (λ (row : List Value). is_none (made_by query row)) rows) ∙ ap is_some first

  -- what is shown of its rows is what is shown of what is asked
  pub shown-shown_of : shown query.order query.limit (run query rows) ≡ shown_of asked rows
  shown-shown_of = rw (is.order, is.limit, run-result_of) refl

-- the kinds of its columns are those that are shown
pub kinds-kinds_shown : (query : Query) (asked : Asked) → IsQuery query asked → map (λ (column : Column). column.kind) query.columns ≡ kinds_shown asked
kinds-kinds_shown query asked is = ap (map (λ (column : Column). column.kind)) is.columns

-- of rows of the table's kinds its calls take what is made
pub takes-all : (query : Query) (asked : Asked) → IsQuery query asked → (rows : List (List Value)) → All (FitAll (kinds_of asked.def)) rows → All (TakesRow query) rows
takes-all query asked is rows fit = All-weaker (FitAll (kinds_of asked.def)) (TakesRow query) (λ row fits. is.takes row fits) rows fit
