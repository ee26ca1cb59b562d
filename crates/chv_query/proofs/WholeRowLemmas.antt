-- Rows that are shown as they are.
use Rattle.std.proofs.Common.{◌≡◌, ◌+◌, ◌∙◌, ℕ, suc, List, [], ◌∷◌, length, drop, map, slice_get, None, Some, is_none, pos, refl, sym, ap, subst, arith, option_map}
use Rattle.std.proofs.Math.Seq.{drop-cons}
use Rattle.std.proofs.lemmas.List.{drop_all}
use Rattle.std.proofs.lemmas.List.Elements.{All-head, All-tail}
use Rattle.std.proofs.lemmas.Option.{unwrap_or-slice_get}
use Rattle.std.specs.List.{All}
use Rattle.std.specs.Option.{option_and_then}
use Rattle.chv_catalog.proofs.Positions.{position-cons}
use Rattle.chv_types.specs.declared.value.Value.{Value}
use Rattle.chv_types.specs.declared.value.Value.TheVariants.{Whole}
use Rattle.chv_expr.specs.Bindings.{meaning}
use Rattle.chv_expr.specs.Terms.{value_at}
use Rattle.chv_expr.specs.declared.bound.Bound.{Bound}
use Rattle.chv_query.specs.Bound.{IsColumn, first_division, run, term_in}
use Rattle.chv_query.specs.Results.{first_division_in, outcome, output_row, results, shaped}
use Rattle.chv_query.specs.declared.query.Query.{Query}

-- the columns from a place on give what the row has from there on
pub columns_rest : (bounds : List Bound) (place : ℕ) (row : List Value)
    → ((k : ℕ) (bound : Bound) → slice_get bounds k ≡ Some bound → IsColumn (place + k) bound)
    → place + length bounds ≡ length row → output_row (map term_in bounds) row ≡ Some (drop place row)
columns_rest [] place row are fits = ap (λ (values : List Value). Some values) (sym (drop_all place row (omega (arith, fits))))
columns_rest (bound ∷ bounds) place row are fits =
    let here : meaning bound row ≡ Some (value_at place row) =
    are 0 bound refl row ∙ ap (λ (p : ℕ). Some (value_at p row)) (omega arith) in
    let later : (k : ℕ) (other : Bound) → slice_get bounds k ≡ Some other → IsColumn (suc place + k) other =
    λ k other at. subst (λ (p : ℕ). IsColumn p other) (omega arith) (are (suc k) other at) in
    let rest : output_row (map term_in bounds) row ≡ Some (drop (suc place) row) = columns_rest bounds (suc place) row later (omega (arith, fits)) in
    let parts : drop place row ≡ value_at place row ∷ drop (suc place) row =
    drop-cons row place (Whole (pos 0)) (omega (arith, fits)) ∙ ap (λ (v : Value). v ∷ drop (suc place) row) (sym (unwrap_or-slice_get row place (Whole (pos 0)))) in
    ap (option_and_then (λ (value : Value). option_map (λ (values : List Value). value ∷ values) (output_row (map term_in bounds) row))) here
    ∙ ap (option_map (λ (values : List Value). value_at place row ∷ values)) rest
    ∙ ap (λ (values : List Value). Some values) (sym parts)

-- where bound expressions are the columns of a row that has as many values, they give the row
pub columns_row : (bounds : List Bound) (row : List Value)
    → ((k : ℕ) (bound : Bound) → slice_get bounds k ≡ Some bound → IsColumn k bound)
    → length row ≡ length bounds → output_row (map term_in bounds) row ≡ Some row
columns_row bounds row are fits =
    columns_rest bounds 0 row (λ k bound at. subst (λ (p : ℕ). IsColumn p bound) (omega arith) (are k bound at)) (omega (arith, fits))

module _ (bounds : List Bound) where
  made_whole : (row : List Value) → output_row (map term_in bounds) row ≡ Some row → outcome None (map term_in bounds) row ≡ Some (row ∷ [])
  unfolding outcome
  made_whole row same = ap (option_map (λ (values : List Value). values ∷ [])) same

  -- then a query without a condition gives the rows
  pub results-whole : (rows : List (List Value)) → All (λ row. output_row (map term_in bounds) row ≡ Some row) rows → results (outcome None (map term_in bounds)) rows ≡ rows
  results-whole [] all = refl
  results-whole (row ∷ rows) all =
      rw (
        made_whole row (All-head (λ r. output_row (map term_in bounds) r ≡ Some r) row rows all),
        results-whole rows (All-tail (λ r. output_row (map term_in bounds) r ≡ Some r) row rows all),
      ) refl

  -- and divides by zero on none
  pub division-whole : (rows : List (List Value)) → All (λ row. output_row (map term_in bounds) row ≡ Some row) rows → first_division_in (outcome None (map term_in bounds)) rows ≡ None
  division-whole [] all = refl
  division-whole (row ∷ rows) all =
      position-cons (λ (r : List Value). is_none (outcome None (map term_in bounds) r)) row rows
      ∙ rw (
        made_whole row (All-head (λ r. output_row (map term_in bounds) r ≡ Some r) row rows all),
        division-whole rows (All-tail (λ r. output_row (map term_in bounds) r ≡ Some r) row rows all),
      ) refl

-- the same of a query that does not group
pub run-whole : (query : Query) (rows : List (List Value)) → query.grouping ≡ None → query.filter ≡ None
    → All (λ row. output_row (map term_in query.terms) row ≡ Some row) rows → (rows ≡ run query rows) × (first_division query rows ≡ None)
unfolding shaped
run-whole query rows single none all =
    rw (single, none) (sym (results-whole query.terms rows all), division-whole query.terms rows all)
