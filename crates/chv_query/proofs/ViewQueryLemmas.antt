-- What a bound view makes of rows.
use Rattle.std.proofs.Common.{◌≡◌, ◌∙◌, ◌≤◌, ◌<◌, ◌+◌, ℕ, zero, suc, Bool, true, false, List, [], ◌∷◌, ◌++◌, length, get_or, map, take, Option, None, Some, is_none, is_some, slice_get, refl, sym, ap, ap₂, subst, arith, append_assoc, length-append, eqb-true, nat_eq, not}
use Rattle.std.specs.List.{All, list_any}
use Rattle.std.specs.Option.{option_and_then, option_eq, unwrap_or}
use Rattle.std.proofs.lemmas.List.Elements.{All-head, All-tail}
use Rattle.chv_catalog.proofs.Positions.{is_some-position}
use Rattle.chv_types.specs.Values.{default_of}
use Rattle.chv_types.specs.declared.table.Column.{Column}
use Rattle.chv_types.specs.declared.value.Value.{Value}
use Rattle.chv_query.specs.Bound.{IsQuery, first_division, made_by, run}
use Rattle.chv_query.specs.Derived.{put_to, viewed}
use Rattle.chv_query.specs.Queries.{Asked, divides, made_of, result_of}
use Rattle.chv_query.specs.Results.{results, shaped}
use Rattle.chv_query.specs.ViewQueries.{AreInOrder, IsViewQuery, filled_by, filling_of, filling_value, fillings}
use Rattle.chv_query.specs.Views.{names_in}
use Rattle.chv_query.specs.declared.query.Query.{Query}
use Rattle.chv_query.specs.declared.view.Filling.{Filling}
use Rattle.chv_query.specs.declared.view.ViewQuery.{ViewQuery}

-- one more stands in its place
pub in_order_more : (from : ℕ) (filled : List Filling) (i next : ℕ) (other : Filling) → AreInOrder from (take i filled) → i < length filled → (get_or filled i other).place ≡ Some (from + i) → next ≡ suc i
    → AreInOrder from (take next filled)
in_order_more from [] i next other are within at step = absurd (omega arith)
in_order_more from (first ∷ filled) zero next other are within at step = rw step (at ∙ ap Some (omega arith), tt)
in_order_more from (first ∷ filled) (suc i) next other are within at step =
    rw step (are.0, in_order_more (from + 1) filled i (suc i) other are.1 (omega arith) (at ∙ ap Some (omega arith)) refl)

-- a place that does not differ is the same
pub same_place : (place : Option ℕ) (i : ℕ) → false ≡ not (option_eq nat_eq place (Some i)) → place ≡ Some i
same_place None i same = absurd cc
same_place (Some place) i same = ap Some (eqb-true place i (negated (nat_eq place i) (sym same)))
  where
    negated : (b : Bool) → not b ≡ false → b ≡ true
    negated true h = refl
    negated false h = cc

-- the value behind others stands at the place of their number
value-behind : (before row : List Value) (value : Value) → slice_get (before ++ value ∷ row) (length before) ≡ Some value
value-behind [] row value = refl
value-behind (first ∷ before) row value = value-behind before row value

-- the values of a row from a place on
filled-rest : (before row : List Value) (filled : List Filling) → AreInOrder (length before) filled → length filled ≡ length row → filled_by filled (before ++ row) ≡ row
filled-rest before [] [] are wide = refl
filled-rest before [] (filling ∷ filled) are wide = cc
filled-rest before (value ∷ row) [] are wide = cc
filled-rest before (value ∷ row) (filling ∷ filled) are wide =
    let here : filling_value (before ++ value ∷ row) filling ≡ value =
    ap (λ (place : Option ℕ). unwrap_or (option_and_then (slice_get (before ++ value ∷ row)) place) (default_of filling.kind)) are.0
    ∙ ap (λ (found : Option Value). unwrap_or found (default_of filling.kind)) (value-behind before row value) in
    let next : length (before ++ value ∷ []) ≡ length before + 1 = length-append before (value ∷ []) in
    let rest : filled_by filled ((before ++ value ∷ []) ++ row) ≡ row =
    filled-rest (before ++ value ∷ []) row filled (subst (λ (n : ℕ). AreInOrder n filled) (sym next) are.1) (omega (arith, wide)) in
    ap₂ (λ (v : Value) (vs : List Value). v ∷ vs) here (ap (filled_by filled) (sym (append_assoc before (value ∷ []) row)) ∙ rest)

-- where values fill the columns in order, the row is as it is
filled-whole : (filled : List Filling) (row : List Value) → AreInOrder 0 filled → length row ≡ length filled → filled_by filled row ≡ row
filled-whole filled row are wide = filled-rest [] row filled are (sym wide)

pub rows-whole : (filled : List Filling) (rows : List (List Value)) → AreInOrder 0 filled → All (λ row. length row ≡ length filled) rows → rows ≡ map (filled_by filled) rows
rows-whole filled [] are wide = refl
rows-whole filled (row ∷ rows) are wide =
    let Wide = λ (r : List Value). length r ≡ length filled in
    ap₂ (λ (r : List Value) (rs : List (List Value)). r ∷ rs) (sym (filled-whole filled row are (All-head Wide row rows wide))) (rows-whole filled rows are (All-tail Wide row rows wide))

-- what fills columns is put to them
filled-put : (shown columns : List Column) (values : List Value) → filled_by (fillings shown columns) values ≡ put_to columns (names_in shown) values
filled-put shown [] values = refl
filled-put shown (column ∷ columns) values = ap (λ (row : List Value). filling_value values (filling_of shown column) ∷ row) (filled-put shown columns values)

map-filled : (shown columns : List Column) (rows : List (List Value)) → map (filled_by (fillings shown columns)) rows ≡ map (put_to columns (names_in shown)) rows
map-filled shown columns [] = refl
map-filled shown columns (row ∷ rows) = ap₂ (λ (r : List Value) (rs : List (List Value)). r ∷ rs) (filled-put shown columns row) (map-filled shown columns rows)

module _ (query : Query) (asked : Asked) (is : IsQuery query asked) where
  results-same : (rows : List (List Value)) → results (made_by query) rows ≡ results (made_of asked) rows
  results-same [] = refl
  results-same (row ∷ rows) = rw (is.same row, results-same rows) refl

  run-result : (rows : List (List Value)) → run query rows ≡ result_of asked rows
  run-result rows = ap₂ shaped is.grouping (results-same rows)

  -- it divides by zero on a row where what is asked does
  division-same : (rows : List (List Value)) → list_any (λ row. is_none (made_by query row)) rows ≡ divides asked rows
  division-same [] = refl
  division-same (row ∷ rows) = rw (is.same row, division-same rows) refl

  divides-by : (rows : List (List Value)) → is_some (first_division query rows) ≡ divides asked rows
  divides-by rows = is_some-position (λ (row : List Value). is_none (made_by query row)) rows ∙ division-same rows

module _ (columns : List Column) (view : ViewQuery) (asked : Asked) (is : IsViewQuery columns view asked) where
  -- what is made of rows, and put to the columns
  pub viewed-some : (rows made : List (List Value)) → 1 ≤ length rows → made ≡ map (filled_by view.fillings) (run view.query rows) → made ≡ viewed asked columns rows
  viewed-some [] made some is_made = absurd (omega arith)
  viewed-some (row ∷ rows) made some is_made =
      is_made ∙ ap₂ (λ (f : List Filling) (rs : List (List Value)). map (filled_by f) rs) is.fills (run-result view.query asked is.asks (row ∷ rows))
      ∙ map-filled asked.columns columns (result_of asked (row ∷ rows))

  pub sound : (rows : List (List Value)) → first_division view.query rows ≡ None → divides asked rows ≡ false
  sound rows none = sym (divides-by view.query asked is.asks rows) ∙ ap is_some none

  pub unsound : (rows : List (List Value)) (row : ℕ) → first_division view.query rows ≡ Some row → divides asked rows ≡ true
  unsound rows row some = sym (divides-by view.query asked is.asks rows) ∙ ap is_some some
