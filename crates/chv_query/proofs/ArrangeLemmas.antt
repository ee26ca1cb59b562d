-- Rows that are arranged as they are.
use Rattle.std.proofs.Common.{◌≡◌, ◌+◌, ◌∙◌, ℕ, suc, List, [], ◌∷◌, length, drop, map, slice_get, Some, pos, refl, sym, ap, ap₂, arith}
use Rattle.std.proofs.Math.Seq.{drop-cons}
use Rattle.std.proofs.lemmas.List.{drop_all}
use Rattle.std.proofs.lemmas.List.Elements.{All-head, All-tail}
use Rattle.std.proofs.lemmas.Option.{unwrap_or-slice_get}
use Rattle.std.specs.List.{All}
use Rattle.chv_types.specs.declared.value.Value.{Value}
use Rattle.chv_types.specs.declared.value.Value.TheVariants.{Whole}
use Rattle.chv_expr.specs.Terms.{value_at}
use Rattle.chv_query.specs.Results.{AreInOrder, arranged}

-- the values at the places from one on are what the row has from there on
arranged_rest : (places : List ℕ) (place : ℕ) (row : List Value) → ((k at : ℕ) → slice_get places k ≡ Some at → at ≡ place + k)
    → place + length places ≡ length row → arranged places row ≡ drop place row
arranged_rest [] place row are fits = sym (drop_all place row (omega (arith, fits)))
arranged_rest (first ∷ places) place row are fits =
    let here : value_at first row ≡ value_at place row = ap (λ (p : ℕ). value_at p row) (are 0 first refl ∙ omega arith) in
    let later : (k at : ℕ) → slice_get places k ≡ Some at → at ≡ suc place + k = λ k at is. are (suc k) at is ∙ omega arith in
    let parts : drop place row ≡ value_at place row ∷ drop (suc place) row =
    drop-cons row place (Whole (pos 0)) (omega (arith, fits)) ∙ ap (λ (v : Value). v ∷ drop (suc place) row) (sym (unwrap_or-slice_get row place (Whole (pos 0)))) in
    ap₂ (λ (v : Value) (values : List Value). v ∷ values) here (arranged_rest places (suc place) row later (omega (arith, fits))) ∙ sym parts

-- where places are those from the first on, rows of as many values stay
pub arranged-rows : (places : List ℕ) (rows : List (List Value)) → AreInOrder places → All (λ row. length row ≡ length places) rows → map (arranged places) rows ≡ rows
arranged-rows places [] are wide = refl
arranged-rows places (row ∷ rows) are wide =
    ap₂ (λ (r : List Value) (rs : List (List Value)). r ∷ rs)
    (arranged_rest places 0 row (λ k at is. are k at is ∙ omega arith) (omega (arith, All-head (λ r. length r ≡ length places) row rows wide)))
    (arranged-rows places rows are (All-tail (λ r. length r ≡ length places) row rows wide))
