-- Rows of values, one behind the other.
use Rattle.std.proofs.Common.{◌≡◌, ℕ, suc, ◌<◌, ◌≤◌, List, [], ◌∷◌, ◌++◌, length, drop, get_or, refl, sym, ap, subst, ◌∙◌, arith, append_assoc, append-nil, length-drop}
use Rattle.std.proofs.Math.Seq.{drop-cons}
use Rattle.chv_types.specs.declared.kind.Kind.{Kind}
use Rattle.chv_types.specs.declared.value.Value.{Value}
use Rattle.chv_block.specs.Spellings.{IsOf, value_spelling, kind_code, codes_of, AreOf, row_spelling, AllAreOf, rows_spelling}

-- a part that was put moves from what is left to what is there
pub moved : (out next part rest left whole : List ℕ) → next ≡ out ++ part → left ≡ part ++ rest → out ++ left ≡ whole → next ++ rest ≡ whole
moved out next part rest left whole put split before =
    ap (λ (l : List ℕ). l ++ rest) put ∙ append_assoc out part rest ∙ ap (λ (l : List ℕ). out ++ l) (sym split) ∙ before

-- where nothing is left, all is there
pub done : (out left whole : List ℕ) → left ≡ [] → out ++ left ≡ whole → out ≡ whole
done out left whole none before = sym (append-nil out) ∙ ap (λ (l : List ℕ). out ++ l) (sym none) ∙ before

-- a list without length has nothing
none_of : {A : Type 0} (l : List A) → length l ≡ 0 → l ≡ []
none_of [] none = refl
none_of (item ∷ l) none = absurd (omega (arith, none))

-- a list has nothing behind its end
nothing_behind : {A : Type 0} (l : List A) (i : ℕ) → length l ≤ i → drop i l ≡ []
nothing_behind l i end = none_of (drop i l) (omega (arith, end, length-drop i l))

-- the codes of kinds begin with that of the first
pub codes_step : (kinds : List Kind) (i next : ℕ) (none : Kind) → i < length kinds → next ≡ suc i
    → codes_of (drop i kinds) ≡ kind_code (get_or kinds i none) ++ codes_of (drop next kinds)
codes_step kinds i next none within is = rw is (ap codes_of (drop-cons kinds i none within))

pub codes_end : (kinds : List Kind) (i : ℕ) → length kinds ≤ i → codes_of (drop i kinds) ≡ []
codes_end kinds i end = ap codes_of (nothing_behind kinds i end)

-- a row has as many values as there are kinds
AreOf-length : (kinds : List Kind) (row : List Value) → AreOf kinds row → length kinds ≡ length row
AreOf-length [] [] of = refl
AreOf-length [] (value ∷ row) of = absurd of
AreOf-length (kind ∷ kinds) [] of = absurd of
AreOf-length (kind ∷ kinds) (value ∷ row) of = ap suc (AreOf-length kinds row of.1)

-- where a value is left, so is a kind
pub kind_left : (kinds : List Kind) (row : List Value) (i : ℕ) → AreOf (drop i kinds) (drop i row) → i < length row → i < length kinds
kind_left kinds row i of within =
    omega (arith, within, AreOf-length (drop i kinds) (drop i row) of, length-drop i kinds, length-drop i row)

-- the first of the values that are left is of the first of the kinds that are left
split_row : (kinds : List Kind) (row : List Value) (i : ℕ) (none : Kind) (value : Value) → AreOf (drop i kinds) (drop i row) → i < length row → value ≡ get_or row i value
    → (drop i kinds ≡ get_or kinds i none ∷ drop (suc i) kinds) × (drop i row ≡ value ∷ drop (suc i) row)
split_row kinds row i none value of within is =
    (drop-cons kinds i none (kind_left kinds row i of within), drop-cons row i value within ∙ ap (λ (v : Value). v ∷ drop (suc i) row) (sym is))

both_left : (kinds : List Kind) (row : List Value) (i : ℕ) (none : Kind) (value : Value) → AreOf (drop i kinds) (drop i row) → i < length row → value ≡ get_or row i value
    → IsOf (get_or kinds i none) value × AreOf (drop (suc i) kinds) (drop (suc i) row)
both_left kinds row i none value of within is =
    let split = split_row kinds row i none value of within is in
    let kinds_left : AreOf (get_or kinds i none ∷ drop (suc i) kinds) (drop i row) = subst (λ (l : List Kind). AreOf l (drop i row)) split.0 of in
    subst (λ (l : List Value). AreOf (get_or kinds i none ∷ drop (suc i) kinds) l) split.1 kinds_left

pub value_left : (kinds : List Kind) (row : List Value) (i : ℕ) (none : Kind) (value : Value) → AreOf (drop i kinds) (drop i row) → i < length row → value ≡ get_or row i value
    → IsOf (get_or kinds i none) value
value_left kinds row i none value of within is = (both_left kinds row i none value of within is).0

pub row_left : (kinds : List Kind) (row : List Value) (i next : ℕ) (none : Kind) (value : Value) → AreOf (drop i kinds) (drop i row) → i < length row → value ≡ get_or row i value
    → next ≡ suc i → AreOf (drop next kinds) (drop next row)
row_left kinds row i next none value of within is e = rw e ((both_left kinds row i none value of within is).1)

-- what is left of a row begins with its first value
pub row_step : (kinds : List Kind) (row : List Value) (i next : ℕ) (none : Kind) (value : Value) → AreOf (drop i kinds) (drop i row) → i < length row → value ≡ get_or row i value
    → next ≡ suc i → row_spelling (drop i kinds) (drop i row) ≡ value_spelling (get_or kinds i none) value ++ row_spelling (drop next kinds) (drop next row)
row_step kinds row i next none value of within is e =
    let split = split_row kinds row i none value of within is in
    rw e (ap (λ (l : List Kind). row_spelling l (drop i row)) split.0 ∙ ap (λ (l : List Value). row_spelling (get_or kinds i none ∷ drop (suc i) kinds) l) split.1)

empty_row : (kinds : List Kind) → row_spelling kinds [] ≡ []
empty_row [] = refl
empty_row (kind ∷ kinds) = refl

pub row_end : (kinds : List Kind) (row : List Value) (i : ℕ) → length row ≤ i → row_spelling (drop i kinds) (drop i row) ≡ []
row_end kinds row i end = ap (λ (l : List Value). row_spelling (drop i kinds) l) (nothing_behind row i end) ∙ empty_row (drop i kinds)

-- what is left of rows begins with the first
split_rows : (rows : List (List Value)) (i : ℕ) (row : List Value) → i < length rows → row ≡ get_or rows i row → drop i rows ≡ row ∷ drop (suc i) rows
split_rows rows i row within is = drop-cons rows i row within ∙ ap (λ (r : List Value). r ∷ drop (suc i) rows) (sym is)

both_rows : (kinds : List Kind) (rows : List (List Value)) (i : ℕ) (row : List Value) → AllAreOf kinds (drop i rows) → i < length rows → row ≡ get_or rows i row
    → AreOf kinds row × AllAreOf kinds (drop (suc i) rows)
both_rows kinds rows i row of within is = subst (λ (l : List (List Value)). AllAreOf kinds l) (split_rows rows i row within is) of

pub first_row : (kinds : List Kind) (rows : List (List Value)) (i : ℕ) (row : List Value) → AllAreOf kinds (drop i rows) → i < length rows → row ≡ get_or rows i row
    → AreOf kinds row
first_row kinds rows i row of within is = (both_rows kinds rows i row of within is).0

pub rows_left : (kinds : List Kind) (rows : List (List Value)) (i next : ℕ) (row : List Value) → AllAreOf kinds (drop i rows) → i < length rows → row ≡ get_or rows i row
    → next ≡ suc i → AllAreOf kinds (drop next rows)
rows_left kinds rows i next row of within is e = rw e ((both_rows kinds rows i row of within is).1)

pub rows_step : (kinds : List Kind) (rows : List (List Value)) (i next : ℕ) (row : List Value) → i < length rows → row ≡ get_or rows i row
    → next ≡ suc i → rows_spelling kinds (drop i rows) ≡ row_spelling kinds row ++ rows_spelling kinds (drop next rows)
rows_step kinds rows i next row within is e = rw e (ap (λ (l : List (List Value)). rows_spelling kinds l) (split_rows rows i row within is))

pub rows_end : (kinds : List Kind) (rows : List (List Value)) (i : ℕ) → length rows ≤ i → rows_spelling kinds (drop i rows) ≡ []
rows_end kinds rows i end = ap (λ (l : List (List Value)). rows_spelling kinds l) (nothing_behind rows i end)
