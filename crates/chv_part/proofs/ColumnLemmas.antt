-- Columns, one behind the other, and that bytes begin with one list of them at most.
use Rattle.std.proofs.Common.{◌≡◌, ℕ, zero, suc, ◌+◌, ◌<◌, List, [], ◌∷◌, ◌++◌, length, drop, map, get_or, Option, Some, None, refl, sym, ap, ap₂, subst, ◌∙◌, arith, add-one, add-zero, zero-add, append_assoc}
use Rattle.std.specs.List.{slice_get}
use Rattle.std.proofs.lemmas.List.{drop_more, length-map}
use Rattle.chv_types.specs.declared.kind.Kind.{Kind}
use Rattle.chv_types.specs.declared.value.Value.{Value}
use Rattle.chv_block.specs.Spellings.{AreOf, AllAreOf}
use Rattle.chv_block.proofs.ValueLemmas.{one_value}
use Rattle.chv_part.specs.Columns.{IsSomeOf, ColumnIsOf}
use Rattle.chv_part.specs.Parts.{spelled, column_spelling, columns_spelling}

-- what rows have from a place on
abbrev pub tails : ℕ → List (List Value) → List (List Value)
tails place rows = map (drop place) rows

-- the values at a place, in row order
abbrev pub column_of : ℕ → List (List Value) → List (Option Value)
column_of place rows = map (λ row. slice_get row place) rows

tails-zero : (rows : List (List Value)) → tails 0 rows ≡ rows
tails-zero [] = refl
tails-zero (row ∷ rows) = ap (λ (l : List (List Value)). row ∷ l) (tails-zero rows)

-- two texts with something behind them, split once more
pub regroup : (a b c d x y : List ℕ) → (a ++ b) ++ x ≡ (c ++ d) ++ y → a ++ (b ++ x) ≡ c ++ (d ++ y)
regroup a b c d x y same = sym (append_assoc a b x) ∙ same ∙ append_assoc c d y

-- what a row has from a place on begins with the value at the place
value_at : (kind : Kind) (kinds : List Kind) (row : List Value) (place : ℕ) → AreOf (kind ∷ kinds) (drop place row)
    → IsSomeOf kind (slice_get row place) × AreOf kinds (drop (suc place) row)
value_at kind kinds [] zero of = absurd of
value_at kind kinds [] (suc place) of = absurd of
value_at kind kinds (value ∷ row) zero of = of
value_at kind kinds (value ∷ row) (suc place) of = value_at kind kinds row place of

pub column_fits : (kind : Kind) (kinds : List Kind) (place : ℕ) (rows : List (List Value)) → AllAreOf (kind ∷ kinds) (tails place rows) → ColumnIsOf kind place rows
column_fits kind kinds place [] of = tt
column_fits kind kinds place (row ∷ rows) of = ((value_at kind kinds row place of.0).0, column_fits kind kinds place rows of.1)

behind_fit : (kind : Kind) (kinds : List Kind) (place : ℕ) (rows : List (List Value)) → AllAreOf (kind ∷ kinds) (tails place rows) → AllAreOf kinds (tails (suc place) rows)
behind_fit kind kinds place [] of = tt
behind_fit kind kinds place (row ∷ rows) of = ((value_at kind kinds row place of.0).1, behind_fit kind kinds place rows of.1)

pub others_fit : (kind : Kind) (kinds : List Kind) (place : ℕ) (rows : List (List Value)) → AllAreOf (kind ∷ kinds) (tails place rows) → AllAreOf kinds (tails (place + 1) rows)
others_fit kind kinds place rows of = subst (λ (p : ℕ). AllAreOf kinds (tails p rows)) (sym (add-one place)) (behind_fit kind kinds place rows of)

-- bytes begin with one value at most
pub one_at : (kind : Kind) (v w : Option Value) (x y : List ℕ) → IsSomeOf kind v → IsSomeOf kind w → spelled kind v ++ x ≡ spelled kind w ++ y → (v ≡ w) × (x ≡ y)
one_at kind None w x y h k same = absurd h
one_at kind (Some v) None x y h k same = absurd k
one_at kind (Some v) (Some w) x y h k same = let e = one_value kind v w x y h k same in (ap Some e.0, e.1)

-- bytes begin with one column of a length at most
pub one_column : (kind : Kind) (p q : ℕ) (a b : List (List Value)) (x y : List ℕ) → length a ≡ length b → ColumnIsOf kind p a → ColumnIsOf kind q b
    → column_spelling kind p a ++ x ≡ column_spelling kind q b ++ y → (column_of p a ≡ column_of q b) × (x ≡ y)
one_column kind p q [] [] x y long h k same = (refl, same)
one_column kind p q [] (s ∷ b) x y long h k same = absurd (omega (arith, long))
one_column kind p q (r ∷ a) [] x y long h k same = absurd (omega (arith, long))
one_column kind p q (r ∷ a) (s ∷ b) x y long h k same =
    let first = one_at kind (slice_get r p) (slice_get s q) (column_spelling kind p a ++ x) (column_spelling kind q b ++ y) h.0 k.0
    (regroup (spelled kind (slice_get r p)) (column_spelling kind p a) (spelled kind (slice_get s q)) (column_spelling kind q b) x y same) in
    let rest = one_column kind p q a b x y (omega (arith, long)) h.1 k.1 first.1 in
    (ap₂ (λ (v : Option Value) (vs : List (Option Value)). v ∷ vs) first.0 rest.0, rest.1)

-- rows without values are known by their number
no_values : (a b : List (List Value)) → length a ≡ length b → AllAreOf [] a → AllAreOf [] b → a ≡ b
no_values [] [] long h k = refl
no_values [] (s ∷ b) long h k = absurd (omega (arith, long))
no_values (r ∷ a) [] long h k = absurd (omega (arith, long))
no_values ([] ∷ a) ([] ∷ b) long h k = ap (λ (l : List (List Value)). [] ∷ l) (no_values a b (omega (arith, long)) h.1 k.1)
no_values ((v ∷ r) ∷ a) (s ∷ b) long h k = absurd h.0
no_values ([] ∷ a) ((w ∷ s) ∷ b) long h k = absurd k.0

-- what a row has from a place on is known by the value there and by what is behind it
same_row : (kind : Kind) (kinds : List Kind) (r s : List Value) (place : ℕ) → AreOf (kind ∷ kinds) (drop place r) → AreOf (kind ∷ kinds) (drop place s)
    → slice_get r place ≡ slice_get s place → drop (suc place) r ≡ drop (suc place) s → drop place r ≡ drop place s
same_row kind kinds [] s zero h k first rest = absurd h
same_row kind kinds [] s (suc place) h k first rest = absurd h
same_row kind kinds (v ∷ r) [] zero h k first rest = absurd k
same_row kind kinds (v ∷ r) [] (suc place) h k first rest = absurd k
same_row kind kinds (v ∷ r) (w ∷ s) zero h k first rest = let one : v ≡ w = cc in ap₂ (λ (x : Value) (xs : List Value). x ∷ xs) one rest
same_row kind kinds (v ∷ r) (w ∷ s) (suc place) h k first rest = same_row kind kinds r s place h k first rest

same_rows : (kind : Kind) (kinds : List Kind) (place : ℕ) (a b : List (List Value)) → AllAreOf (kind ∷ kinds) (tails place a) → AllAreOf (kind ∷ kinds) (tails place b)
    → column_of place a ≡ column_of place b → tails (suc place) a ≡ tails (suc place) b → tails place a ≡ tails place b
same_rows kind kinds place [] [] h k first rest = refl
same_rows kind kinds place [] (s ∷ b) h k first rest = cc
same_rows kind kinds place (r ∷ a) [] h k first rest = cc
same_rows kind kinds place (r ∷ a) (s ∷ b) h k first rest =
    let value : slice_get r place ≡ slice_get s place = cc in
    let values : drop (suc place) r ≡ drop (suc place) s = cc in
    ap₂ (λ (x : List Value) (xs : List (List Value)). x ∷ xs) (same_row kind kinds r s place h.0 k.0 value values) (same_rows kind kinds place a b h.1 k.1 (ap (drop 1) first) (ap (drop 1) rest))

-- bytes begin with one list of columns at most, of a number of rows
one_columns : (kinds : List Kind) (place : ℕ) (a b : List (List Value)) (x y : List ℕ) → length a ≡ length b → AllAreOf kinds (tails place a) → AllAreOf kinds (tails place b)
    → columns_spelling place kinds a ++ x ≡ columns_spelling place kinds b ++ y → (tails place a ≡ tails place b) × (x ≡ y)
one_columns [] place a b x y long h k same =
    (no_values (tails place a) (tails place b) (length-map a (drop place) ∙ long ∙ sym (length-map b (drop place))) h k, same)
one_columns (kind ∷ kinds) place a b x y long h k same =
    let first = one_column kind place place a b (columns_spelling (place + 1) kinds a ++ x) (columns_spelling (place + 1) kinds b ++ y) long
    (column_fits kind kinds place a h) (column_fits kind kinds place b k)
    (regroup (column_spelling kind place a) (columns_spelling (place + 1) kinds a) (column_spelling kind place b) (columns_spelling (place + 1) kinds b) x y same) in
    let rest = one_columns kinds (place + 1) a b x y long (others_fit kind kinds place a h) (others_fit kind kinds place b k) first.1 in
    let behind : tails (suc place) a ≡ tails (suc place) b = subst (λ (p : ℕ). tails p a ≡ tails p b) (add-one place) rest.0 in
    (same_rows kind kinds place a b h k first.0 behind, rest.1)

-- rows of kinds are what they have from the first place on
pub from_first : (kinds : List Kind) (rows : List (List Value)) → AllAreOf kinds rows → AllAreOf kinds (tails 0 rows)
from_first kinds rows of = subst (λ (l : List (List Value)). AllAreOf kinds l) (sym (tails-zero rows)) of

-- bytes begin with the columns of one list of rows at most, of a number of rows
pub one_table : (kinds : List Kind) (a b : List (List Value)) (x y : List ℕ) → length a ≡ length b → AllAreOf kinds a → AllAreOf kinds b
    → columns_spelling 0 kinds a ++ x ≡ columns_spelling 0 kinds b ++ y → (a ≡ b) × (x ≡ y)
one_table kinds a b x y long h k same =
    let e = one_columns kinds 0 a b x y long (from_first kinds a h) (from_first kinds b k) same in
    (sym (tails-zero a) ∙ e.0 ∙ tails-zero b, e.1)

-- rows from a place on have values of the kinds that are left
rows_from : (kinds : List Kind) (n place : ℕ) (rows : List (List Value)) → n < length kinds → AllAreOf kinds (tails place rows) → AllAreOf (drop n kinds) (tails (place + n) rows)
rows_from [] n place rows within of = absurd (omega (arith, within))
rows_from (kind ∷ kinds) zero place rows within of = subst (λ (p : ℕ). AllAreOf (kind ∷ kinds) (tails p rows)) (sym (add-zero place)) of
rows_from (kind ∷ kinds) (suc n) place rows within of =
    let next : place + 1 + n ≡ place + suc n = omega arith in
    subst (λ (p : ℕ). AllAreOf (drop n kinds) (tails p rows)) next (rows_from kinds n (place + 1) rows (omega (arith, within)) (others_fit kind kinds place rows of))

-- the column at a place has values of its kind
pub column_at : (kinds : List Kind) (n : ℕ) (none : Kind) (rows : List (List Value)) → AllAreOf kinds rows → n < length kinds → ColumnIsOf (get_or kinds n none) n rows
column_at kinds n none rows of within =
    let from : AllAreOf (drop n kinds) (tails (0 + n) rows) = rows_from kinds n 0 rows within (from_first kinds rows of) in
    let first : AllAreOf (get_or kinds n none ∷ drop (n + 1) kinds) (tails n rows) =
    subst (λ (l : List Kind). AllAreOf l (tails n rows)) (drop_more kinds n none within) (subst (λ (p : ℕ). AllAreOf (drop n kinds) (tails p rows)) (zero-add n) from) in
    column_fits (get_or kinds n none) (drop (n + 1) kinds) n rows first

-- the columns from a place on begin with the one there
pub columns_step : (kinds : List Kind) (n : ℕ) (none : Kind) (rows : List (List Value)) → n < length kinds
    → columns_spelling n (drop n kinds) rows ≡ column_spelling (get_or kinds n none) n rows ++ columns_spelling (n + 1) (drop (n + 1) kinds) rows
columns_step kinds n none rows within = ap (λ (l : List Kind). columns_spelling n l rows) (drop_more kinds n none within)
