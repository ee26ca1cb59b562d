-- Rows that are written value by value are those that are arranged.
use Rattle.std.proofs.Common.{◌≡◌, ◌<◌, ◌≤◌, ◌+◌, ◌++◌, ℕ, zero, suc, true, false, if◌then◌else◌, List, [], ◌∷◌, map, length, get_or, drop, set, Result, Ok, Err, nat_eq, refl, sym, ap, ◌∙◌, arith, rules, append_assoc, length-drop}
use Rattle.std.specs.List.{list_any}
use Rattle.std.proofs.Math.Seq.{drop-cons}
use Rattle.std.proofs.lemmas.Bool.{or_parts, ne_eqb}
use Rattle.std.proofs.lemmas.Option.{slice_get-get_or}
use Rattle.chv_ast.specs.declared.expr.Literal.{Literal}
use Rattle.chv_ast.specs.declared.refusal.Refusal.{Refusal}
use Rattle.chv_block.specs.Spellings.{IsOf, AreOf, AllAreOf}
use Rattle.chv_types.specs.Steps.{and_then}
use Rattle.chv_types.specs.Values.{default_of}
use Rattle.chv_types.specs.declared.kind.Kind.{Kind}
use Rattle.chv_types.specs.declared.kind.Kind.TheVariants as kind
use Rattle.chv_types.specs.declared.kind.Scalar.TheVariants as scalar
use Rattle.chv_types.specs.declared.value.Value.{Value}
use Rattle.chv_plan.specs.Places.{ArePlaces, written}
use Rattle.chv_query.specs.Plans.{kinds_at, value_for, values_for, value_at, arranged, row_for, rows_for}

-- the value at a place of a row, where values are written over it
abbrev pub found_at : ℕ → Value → List ℕ → List Value → Value
found_at place old [] values = old
found_at place old (filled ∷ places) [] = old
found_at place old (filled ∷ places) (value ∷ values) = if nat_eq filled place then value else found_at place old places values

-- the values from a place of a row on, where values are written over them
abbrev pub laid : ℕ → List Value → List ℕ → List Value → List Value
laid place [] places values = []
laid place (old ∷ row) places values = found_at place old places values ∷ laid (place + 1) row places values

-- a row over which values are written, one after the other
abbrev pub overlaid : List Value → List ℕ → List Value → List Value
overlaid row [] values = row
overlaid row (place ∷ places) [] = row
overlaid row (place ∷ places) (value ∷ values) = overlaid (set row place value) places values

found_default : (place : ℕ) (of : Kind) (places : List ℕ) (values : List Value) → value_at place of places values ≡ found_at place (default_of of) places values
found_default place of [] values = refl
found_default place of (filled ∷ places) [] = refl
found_default place of (filled ∷ places) (value ∷ values) = ap (λ (v : Value). if nat_eq filled place then value else v) (found_default place of places values)

laid_defaults : (place : ℕ) (kinds : List Kind) (places : List ℕ) (values : List Value) → arranged place kinds places values ≡ laid place (map default_of kinds) places values
laid_defaults place [] places values = refl
laid_defaults place (of ∷ kinds) places values = rw (found_default place of places values, laid_defaults (place + 1) kinds places values) refl

found_none : (place : ℕ) (old : Value) (places : List ℕ) → found_at place old places [] ≡ old
found_none place old [] = refl
found_none place old (filled ∷ places) = refl

laid_no_places : (place : ℕ) (row values : List Value) → laid place row [] values ≡ row
laid_no_places place [] values = refl
laid_no_places place (old ∷ row) values = rw (laid_no_places (place + 1) row values) refl

laid_no_values : (place : ℕ) (row : List Value) (places : List ℕ) → laid place row places [] ≡ row
laid_no_values place [] places = refl
laid_no_values place (old ∷ row) places = rw (found_none place old places, laid_no_values (place + 1) row places) refl

-- where nothing is written, the old value stands
found_old : (place : ℕ) (old : Value) (places : List ℕ) (values : List Value) → list_any (λ other. nat_eq other place) places ≡ false → found_at place old places values ≡ old
found_old place old [] values none = refl
found_old place old (filled ∷ places) [] none = refl
found_old place old (filled ∷ places) (value ∷ values) none =
    let parts : (nat_eq filled place ≡ false) × (list_any (λ (other : ℕ). nat_eq other place) places ≡ false) = or_parts _ _ none in
    rw parts.0 (found_old place old places values parts.1)

-- what is written before a place makes no difference from there on
laid_before : (place : ℕ) (row : List Value) (filled : ℕ) (value : Value) (places : List ℕ) (values : List Value) → filled < place
    → laid place row (filled ∷ places) (value ∷ values) ≡ laid place row places values
laid_before place [] filled value places values before = refl
laid_before place (old ∷ row) filled value places values before =
    rw (ne_eqb filled place (λ same. absurd (omega arith)), laid_before (place + 1) row filled value places values (omega arith)) refl

-- the first value that is written may as well stand there before
laid_set : (start : ℕ) (row : List Value) (i filled : ℕ) (value : Value) (places : List ℕ) (values : List Value) → filled ≡ start + i
    → list_any (λ other. nat_eq other filled) places ≡ false → laid start (set row i value) places values ≡ laid start row (filled ∷ places) (value ∷ values)
laid_set start [] i filled value places values is once = refl
laid_set start (old ∷ row) zero filled value places values is once =
    let here : filled ≡ start = omega arith in
    let same : nat_eq filled start ≡ true = search rules in
    rw (same, found_old start value places values (rw here at once), laid_before (start + 1) row filled value places values (omega arith)) refl
laid_set start (old ∷ row) (suc i) filled value places values is once =
    rw (ne_eqb filled start (λ same. absurd (omega arith)), laid_set (start + 1) row i filled value places values (omega arith) once) refl

overlaid_laid : (columns : ℕ) (row : List Value) (places : List ℕ) (values : List Value) → ArePlaces columns places → overlaid row places values ≡ laid 0 row places values
overlaid_laid columns row [] values are = sym (laid_no_places 0 row values)
overlaid_laid columns row (place ∷ places) [] are = sym (laid_no_values 0 row (place ∷ places))
overlaid_laid columns row (place ∷ places) (value ∷ values) are =
    overlaid_laid columns (set row place value) places values are.2 ∙ laid_set 0 row place place value places values (omega arith) are.1

-- values that are written over a row one after the other, as they are read
read_first : (row : List Value) (place : ℕ) (places : List ℕ) (first : Result Value Refusal) (rest : Result (List Value) Refusal) (next : Value → Result (List Value) Refusal)
    → ((value : Value) → next value ≡ and_then rest (λ values. Ok (overlaid (set row place value) places values)))
    → and_then first next ≡ and_then (and_then first (λ value. and_then rest (λ values. Ok (value ∷ values)))) (λ values. Ok (overlaid row (place ∷ places) values))
read_first row place places (Ok value) (Ok values) next is = is value
read_first row place places (Ok value) (Err refusal) next is = is value
read_first row place places (Err refusal) rest next is = refl

written_overlaid : (kinds : List Kind) (places : List ℕ) (literals : List Literal) (row : List Value) → ArePlaces (length kinds) places
    → written kinds places literals row ≡ and_then (values_for (kinds_at kinds places) literals) (λ values. Ok (overlaid row places values))
written_overlaid kinds [] literals row are = refl
written_overlaid kinds (place ∷ places) [] row are = rw (slice_get-get_or kinds place (kind.Plain scalar.Bool) are.0) refl
written_overlaid kinds (place ∷ places) (literal ∷ literals) row are =
    rw (slice_get-get_or kinds place (kind.Plain scalar.Bool) are.0)
    (read_first row place places _ _ _ (λ value. written_overlaid kinds places literals (set row place value) are.2))

in_order : (read : Result (List Value) Refusal) (f g : List Value → List Value) → ((values : List Value) → f values ≡ g values) → and_then read (λ values. Ok (f values)) ≡ and_then read (λ values. Ok (g values))
in_order (Ok values) f g same = ap (λ (v : List Value). Ok v) (same values)
in_order (Err refusal) f g same = refl

-- a row is what is written over the defaults
pub row_for-written : (kinds : List Kind) (places : List ℕ) (literals : List Literal) → ArePlaces (length kinds) places → length literals ≡ length places
    → row_for kinds places literals ≡ written kinds places literals (map default_of kinds)
row_for-written kinds places literals are width =
    let same : nat_eq (length literals) (length places) ≡ true = search rules in
    rw (same, written_overlaid kinds places literals (map default_of kinds) are)
    (in_order (values_for (kinds_at kinds places) literals) _ _
    (λ values. laid_defaults 0 kinds places values ∙ sym (overlaid_laid (length kinds) (map default_of kinds) places values are)))

-- the value that is written next, or refused
pub written_step : (kinds : List Kind) (places : List ℕ) (literals : List Literal) (row : List Value) (i next : ℕ) (literal : Literal) (none : Kind) (value : Value)
    → i < length places → i < length literals → literal ≡ get_or literals i literal → get_or places i 0 < length kinds
    → value_for (get_or kinds (get_or places i 0) none) literal ≡ Ok value → next ≡ suc i
    → written kinds (drop i places) (drop i literals) row ≡ written kinds (drop next places) (drop next literals) (set row (get_or places i 0) value)
written_step kinds places literals row i next literal none value here there is within read e =
    rw (e, drop-cons places i 0 here, drop-cons literals i literal there, ← is, slice_get-get_or kinds (get_or places i 0) none within, read) refl

pub written_refused : (kinds : List Kind) (places : List ℕ) (literals : List Literal) (row : List Value) (i : ℕ) (literal : Literal) (none : Kind) (refusal : Refusal)
    → i < length places → i < length literals → literal ≡ get_or literals i literal → get_or places i 0 < length kinds
    → value_for (get_or kinds (get_or places i 0) none) literal ≡ Err refusal
    → written kinds (drop i places) (drop i literals) row ≡ Err refusal
written_refused kinds places literals row i literal none refusal here there is within read =
    rw (drop-cons places i 0 here, drop-cons literals i literal there, ← is, slice_get-get_or kinds (get_or places i 0) none within, read) refl

-- a list without length has nothing
none_of : {A : Type 0} (l : List A) → length l ≡ 0 → l ≡ []
none_of [] none = refl
none_of (item ∷ l) none = absurd (omega (arith, none))

pub written_end : (kinds : List Kind) (places : List ℕ) (literals : List Literal) (row : List Value) (i : ℕ) → length places ≤ i → written kinds (drop i places) (drop i literals) row ≡ Ok row
written_end kinds places literals row i end = rw (none_of (drop i places) (omega (arith, length-drop i places))) refl

pub AreOf-length : (kinds : List Kind) (row : List Value) → AreOf kinds row → length row ≡ length kinds
AreOf-length [] [] of = refl
AreOf-length [] (value ∷ row) of = absurd of
AreOf-length (first ∷ kinds) [] of = absurd of
AreOf-length (first ∷ kinds) (value ∷ row) of = ap suc (AreOf-length kinds row of.1)

-- a value of a column's kind may be written there
pub AreOf-set : (kinds : List Kind) (row : List Value) (place : ℕ) (none : Kind) (value : Value) → AreOf kinds row → place < length kinds → IsOf (get_or kinds place none) value
    → AreOf kinds (set row place value)
AreOf-set [] row place none value of within is = absurd (omega arith)
AreOf-set (first ∷ kinds) [] place none value of within is = absurd of
AreOf-set (first ∷ kinds) (old ∷ row) zero none value of within is = (is, of.1)
AreOf-set (first ∷ kinds) (old ∷ row) (suc place) none value of within is = (of.0, AreOf-set kinds row place none value of.1 (omega arith) is)

-- rows that were read, in front of those that are left
abbrev pub in_front : List (List Value) → Result (List (List Value)) Refusal → Result (List (List Value)) Refusal
in_front rows (Ok rest) = Ok (rows ++ rest)
in_front rows (Err refusal) = Err refusal

pub in_front-none : (rest : Result (List (List Value)) Refusal) → in_front [] rest ≡ rest
in_front-none (Ok rest) = refl
in_front-none (Err refusal) = refl

moved : (rows : List (List Value)) (row : List Value) (rest : Result (List (List Value)) Refusal)
    → in_front rows (and_then rest (λ more. Ok (row ∷ more))) ≡ in_front (rows ++ row ∷ []) rest
moved rows row (Ok rest) = ap (λ (l : List (List Value)). Ok l) (sym (append_assoc rows (row ∷ []) rest))
moved rows row (Err refusal) = refl

pub rows_step : (kinds : List Kind) (places : List ℕ) (lists : List (List Literal)) (rows : List (List Value)) (i next : ℕ) (literals : List Literal) (row : List Value)
    → i < length lists → literals ≡ get_or lists i literals → row_for kinds places literals ≡ Ok row → next ≡ suc i
    → in_front (rows ++ row ∷ []) (rows_for kinds places (drop next lists)) ≡ in_front rows (rows_for kinds places (drop i lists))
rows_step kinds places lists rows i next literals row within is read e =
    sym (rw (e, drop-cons lists i literals within, ← is, read) (moved rows row (rows_for kinds places (drop (suc i) lists))))

pub rows_refused : (kinds : List Kind) (places : List ℕ) (lists : List (List Literal)) (rows : List (List Value)) (i : ℕ) (literals : List Literal) (refusal : Refusal)
    → i < length lists → literals ≡ get_or lists i literals → row_for kinds places literals ≡ Err refusal
    → in_front rows (rows_for kinds places (drop i lists)) ≡ Err refusal
rows_refused kinds places lists rows i literals refusal within is read = rw (drop-cons lists i literals within, ← is, read) refl

pub rows_end : (kinds : List Kind) (places : List ℕ) (lists : List (List Literal)) (rows : List (List Value)) (i : ℕ) → length lists ≤ i
    → in_front rows (rows_for kinds places (drop i lists)) ≡ Ok rows
rows_end kinds places lists rows i end = rw (none_of (drop i lists) (omega (arith, length-drop i lists))) (ap (λ (l : List (List Value)). Ok l) (search rules))

pub AllAreOf-more : (kinds : List Kind) (rows : List (List Value)) (row : List Value) → AllAreOf kinds rows → AreOf kinds row → AllAreOf kinds (rows ++ row ∷ [])
AllAreOf-more kinds [] row all of = (of, tt)
AllAreOf-more kinds (first ∷ rows) row all of = (all.0, AllAreOf-more kinds rows row all.1 of)
