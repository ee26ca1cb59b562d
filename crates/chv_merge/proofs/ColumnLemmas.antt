-- Rows of a key, column by column.
use Rattle.std.proofs.Common.{◌≡◌, ◌<◌, ◌+◌, ℕ, zero, suc, nat_eq, Bool, true, false, List, [], ◌∷◌, ◌++◌, Option, None, Some, if◌then◌else◌, length, slice_get, take, drop, set, Less, Equal, Greater, refl, sym, ap, subst, ◌∙◌, fold, add-one, arith}
use Rattle.std.proofs.lemmas.List.Elements.{filter_map-append}
use Rattle.std.proofs.lemmas.List.Sums.{fold-append}
use Rattle.std.specs.List.{cons_option, list_any}
use Rattle.std.specs.Option.{option_and_then}
use Rattle.std.specs.Prelude.{OnOk}
use Rattle.std.specs.declared.cmp.Ordering.{Ordering}
use Rattle.std.specs.declared.result.Result.{Result}
use Rattle.std.specs.declared.result.Result.TheVariants.{Ok, Err}
use Rattle.chv_agg.specs.OfKinds.{AllAreOf, AreOf, IsOf}
use Rattle.chv_agg.specs.Pairs.{join_found}
use Rattle.chv_agg.specs.StateBytes.{state_bytes}
use Rattle.chv_agg.specs.States.{FitsState, lower, merged, unit_of}
use Rattle.chv_types.specs.Members.{by_order}
use Rattle.chv_types.specs.Order.{value_cmp}
use Rattle.chv_types.specs.declared.aggregate.AggName.{AggName}
use Rattle.chv_types.specs.declared.kind.Kind.{Kind}
use Rattle.chv_types.specs.declared.kind.Kind.TheVariants as kind
use Rattle.chv_types.specs.declared.kind.Scalar.{Scalar}
use Rattle.chv_types.specs.declared.value.Value.{Value}
use Rattle.chv_types.specs.declared.value.Value.TheVariants.{State}
use Rattle.chv_merge.proofs.KeyLemmas.{merge_from-found}
use Rattle.chv_merge.proofs.StateColumnLemmas.{EachIsOf, fold-column}
use Rattle.chv_merge.specs.Merging.{column, lower_found, merged_states, states_in}
use Rattle.chv_merge.specs.NormalForms.{merge_all, merge_from, merge_rows, merge_values, merged_at, states_of}

-- rows of kinds have a value for each kind
pub AreOf-length : (kinds : List Kind) (row : List Value) → AreOf kinds row → length row ≡ length kinds
AreOf-length [] [] are = refl
AreOf-length [] (value ∷ row) are = absurd are
AreOf-length (of ∷ kinds) [] are = absurd are
AreOf-length (of ∷ kinds) (value ∷ row) are = ap suc (AreOf-length kinds row are.1)

-- the kind of a place
pub kind_at : (kinds : List Kind) (place : ℕ) → place < length kinds → (of : Kind) × (slice_get kinds place ≡ Some of)
kind_at [] place within = absurd (omega (arith, within))
kind_at (of ∷ kinds) zero within = (of, refl)
kind_at (of ∷ kinds) (suc place) within = kind_at kinds place (omega (arith, within))

-- the value of a row at a place, which is of the kind of the place
pub value_at : (kinds : List Kind) (row : List Value) (place : ℕ) (of : Kind) → AreOf kinds row → slice_get kinds place ≡ Some of
    → (value : Value) × (slice_get row place ≡ Some value) × IsOf of value
value_at [] row place of are e = cc
value_at (first ∷ kinds) [] place of are e = absurd are
value_at (first ∷ kinds) (value ∷ row) zero of are e = let same : first ≡ of = cc in (value, refl, subst (λ k. IsOf k value) same are.0)
value_at (first ∷ kinds) (value ∷ row) (suc place) of are e = value_at kinds row place of are.1 e

-- a value that a row has at a place is of the kind of the place
pub value_is : (kinds : List Kind) (row : List Value) (place : ℕ) (of : Kind) (value : Value) → AreOf kinds row → slice_get kinds place ≡ Some of → slice_get row place ≡ Some value
    → IsOf of value
value_is kinds row place of value are e f =
    let there = value_at kinds row place of are e in
    let same : there.0 ≡ value = let both : ◌≡◌ {A = Option Value} (Some there.0) (Some value) = sym there.1 ∙ f in cc in
    subst (IsOf of) same there.2

-- with another value of the kind of its place a row stays of its kinds
pub set-AreOf : (kinds : List Kind) (row : List Value) (place : ℕ) (of : Kind) (value : Value) → AreOf kinds row → slice_get kinds place ≡ Some of → IsOf of value
    → AreOf kinds (set row place value)
set-AreOf [] row place of value are e is = cc
set-AreOf (first ∷ kinds) [] place of value are e is = absurd are
set-AreOf (first ∷ kinds) (old ∷ row) zero of value are e is = let same : first ≡ of = cc in (subst (λ k. IsOf k value) (sym same) is, are.1)
set-AreOf (first ∷ kinds) (old ∷ row) (suc place) of value are e is = (are.0, set-AreOf kinds row place of value are.1 e is)

-- the values of a column are of its kind
pub column-EachIsOf : (kinds : List Kind) (place : ℕ) (of : Kind) (rows : List (List Value)) → slice_get kinds place ≡ Some of → AllAreOf kinds rows → EachIsOf of (column place rows)
column-EachIsOf kinds place of [] e are = tt
column-EachIsOf kinds place of (row ∷ rows) e are =
    let there = value_at kinds row place of are.0 e in
    subst (λ o. EachIsOf of (cons_option o (column place rows))) (sym there.1) (there.2, column-EachIsOf kinds place of rows e are.1)

-- the lowest of values of a kind is of the kind
lower-IsOf : (of : Kind) (x y : Value) → IsOf of x → IsOf of y → IsOf of (lower x y)
lower-IsOf of x y p q = elim (value_cmp x y) as (λ o. IsOf of (by_order o x x y)) [ Less ↦ p | Equal ↦ p | Greater ↦ q ]

pub lowest-IsOf : (of : Kind) (x : Value) (values : List Value) → IsOf of x → EachIsOf of values → IsOf of (fold lower x values)
lowest-IsOf of x [] p are = p
lowest-IsOf of x (y ∷ values) p are = lowest-IsOf of (lower x y) values (lower-IsOf of x y p are.0) are.1

-- where states are merged, the column is one of states
state-there : (any : Bool) (of : Option Kind) (agg : AggName) (arg : Scalar) → (if any then None else option_and_then states_of of) ≡ Some (agg, arg) → of ≡ Some (kind.State agg arg)
state-there true of agg arg e = cc
state-there false None agg arg e = cc
state-there false (Some (kind.Plain plain)) agg arg e = cc
state-there false (Some (kind.State other over)) agg arg e =
    let same : ◌≡◌ {A = AggName × Scalar} (other, over) (agg, arg) = cc in ap (λ (p : AggName × Scalar). Some (kind.State p.0 p.1)) same

pub merged-kind : (kinds : List Kind) (key : List ℕ) (place : ℕ) (agg : AggName) (arg : Scalar) → merged_at kinds key place ≡ Some (agg, arg)
    → slice_get kinds place ≡ Some (kind.State agg arg)
merged-kind kinds key place agg arg = state-there (list_any (nat_eq place) key) (slice_get kinds place) agg arg

-- the state that states are merged to, as a value
pub merged-states : (kinds : List Kind) (key : List ℕ) (place : ℕ) (agg : AggName) (arg : Scalar) (row : List Value) (others : List (List Value)) (x : Value)
    → merged_at kinds key place ≡ Some (agg, arg) → AreOf kinds row → AllAreOf kinds others → slice_get row place ≡ Some x
    → State (state_bytes arg (merged_states agg arg place (row ∷ others))) ≡ fold (merge_values (merged_at kinds key place)) x (column place others)
merged-states kinds key place agg arg row others x there first are e =
    let of : slice_get kinds place ≡ Some (kind.State agg arg) = merged-kind kinds key place agg arg there in
    ap (λ o. State (state_bytes arg (merged (unit_of agg arg) (states_in agg arg (cons_option o (column place others)))))) e
    ∙ fold-column agg arg x (column place others) (value_is kinds row place (kind.State agg arg) x first of e) (column-EachIsOf kinds place (kind.State agg arg) others of are)
    ∙ ap (λ m. fold (merge_values m) x (column place others)) (sym there)

-- a row with the state that states are merged to is of its kinds
pub state-AreOf : (kinds : List Kind) (key : List ℕ) (place : ℕ) (agg : AggName) (arg : Scalar) (row : List Value) (rows : List (List Value))
    → merged_at kinds key place ≡ Some (agg, arg) → AreOf kinds row → FitsState agg arg (merged_states agg arg place rows)
    → AreOf kinds (set row place (State (state_bytes arg (merged_states agg arg place rows))))
state-AreOf kinds key place agg arg row rows there are fits =
    set-AreOf kinds row place (kind.State agg arg) _ are (merged-kind kinds key place agg arg there) (record { state = merged_states agg arg place rows; fits = fits; spelled = refl })

-- the lowest of values, where none are merged
pub merged-lowest : (of : Option (AggName × Scalar)) (x : Value) (values : List Value) → of ≡ None → fold (merge_values of) x values ≡ fold lower x values
merged-lowest None x values e = refl
merged-lowest (Some found) x values e = cc

-- a row with the value that it has
pub set-same : (row : List Value) (place : ℕ) (x : Value) → slice_get row place ≡ Some x → set row place x ≡ row
set-same [] place x e = refl
set-same (y ∷ row) zero x e = let same : y ≡ x = cc in ap (λ v. v ∷ row) (sym same)
set-same (y ∷ row) (suc place) x e = ap (λ r. y ∷ r) (set-same row place x e)

-- what was put last stands
pub set-set : (row : List Value) (place : ℕ) (x y : Value) → set (set row place x) place y ≡ set row place y
set-set [] place x y = refl
set-set (z ∷ row) zero x y = refl
set-set (z ∷ row) (suc place) x y = ap (λ r. z ∷ r) (set-set row place x y)

pub get-set : (row : List Value) (place : ℕ) (x y : Value) → slice_get row place ≡ Some x → slice_get (set row place y) place ≡ Some y
get-set [] place x y e = cc
get-set (z ∷ row) zero x y e = refl
get-set (z ∷ row) (suc place) x y e = get-set row place x y e

not_above : (o : Ordering) (x y : Value) → by_order o None None (Some y) ≡ None → by_order o x x y ≡ x
not_above Less x y e = refl
not_above Equal x y e = refl
not_above Greater x y e = cc

-- no value is lower
pub none-lower : (row other : List Value) (place : ℕ) (x : Value) → slice_get row place ≡ Some x → lower_found (slice_get row place) (slice_get other place) ≡ None
    → row ≡ set row place (fold lower x (column place (other ∷ [])))
none-lower row other place x e none =
    elim (slice_get other place) as (λ o. lower_found (slice_get row place) o ≡ None → row ≡ set row place (fold lower x (cons_option o []))) [
      | None ↦ λ h. sym (set-same row place x e)
      | Some y ↦ λ h.
          let not_lower : by_order (value_cmp x y) None None (Some y) ≡ None = ap (λ o. lower_found o (Some y)) (sym e) ∙ h in
          sym (ap (set row place) (not_above (value_cmp x y) x y not_lower) ∙ set-same row place x e)
    ] none

-- the lowest of the values so far, and of one row more
pub lowest-push : (start : List Value) (place : ℕ) (x : Value) (seen : List (List Value)) (other old new : List Value) → slice_get start place ≡ Some x
    → old ≡ set start place (fold lower x (column place seen))
    → ((y : Value) → slice_get old place ≡ Some y → new ≡ set old place (fold lower y (column place (other ∷ []))))
    → new ≡ set start place (fold lower x (column place (seen ++ other ∷ [])))
lowest-push start place x seen other old new e so_far put =
    let low : Value = fold lower x (column place seen) in
    let there : slice_get old place ≡ Some low = ap (λ r. slice_get r place) so_far ∙ get-set start place x low e in
    put low there ∙ ap (λ r. set r place (fold lower low (column place (other ∷ [])))) so_far ∙ set-set start place low (fold lower low (column place (other ∷ [])))
    ∙ ap (set start place) (sym (fold-append lower x (column place seen) (column place (other ∷ [])))
    ∙ ap (fold lower x) (sym (filter_map-append (λ (r : List Value). slice_get r place) seen (other ∷ []))))

-- a row with the lowest value is of its kinds
pub lowest-AreOf : (kinds : List Kind) (place : ℕ) (row : List Value) (others : List (List Value)) → place < length kinds → AreOf kinds row → AllAreOf kinds others
    → (x : Value) × (slice_get row place ≡ Some x) × AreOf kinds (set row place (fold lower x (column place others)))
lowest-AreOf kinds place row others within first are =
    let of = kind_at kinds place within in
    let x = value_at kinds row place of.0 first of.1 in
    (x.0, x.1, set-AreOf kinds row place of.0 _ first of.1 (lowest-IsOf of.0 x.0 (column place others) x.2 (column-EachIsOf kinds place of.0 others of.1 are)))

pub lowest-kinds : {A E : Type 0} (result : Result A E) (kinds : List Kind) (place : ℕ) (row new : List Value) (others : List (List Value)) → place < length kinds → AreOf kinds row
    → AllAreOf kinds others → ((x : Value) → slice_get row place ≡ Some x → OnOk result (new ≡ set row place (fold lower x (column place others)))) → OnOk result (AreOf kinds new)
lowest-kinds (Ok done) kinds place row new others within first are put =
    let low = lowest-AreOf kinds place row others within first are in subst (AreOf kinds) (sym (put low.0 low.1)) low.2
lowest-kinds (Err fault) kinds place row new others within first are put = tt

-- a merged row has at a place the values of the column, merged
pub merged-there : (kinds : List Kind) (key : List ℕ) (row : List Value) (others : List (List Value)) (place : ℕ) (x : Value) → slice_get row place ≡ Some x
    → slice_get (merge_all kinds key (row ∷ others)) place ≡ Some (fold (merge_values (merged_at kinds key place)) x (column place others))
merged-there kinds key row [] place x e = e
merged-there kinds key row (other ∷ others) place x e =
    let here : slice_get (merge_rows kinds key row other) place ≡ join_found (merge_values (merged_at kinds key place)) (Some x) (slice_get other place) =
    merge_from-found (merged_at kinds key) 0 row other place ∙ ap (λ i. join_found (merge_values (merged_at kinds key i)) (slice_get row place) (slice_get other place)) (omega arith)
    ∙ ap (λ o. join_found (merge_values (merged_at kinds key place)) o (slice_get other place)) e in
    elim (slice_get other place) as (λ o. slice_get (merge_rows kinds key row other) place ≡ join_found (merge_values (merged_at kinds key place)) (Some x) o
    → slice_get (merge_all kinds key (merge_rows kinds key row other ∷ others)) place ≡ Some (fold (merge_values (merged_at kinds key place)) x (cons_option o (column place others)))) [
      | None ↦ λ h. merged-there kinds key (merge_rows kinds key row other) others place x h
      | Some y ↦ λ h. merged-there kinds key (merge_rows kinds key row other) others place (merge_values (merged_at kinds key place) x y) h
    ] here

merge_from-length : (merged : ℕ → Option (AggName × Scalar)) (from : ℕ) (a b : List Value) → length a ≡ length b → length (merge_from merged from a b) ≡ length b
merge_from-length merged from [] b e = refl
merge_from-length merged from (x ∷ a) [] e = e
merge_from-length merged from (x ∷ a) (y ∷ b) e = ap suc (merge_from-length merged (from + 1) a b (omega (arith, e)))

-- a merged row is as long as the rows
pub merged-length : (kinds : List Kind) (key : List ℕ) (row : List Value) (others : List (List Value)) → length row ≡ length kinds → AllAreOf kinds others
    → length (merge_all kinds key (row ∷ others)) ≡ length kinds
merged-length kinds key row [] long are = long
merged-length kinds key row (other ∷ others) long are =
    let next : length other ≡ length kinds = AreOf-length kinds other are.0 in
    merged-length kinds key (merge_rows kinds key row other) others (merge_from-length (merged_at kinds key) 0 row other (long ∙ sym next) ∙ next) are.1

-- the columns of one row up to a place, and then those of another
abbrev pub halves : ℕ → List Value → List Value → List Value
halves place made row = take place made ++ drop place row

pub halves-get : (place : ℕ) (made row : List Value) → place < length made → place < length row → slice_get (halves place made row) place ≡ slice_get row place
halves-get zero made row within long = refl
halves-get (suc place) [] row within long = absurd (omega (arith, within))
halves-get (suc place) (x ∷ made) [] within long = absurd (omega (arith, long))
halves-get (suc place) (x ∷ made) (y ∷ row) within long = halves-get place made row (omega (arith, within)) (omega (arith, long))

pub halves-set : (place : ℕ) (made row : List Value) (x : Value) → slice_get made place ≡ Some x → place < length row → set (halves place made row) place x ≡ halves (suc place) made row
halves-set zero [] row x e within = cc
halves-set zero (y ∷ made) [] x e within = absurd (omega (arith, within))
halves-set zero (y ∷ made) (z ∷ row) x e within = let same : y ≡ x = cc in ap (λ v. v ∷ row) (sym same)
halves-set (suc place) [] row x e within = cc
halves-set (suc place) (y ∷ made) [] x e within = absurd (omega (arith, within))
halves-set (suc place) (y ∷ made) (z ∷ row) x e within = ap (λ r. y ∷ r) (halves-set place made row x e (omega (arith, within)))

pub halves-whole : (made row : List Value) (place : ℕ) → place ≡ length made → length row ≡ length made → halves place made row ≡ made
halves-whole [] [] place e long = rw e refl
halves-whole [] (y ∷ row) place e long = absurd (omega (arith, long))
halves-whole (x ∷ made) [] place e long = absurd (omega (arith, long))
halves-whole (x ∷ made) (y ∷ row) place e long = rw e (ap (λ r. x ∷ r) (halves-whole made row (length made) refl (omega (arith, long))))

-- one column more
pub halves-step : (kinds : List Kind) (key : List ℕ) (start : List Value) (others : List (List Value)) (place : ℕ) (row new : List Value) → AreOf kinds start → AllAreOf kinds others
    → place < length kinds → row ≡ halves place (merge_all kinds key (start ∷ others)) start
    → ((x : Value) → slice_get row place ≡ Some x → new ≡ set row place (fold (merge_values (merged_at kinds key place)) x (column place others)))
    → new ≡ halves (place + 1) (merge_all kinds key (start ∷ others)) start
halves-step kinds key start others place row new first are within so_far put =
    let made = merge_all kinds key (start ∷ others) in
    let of = kind_at kinds place within in
    let x = value_at kinds start place of.0 first of.1 in
    let long : length start ≡ length kinds = AreOf-length kinds start first in
    let in_start : place < length start = omega (arith, within, long) in
    let in_made : place < length made = omega (arith, within, merged-length kinds key start others long are) in
    let there : slice_get row place ≡ Some x.0 = ap (λ r. slice_get r place) so_far ∙ halves-get place made start in_made in_start ∙ x.1 in
    let value : Value = fold (merge_values (merged_at kinds key place)) x.0 (column place others) in
    let next : set (halves place made start) place value ≡ halves (suc place) made start =
    halves-set place made start value (merged-there kinds key start others place x.0 x.1) in_start in
    put x.0 there ∙ ap (λ r. set r place value) so_far ∙ next ∙ ap (λ (n : ℕ). halves n made start) (sym (add-one place))

-- all columns
pub halves-end : (kinds : List Kind) (key : List ℕ) (start : List Value) (others : List (List Value)) (place : ℕ) → AreOf kinds start → AllAreOf kinds others → place ≡ length kinds
    → halves place (merge_all kinds key (start ∷ others)) start ≡ merge_all kinds key (start ∷ others)
halves-end kinds key start others place first are end =
    let long : length start ≡ length kinds = AreOf-length kinds start first in
    let size : length (merge_all kinds key (start ∷ others)) ≡ length kinds = merged-length kinds key start others long are in
    halves-whole (merge_all kinds key (start ∷ others)) start place (end ∙ sym size) (long ∙ sym size)
