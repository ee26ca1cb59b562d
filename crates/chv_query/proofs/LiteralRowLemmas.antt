-- Rows that literals write are of their columns' kinds.
use Rattle.std.proofs.Common.{◌≡◌, ◌+◌, ◌<◌, ℕ, suc, Bool, true, false, not, List, [], ◌∷◌, length, map, get_or, Option, None, Some, Result, Ok, Err, if◌then◌else◌, nat_eq, nat_lt, refl, ap, subst, ◌∙◌, arith, eqb-true}
use Rattle.std.specs.List.{All, cons_option}
use Rattle.std.proofs.lemmas.List.Elements.{All-cons, All-head, All-nil, All-tail}
use Rattle.std.proofs.lemmas.Option.{slice_get-get_or}
use Rattle.chv_ast.specs.declared.expr.Literal.{Literal}
use Rattle.chv_ast.specs.declared.expr.Literal.TheVariants as literal
use Rattle.chv_ast.specs.declared.refusal.Refusal.TheVariants.{LimitPassed, WrongWidth}
use Rattle.chv_ast.specs.declared.refusal.Refusal.{Refusal}
use Rattle.chv_block.proofs.DefaultLemmas.{default_kind}
use Rattle.chv_block.specs.Spellings.{IsOf, AreOf, AllAreOf, IsSmall}
use Rattle.chv_catalog.proofs.SchemaLemmas.{place_of-within}
use Rattle.chv_catalog.proofs.StepLemmas.{and_then-Ok, refuse_if-Ok}
use Rattle.chv_catalog.specs.Checks.{places_of}
use Rattle.chv_types.specs.Fits.{IsOfScalar}
use Rattle.chv_types.specs.Names.{place_of}
use Rattle.chv_types.specs.Steps.{and_then}
use Rattle.chv_types.specs.Texts.{value_of}
use Rattle.chv_types.specs.Values.{default_of}
use Rattle.chv_types.specs.declared.aggregate.AggName.TheVariants as agg
use Rattle.chv_types.specs.declared.kind.Kind.{Kind}
use Rattle.chv_types.specs.declared.kind.Kind.TheVariants as kind
use Rattle.chv_types.specs.declared.kind.Scalar.{Scalar}
use Rattle.chv_types.specs.declared.kind.Scalar.TheVariants as scalar
use Rattle.chv_types.specs.declared.value.Value.{Value}
use Rattle.chv_types.specs.declared.value.Value.TheVariants as value
use Rattle.chv_query.proofs.LiteralLemmas.{value_of_kind}
use Rattle.chv_query.specs.Literals.{literal_value, or_bad, truth_value, whole_text, whole_value}
use Rattle.chv_query.specs.Plans.{arranged, kinds_at, row_for, rows_for, value_at, value_for, values_for}

-- what is no bad literal has a value
good : (found : Option Value) (v : Value) → or_bad found ≡ Ok v → found ≡ Some v
good None v is = absurd cc
good (Some a) v is = cc

-- the value of a number, a truth or a text is of its column's kind
whole_kind : (plain : Scalar) (text : List ℕ) (v : Value) → whole_value plain text ≡ Ok v → IsOfScalar plain v
whole_kind scalar.Text text v is = absurd cc
whole_kind scalar.UInt8 text v is = value_of_kind scalar.UInt8 text v (good (value_of scalar.UInt8 text) v is)
whole_kind scalar.UInt16 text v is = value_of_kind scalar.UInt16 text v (good (value_of scalar.UInt16 text) v is)
whole_kind scalar.UInt32 text v is = value_of_kind scalar.UInt32 text v (good (value_of scalar.UInt32 text) v is)
whole_kind scalar.UInt64 text v is = value_of_kind scalar.UInt64 text v (good (value_of scalar.UInt64 text) v is)
whole_kind scalar.Int8 text v is = value_of_kind scalar.Int8 text v (good (value_of scalar.Int8 text) v is)
whole_kind scalar.Int16 text v is = value_of_kind scalar.Int16 text v (good (value_of scalar.Int16 text) v is)
whole_kind scalar.Int32 text v is = value_of_kind scalar.Int32 text v (good (value_of scalar.Int32 text) v is)
whole_kind scalar.Int64 text v is = value_of_kind scalar.Int64 text v (good (value_of scalar.Int64 text) v is)
whole_kind scalar.Bool text v is = value_of_kind scalar.Bool text v (good (value_of scalar.Bool text) v is)

truth_kind : (plain : Scalar) (truth : Bool) (v : Value) → truth_value plain truth ≡ Ok v → IsOfScalar plain v
truth_kind scalar.Bool truth v is = let same : value.Truth truth ≡ v = cc in subst (IsOfScalar scalar.Bool) same refl
truth_kind scalar.Text truth v is = absurd cc
truth_kind scalar.UInt8 truth v is = absurd cc
truth_kind scalar.UInt16 truth v is = absurd cc
truth_kind scalar.UInt32 truth v is = absurd cc
truth_kind scalar.UInt64 truth v is = absurd cc
truth_kind scalar.Int8 truth v is = absurd cc
truth_kind scalar.Int16 truth v is = absurd cc
truth_kind scalar.Int32 truth v is = absurd cc
truth_kind scalar.Int64 truth v is = absurd cc

quoted_kind : (long : Bool) (plain : Scalar) (text : List ℕ) (v : Value) → (if long then Err LimitPassed else or_bad (value_of plain text)) ≡ Ok v → IsOfScalar plain v
quoted_kind true plain text v is = absurd cc
quoted_kind false plain text v is = value_of_kind plain text v (good (value_of plain text) v is)

literal_kind : (plain : Scalar) (l : Literal) (v : Value) → literal_value plain l ≡ Ok v → IsOfScalar plain v
unfolding literal_value
literal_kind plain (literal.Whole minus digits) v is = whole_kind plain (whole_text minus digits) v is
literal_kind plain (literal.Quoted text) v is = quoted_kind (nat_lt 1048576 (length text)) plain text v is
literal_kind plain (literal.Truth truth) v is = truth_kind plain truth v is

-- the value that a literal writes in a column is of the column's kind
value_kind : (of : Kind) (l : Literal) (v : Value) → value_for of l ≡ Ok v → IsOf of v
value_kind (kind.Plain plain) l v is = literal_kind plain l v is
value_kind (kind.State agg arg) l v is = absurd cc

-- a default is small
default_small : (of : Kind) → IsSmall (default_of of)
default_small (kind.Plain scalar.UInt8) = omega arith
default_small (kind.Plain scalar.UInt16) = omega arith
default_small (kind.Plain scalar.UInt32) = omega arith
default_small (kind.Plain scalar.UInt64) = omega arith
default_small (kind.Plain scalar.Int8) = omega arith
default_small (kind.Plain scalar.Int16) = omega arith
default_small (kind.Plain scalar.Int32) = omega arith
default_small (kind.Plain scalar.Int64) = omega arith
default_small (kind.Plain scalar.Bool) = omega arith
default_small (kind.Plain scalar.Text) = omega arith
default_small (kind.State agg.Count arg) = omega arith
default_small (kind.State agg.Sum arg) = omega arith
default_small (kind.State agg.Min arg) = omega arith
default_small (kind.State agg.Max arg) = omega arith
default_small (kind.State agg.UniqExact arg) = omega arith

pub defaults_small : (kinds : List Kind) → All IsSmall (map default_of kinds)
defaults_small [] = All-nil IsSmall
defaults_small (first ∷ kinds) = All-cons IsSmall (default_of first) (map default_of kinds) (default_small first) (defaults_small kinds)

-- a value of a plain kind is small
scalar_small : (plain : Scalar) (v : Value) → IsOfScalar plain v → IsSmall v
scalar_small plain (value.Whole n) of = omega arith
scalar_small plain (value.Truth truth) of = omega arith
scalar_small plain (value.Text text) of = of.1
scalar_small plain (value.State spelling) of = absurd of

-- a value that a literal writes is small
pub value_small : (of : Kind) (l : Literal) (v : Value) → value_for of l ≡ Ok v → IsSmall v
value_small (kind.Plain plain) l v is = scalar_small plain v (literal_kind plain l v is)
value_small (kind.State agg arg) l v is = absurd cc

-- what one step answers
ok_same : {A : Type 0} (x y : A) → ◌≡◌ {A = Result A Refusal} (Ok x) (Ok y) → x ≡ y
ok_same {A} x y same = cc

-- places of so many columns
abbrev pub AreWithin : ℕ → List ℕ → Type 0
AreWithin columns [] = Unit {0}
AreWithin columns (place ∷ places) = (place < columns) × AreWithin columns places

found_within : (columns : List (List ℕ)) (name : List ℕ) (places : List ℕ) (found : Option ℕ) → place_of name columns ≡ found → AreWithin (length columns) places
    → AreWithin (length columns) (cons_option found places)
found_within columns name places None is within = within
found_within columns name places (Some place) is within = (place_of-within name columns place is, within)

-- the places of columns that are found by their names are such
pub places_of-AreWithin : (columns names : List (List ℕ)) → AreWithin (length columns) (places_of columns names)
places_of-AreWithin columns [] = tt
places_of-AreWithin columns (name ∷ names) =
    found_within columns name (places_of columns names) (place_of name columns) refl (places_of-AreWithin columns names)

module _ (kinds : List Kind) (none : Kind) where
  -- values are of the kinds at their places
  abbrev AreAt : List ℕ → List Value → Type 0
  AreAt [] values = Unit {0}
  AreAt (place ∷ places) [] = Unit {0}
  AreAt (place ∷ places) (v ∷ values) = IsOf (get_or kinds place none) v × AreAt places values

  -- so are those that literals write for the kinds at these places
  values_at : (places : List ℕ) (literals : List Literal) (values : List Value) → AreWithin (length kinds) places → values_for (kinds_at kinds places) literals ≡ Ok values → AreAt places values
  values_at [] literals values within is = tt
  values_at (place ∷ places) [] values within is =
      let there = slice_get-get_or kinds place none within.0 in
      let read : values_for (get_or kinds place none ∷ kinds_at kinds places) [] ≡ Ok values = rw there at is in
      subst (AreAt (place ∷ places)) (ok_same [] values read) tt
  values_at (place ∷ places) (l ∷ literals) values within is =
      let there = slice_get-get_or kinds place none within.0 in
      let read : values_for (get_or kinds place none ∷ kinds_at kinds places) (l ∷ literals) ≡ Ok values = rw there at is in
      let first = and_then-Ok (value_for (get_or kinds place none) l) (λ v. and_then (values_for (kinds_at kinds places) literals) (λ rest. Ok (v ∷ rest))) values read in
      let later = and_then-Ok (values_for (kinds_at kinds places) literals) (λ rest. Ok (first.0 ∷ rest)) values first.2 in
      subst (AreAt (place ∷ places)) (ok_same (first.0 ∷ later.0) values later.2)
      (value_kind (get_or kinds place none) l first.0 first.1, values_at places literals later.0 within.1 later.1)

  -- the value of the column at a place is of its kind
  value_at_kind : (place : ℕ) (of : Kind) (places : List ℕ) (values : List Value) → get_or kinds place none ≡ of → AreAt places values → IsOf of (value_at place of places values)
  value_at_kind place of [] values at are = default_kind of
  value_at_kind place of (filled ∷ places) [] at are = default_kind of
  value_at_kind place of (filled ∷ places) (v ∷ values) at are =
      elim (nat_eq filled place) as (λ (b : Bool). nat_eq filled place ≡ b → IsOf of (if b then v else value_at place of places values)) [
        | true ↦ λ same. subst (λ (k : Kind). IsOf k v) (ap (λ (p : ℕ). get_or kinds p none) (eqb-true filled place same) ∙ at) are.0
        | false ↦ λ differ. value_at_kind place of places values at are.1
      ] refl

  -- and so are those of all columns from a place on
  arranged_kinds : (place : ℕ) (rest : List Kind) (places : List ℕ) (values : List Value) → ((p : ℕ) → get_or kinds (place + p) none ≡ get_or rest p none) → AreAt places values
      → AreOf rest (arranged place rest places values)
  arranged_kinds place [] places values same are = tt
  arranged_kinds place (first ∷ rest) places values same are =
      let here : get_or kinds place none ≡ first = ap (λ (p : ℕ). get_or kinds p none) (omega arith) ∙ same 0 in (
        value_at_kind place first places values here are,
        arranged_kinds (place + 1) rest places values (λ p. ap (λ (n : ℕ). get_or kinds n none) (omega arith) ∙ same (suc p)) are,
      )

-- a row that literals write is of the kinds
row_kinds : (kinds : List Kind) (places : List ℕ) (literals : List Literal) (row : List Value) → AreWithin (length kinds) places → row_for kinds places literals ≡ Ok row → AreOf kinds row
row_kinds kinds places literals row within is =
    let none : Kind = kind.Plain scalar.Bool in
    let width = refuse_if-Ok (not (nat_eq (length literals) (length places))) WrongWidth _ row is in
    let values = and_then-Ok (values_for (kinds_at kinds places) literals) (λ values. Ok (arranged 0 kinds places values)) row width.1 in
    subst (AreOf kinds) (ok_same (arranged 0 kinds places values.0) row values.2)
    (arranged_kinds kinds none 0 kinds places values.0 (λ p. ap (λ (n : ℕ). get_or kinds n none) (omega arith)) (values_at kinds none places literals values.0 within values.1))

-- and so are rows, of which there are as many as lists of literals
pub rows_kinds : (kinds : List Kind) (places : List ℕ) (lists : List (List Literal)) (rows : List (List Value)) → AreWithin (length kinds) places → rows_for kinds places lists ≡ Ok rows
    → AllAreOf kinds rows × (length rows ≡ length lists)
rows_kinds kinds places [] rows within is = subst (λ (l : List (List Value)). AllAreOf kinds l × (length l ≡ 0)) (ok_same [] rows is) (tt, refl)
rows_kinds kinds places (literals ∷ lists) rows within is =
    let first = and_then-Ok (row_for kinds places literals) (λ row. and_then (rows_for kinds places lists) (λ rest. Ok (row ∷ rest))) rows is in
    let later = and_then-Ok (rows_for kinds places lists) (λ rest. Ok (first.0 ∷ rest)) rows first.2 in
    let rest = rows_kinds kinds places lists later.0 within later.1 in
    subst (λ (l : List (List Value)). AllAreOf kinds l × (length l ≡ length (literals ∷ lists))) (ok_same (first.0 ∷ later.0) rows later.2)
    ((row_kinds kinds places literals first.0 within first.1, rest.0), omega (arith, rest.1))

-- values that literals write are small
values_small : (kinds : List Kind) (literals : List Literal) (values : List Value) → values_for kinds literals ≡ Ok values → All IsSmall values
values_small [] literals values is = subst (All IsSmall) (ok_same [] values is) (All-nil IsSmall)
values_small (of ∷ kinds) [] values is = subst (All IsSmall) (ok_same [] values is) (All-nil IsSmall)
values_small (of ∷ kinds) (l ∷ literals) values is =
    let first = and_then-Ok (value_for of l) (λ v. and_then (values_for kinds literals) (λ rest. Ok (v ∷ rest))) values is in
    let later = and_then-Ok (values_for kinds literals) (λ rest. Ok (first.0 ∷ rest)) values first.2 in
    subst (All IsSmall) (ok_same (first.0 ∷ later.0) values later.2)
    (All-cons IsSmall first.0 later.0 (value_small of l first.0 first.1) (values_small kinds literals later.0 later.1))

either_small : (b : Bool) (v w : Value) → IsSmall v → IsSmall w → IsSmall (if b then v else w)
either_small true v w first other = first
either_small false v w first other = other

value_at_small : (place : ℕ) (of : Kind) (places : List ℕ) (values : List Value) → All IsSmall values → IsSmall (value_at place of places values)
value_at_small place of [] values small = default_small of
value_at_small place of (filled ∷ places) [] small = default_small of
value_at_small place of (filled ∷ places) (v ∷ values) small =
    either_small (nat_eq filled place) v (value_at place of places values) (All-head IsSmall v values small)
    (value_at_small place of places values (All-tail IsSmall v values small))

arranged_small : (place : ℕ) (kinds : List Kind) (places : List ℕ) (values : List Value) → All IsSmall values → All IsSmall (arranged place kinds places values)
arranged_small place [] places values small = All-nil IsSmall
arranged_small place (of ∷ kinds) places values small =
    All-cons IsSmall (value_at place of places values) (arranged (place + 1) kinds places values) (value_at_small place of places values small) (arranged_small (place + 1) kinds places values small)

row_small : (kinds : List Kind) (places : List ℕ) (literals : List Literal) (row : List Value) → row_for kinds places literals ≡ Ok row → All IsSmall row
row_small kinds places literals row is =
    let width = refuse_if-Ok (not (nat_eq (length literals) (length places))) WrongWidth _ row is in
    let values = and_then-Ok (values_for (kinds_at kinds places) literals) (λ values. Ok (arranged 0 kinds places values)) row width.1 in
    subst (All IsSmall) (ok_same (arranged 0 kinds places values.0) row values.2)
    (arranged_small 0 kinds places values.0 (values_small (kinds_at kinds places) literals values.0 values.1))

-- so are those of rows that literals write
pub rows_small : (kinds : List Kind) (places : List ℕ) (lists : List (List Literal)) (rows : List (List Value)) → rows_for kinds places lists ≡ Ok rows → All (All IsSmall) rows
rows_small kinds places [] rows is = subst (All (All IsSmall)) (ok_same [] rows is) (All-nil (All IsSmall))
rows_small kinds places (literals ∷ lists) rows is =
    let first = and_then-Ok (row_for kinds places literals) (λ row. and_then (rows_for kinds places lists) (λ rest. Ok (row ∷ rest))) rows is in
    let later = and_then-Ok (rows_for kinds places lists) (λ rest. Ok (first.0 ∷ rest)) rows first.2 in
    subst (All (All IsSmall)) (ok_same (first.0 ∷ later.0) rows later.2)
    (All-cons (All IsSmall) first.0 later.0 (row_small kinds places literals first.0 first.1) (rows_small kinds places lists later.0 later.1))
