-- What a view makes is of the columns of its target.
use Rattle.std.proofs.Common.{◌≡◌, ◌∙◌, ◌+◌, ◌*◌, ◌<◌, ◌≤◌, ◌^◌, ◌⊎◌, inl, inr, ℕ, ℤ, zero, suc, pos, Bool, true, false, not, cond, nat_eq, if◌then◌else◌, List, [], ◌∷◌, length, get_or, map, Option, None, Some, is_some, Ok, slice_get, option_map, refl, sym, ap, subst, arith, rules, tests}
use Rattle.std.proofs.lemmas.Bool.{or_cases, or_parts}
use Rattle.std.proofs.lemmas.List.Elements.{All-head, All-map, All-nil, All-tail, All-weaker}
use Rattle.std.proofs.lemmas.List.Quantifiers.{position-Some}
use Rattle.std.proofs.lemmas.Option.{slice_get-get_or, slice_get-map}
use Rattle.std.proofs.lemmas.Slice.Eq.{bytes_eq-Decides}
use Rattle.std.specs.List.{All, list_any}
use Rattle.std.specs.Option.{option_and_then, unwrap_or}
use Rattle.std.specs.Str.{bytes_eq}
use Rattle.chv_agg.proofs.StateFrontLemmas.{set_size-state_in, state_in-over, state_in-spelled}
use Rattle.chv_agg.specs.Plain.{scalar_code}
use Rattle.chv_agg.specs.Sets.{SetsWithin, set_in, total_of}
use Rattle.chv_agg.specs.StateBytes.{agg_number, state_bytes, state_in}
use Rattle.chv_agg.specs.States.{IsOver, set_size}
use Rattle.chv_agg.specs.declared.any_agg.AnyAgg.{AnyAgg}
use Rattle.chv_agg.specs.declared.any_agg.AnyAgg.TheVariants.{Count, SumU, SumI, Least, Greatest, Uniq}
use Rattle.chv_ast.specs.declared.statement.Select.{Select}
use Rattle.chv_block.proofs.DefaultLemmas.{default_kind}
use Rattle.chv_block.specs.Spellings.{AllAreOf, IsOf, IsSmall, kind_code}
use Rattle.chv_catalog.proofs.Positions.{position-cons}
use Rattle.chv_catalog.specs.Checks.{has_repeat}
use Rattle.chv_catalog.specs.Schemas.{kinds_of}
use Rattle.chv_catalog.specs.declared.table_def.TableDef.{TableDef}
use Rattle.chv_expr.proofs.TermFits.{AllOf, value_at-of}
use Rattle.chv_expr.specs.Terms.{value_at}
use Rattle.chv_part.specs.Books.{MAX_ROWS}
use Rattle.chv_query.proofs.GroupFits.{AllAreOf-from, AllAreOf-to, IsApt, column_kinds, slice_get-mapped}
use Rattle.chv_query.proofs.GrowthLemmas.{All-at}
use Rattle.chv_query.proofs.QueryFits.{plain_same, result_of-fits, result_of-length}
use Rattle.chv_query.proofs.SetSums.{length-mapped, total_of-map, total_of-more, total_of-none, total_of-same}
use Rattle.chv_query.specs.Derived.{put_to, value_to, viewed}
use Rattle.chv_query.specs.Queries.{Asked, asked_of, result_of}
use Rattle.chv_query.specs.Views.{fills, fills_place, is_wider, kind_eq, lies_within, names_in, widens_to}
use Rattle.chv_query.proofs.DefinitionLemmas.{none_there}
use Rattle.chv_types.specs.Fits.{IsOfScalar}
use Rattle.chv_types.specs.Kinds.{LiesIn, range_of}
use Rattle.chv_types.specs.Names.{place_of}
use Rattle.chv_types.specs.Order.{bytes}
use Rattle.chv_types.specs.Values.{default_of}
use Rattle.chv_types.specs.declared.aggregate.AggName.{AggName}
use Rattle.chv_types.specs.declared.aggregate.AggName.TheVariants as agg
use Rattle.chv_types.specs.declared.kind.Kind.{Kind}
use Rattle.chv_types.specs.declared.kind.Kind.TheVariants as kind
use Rattle.chv_types.specs.declared.kind.Scalar.{Scalar}
use Rattle.chv_types.specs.declared.kind.Scalar.TheVariants as scalar
use Rattle.chv_types.specs.declared.table.Column.{Column}
use Rattle.chv_types.specs.declared.value.Value.{Value}
use Rattle.chv_types.specs.declared.value.Value.TheVariants.{State, Text, Truth, Whole}

-- the kind of a code
abbrev scalar_at : ℕ → Scalar
scalar_at code =
    if nat_eq code 1 then scalar.UInt8 else (
    if nat_eq code 2 then scalar.UInt16 else (
    if nat_eq code 3 then scalar.UInt32 else (
    if nat_eq code 4 then scalar.UInt64 else (
    if nat_eq code 5 then scalar.Int8 else (
    if nat_eq code 6 then scalar.Int16 else (
    if nat_eq code 7 then scalar.Int32 else (
    if nat_eq code 8 then scalar.Int64 else (
    if nat_eq code 9 then scalar.Bool else scalar.Text))))))))

scalar_at-code : (plain : Scalar) → scalar_at (scalar_code plain) ≡ plain
scalar_at-code scalar.UInt8 = refl
scalar_at-code scalar.UInt16 = refl
scalar_at-code scalar.UInt32 = refl
scalar_at-code scalar.UInt64 = refl
scalar_at-code scalar.Int8 = refl
scalar_at-code scalar.Int16 = refl
scalar_at-code scalar.Int32 = refl
scalar_at-code scalar.Int64 = refl
scalar_at-code scalar.Bool = refl
scalar_at-code scalar.Text = refl

abbrev agg_at : ℕ → AggName
agg_at number =
    if nat_eq number 0 then agg.Count else (if nat_eq number 1 then agg.Sum else (if nat_eq number 2 then agg.Min else (if nat_eq number 3 then agg.Max else agg.UniqExact)))

agg_at-number : (function : AggName) → agg_at (agg_number function) ≡ function
agg_at-number agg.Count = refl
agg_at-number agg.Sum = refl
agg_at-number agg.Min = refl
agg_at-number agg.Max = refl
agg_at-number agg.UniqExact = refl

same_scalar : (a b : Scalar) → scalar_code a ≡ scalar_code b → a ≡ b
same_scalar a b e = sym (scalar_at-code a) ∙ ap scalar_at e ∙ scalar_at-code b

same_agg : (a b : AggName) → 16 + agg_number a ≡ 16 + agg_number b → a ≡ b
same_agg a b e = let e' : agg_number a ≡ agg_number b = omega (arith, e) in sym (agg_at-number a) ∙ ap agg_at e' ∙ agg_at-number b

first_same : {A : Type 0} (x y : A) (xs ys : List A) → x ∷ xs ≡ y ∷ ys → x ≡ y
first_same x y xs ys e = cc e

rest_same : {A : Type 0} (x y : A) (xs ys : List A) → x ∷ xs ≡ y ∷ ys → xs ≡ ys
rest_same x y xs ys e = cc e

-- kinds of one code are the same
same_kind : (a b : Kind) → kind_code a ≡ kind_code b → a ≡ b
same_kind (kind.Plain a) (kind.Plain b) e = ap kind.Plain (same_scalar a b (first_same (scalar_code a) (scalar_code b) [] [] e))
same_kind (kind.Plain a) (kind.State g b) e = let long : 1 ≡ 2 = ap length e in absurd (omega (arith, long))
same_kind (kind.State f a) (kind.Plain b) e = let long : 2 ≡ 1 = ap length e in absurd (omega (arith, long))
same_kind (kind.State f a) (kind.State g b) e =
    let functions = same_agg f g (first_same (16 + agg_number f) (16 + agg_number g) (scalar_code a ∷ []) (scalar_code b ∷ []) e) in
    let args = same_scalar a b (first_same (scalar_code a) (scalar_code b) [] [] (rest_same (16 + agg_number f) (16 + agg_number g) (scalar_code a ∷ []) (scalar_code b ∷ []) e)) in
    rw (functions, args) refl

-- a number of a range lies in a wider one
wider_number : (inner outer : Option (ℤ × ℤ)) (n : ℤ) → lies_within inner outer ≡ true → LiesIn inner n → LiesIn outer n
wider_number None outer n wide lies = absurd lies
wider_number (Some inner) None n wide lies = absurd (cc wide)
wider_number (Some inner) (Some outer) n wide lies = search (rules, tests)

wider_value : (from to : Scalar) (value : Value) → lies_within (range_of from) (range_of to) ≡ true → IsOfScalar from value → IsOfScalar to value
wider_value from to (Whole n) wide of = wider_number (range_of from) (range_of to) n wide of
wider_value from to (Truth truth) wide of =
    let none : lies_within (range_of scalar.Bool) (range_of to) ≡ true = subst (λ (s : Scalar). lies_within (range_of s) (range_of to) ≡ true) of wide in absurd (cc none)
wider_value from to (Text text) wide of =
    let none : lies_within (range_of scalar.Text) (range_of to) ≡ true = subst (λ (s : Scalar). lies_within (range_of s) (range_of to) ≡ true) of.0 wide in absurd (cc none)
wider_value from to (State spelling) wide of = absurd of

wider_is : (from to : Kind) (value : Value) → is_wider from to ≡ true → IsOf from value → IsOf to value
wider_is (kind.Plain from) (kind.Plain to) value wide of = wider_value from to value wide of
wider_is (kind.Plain from) (kind.State function arg) value wide of = absurd (cc wide)
wider_is (kind.State function arg) to value wide of = absurd (cc wide)

widens_cases : (from to : Kind) → widens_to from to ≡ true → (from ≡ to) ⊎ (is_wider from to ≡ true)
unfolding widens_to
widens_cases from to widens = by (or_cases (kind_eq from to) (is_wider from to) widens)
  where
    by : (kind_eq from to ≡ true) ⊎ (is_wider from to ≡ true) → (from ≡ to) ⊎ (is_wider from to ≡ true)
    by (inl same) = inl (same_kind from to ((bytes_eq-Decides (kind_code from) (kind_code to)).0 same))
    by (inr wide) = inr wide

-- a value of a kind is one of what the kind widens to
widened-is : (from to : Kind) (value : Value) → widens_to from to ≡ true → IsOf from value → IsOf to value
widened-is from to value widens of = by (widens_cases from to widens)
  where
    by : (from ≡ to) ⊎ (is_wider from to ≡ true) → IsOf to value
    by (inl same) = subst (λ (k : Kind). IsOf k value) same of
    by (inr wide) = wider_is from to value wide of

-- and its state has the same set
widened-set : (from to : Kind) (value : Value) → widens_to from to ≡ true → set_in to value ≤ set_in from value
widened-set from to value widens = by (widens_cases from to widens)
  where
    wide_set : (from to : Kind) → is_wider from to ≡ true → set_in to value ≤ set_in from value
    wide_set (kind.Plain from) (kind.Plain to) wide = omega arith
    wide_set (kind.Plain from) (kind.State function arg) wide = absurd (cc wide)
    wide_set (kind.State function arg) to wide = absurd (cc wide)

    by : (from ≡ to) ⊎ (is_wider from to ≡ true) → set_in to value ≤ set_in from value
    by (inl same) = subst (λ (k : Kind). set_in k value ≤ set_in from value) same (omega arith)
    by (inr wide) = wide_set from to wide

-- the state of no rows has no set
set_none : (function : AggName) (arg : Scalar) (state : AnyAgg) → IsOver function arg state → (function ≡ agg.UniqExact → ⊥) → set_size state ≡ 0
set_none agg.Count arg (Uniq values) over other = absurd over
set_none agg.Sum arg (Uniq values) over other = absurd over
set_none agg.Min arg (Uniq values) over other = absurd over
set_none agg.Max arg (Uniq values) over other = absurd over
set_none agg.UniqExact arg (Uniq values) over other = absurd (other refl)
set_none function arg (Count n) over other = refl
set_none function arg (SumU n) over other = refl
set_none function arg (SumI n) over other = refl
set_none function arg (Least found) over other = refl
set_none function arg (Greatest found) over other = refl

empty_set : (arg : Scalar) → set_size (state_in agg.UniqExact arg (0 ∷ 0 ∷ 0 ∷ 0 ∷ 0 ∷ 0 ∷ 0 ∷ 0 ∷ [])) ≡ 0
unfolding state_bytes
empty_set arg = ap set_size (state_in-spelled agg.UniqExact arg (Uniq []) (All-nil (IsOfScalar arg), tt, omega arith))

default_set : (of : Kind) → set_in of (default_of of) ≡ 0
default_set (kind.Plain plain) = refl
default_set (kind.State agg.UniqExact arg) = empty_set arg
default_set (kind.State agg.Count arg) = set_none agg.Count arg (state_in agg.Count arg _) (state_in-over agg.Count arg _) (λ h. cc h)
default_set (kind.State agg.Sum arg) = set_none agg.Sum arg (state_in agg.Sum arg _) (state_in-over agg.Sum arg _) (λ h. cc h)
default_set (kind.State agg.Min arg) = set_none agg.Min arg (state_in agg.Min arg _) (state_in-over agg.Min arg _) (λ h. cc h)
default_set (kind.State agg.Max arg) = set_none agg.Max arg (state_in agg.Max arg _) (state_in-over agg.Max arg _) (λ h. cc h)

-- the place of a name has the name
place_of-name : (columns : List Column) (name : List ℕ) (place : ℕ) → place_of name (names_in columns) ≡ Some place
    → (column : Column) × (slice_get columns place ≡ Some column) × (column.name ≡ name)
place_of-name columns name place is =
    let names = names_in columns in
    let found = position-Some (λ (other : List ℕ). bytes_eq other name) names place name is in
    let at : slice_get names place ≡ Some (get_or names place name) = slice_get-get_or names place name found.0 in
    let column = slice_get-mapped (λ (column : Column). column.name) columns place (get_or names place name) at in
    (column.0, column.1, column.2 ∙ (bytes_eq-Decides (get_or names place name) name).0 found.1)

-- where no name stands twice, a column stands at the place of its name
place_of-once : (columns : List Column) (place : ℕ) (column : Column) → has_repeat (names_in columns) ≡ false → slice_get columns place ≡ Some column
    → place_of column.name (names_in columns) ≡ Some place
place_of-once [] place column once at = absurd (cc at)
place_of-once (first ∷ columns) zero column once at =
    let same : first ≡ column = cc at in
    let here : bytes_eq first.name column.name ≡ true = (bytes_eq-Decides first.name column.name).1 (ap (λ (c : Column). c.name) same) in
    position-cons (λ (other : List ℕ). bytes_eq other column.name) first.name (names_in columns) ∙ rw here refl
place_of-once (first ∷ columns) (suc place) column once at =
    let parts = or_parts (is_some (place_of first.name (names_in columns))) (has_repeat (names_in columns)) once in
    let behind = place_of-once columns place column parts.1 at in
    position-cons (λ (other : List ℕ). bytes_eq other column.name) first.name (names_in columns) ∙ by (bytes_eq first.name column.name) refl (none_there _ parts.0) behind
  where
    by : (b : Bool) → bytes_eq first.name column.name ≡ b → place_of first.name (names_in columns) ≡ None → place_of column.name (names_in columns) ≡ Some place
        → cond b (Some 0) (option_map suc (place_of column.name (names_in columns))) ≡ Some (suc place)
    by true e none behind =
        let same : first.name ≡ column.name = (bytes_eq-Decides first.name column.name).0 e in
        let none_of : None ≡ Some place = sym none ∙ ap (λ (name : List ℕ). place_of name (names_in columns)) same ∙ behind in
        absurd (cc none_of)
    by false e none behind = ap (option_map suc) behind

negated : (b : Bool) → not b ≡ false → b ≡ true
negated true h = refl
negated false h = cc

list_any-at : (p : Column → Bool) (columns : List Column) (place : ℕ) (column : Column) → list_any p columns ≡ false → slice_get columns place ≡ Some column → p column ≡ false
list_any-at p [] place column none at = absurd (cc at)
list_any-at p (first ∷ columns) zero column none at =
    let same : first ≡ column = cc at in
    subst (λ (c : Column). p c ≡ false) same (or_parts (p first) (list_any p columns) none).0
list_any-at p (first ∷ columns) (suc place) column none at = list_any-at p columns place column (or_parts (p first) (list_any p columns) none).1 at

-- output columns fill those of a target, in which no name stands twice
module _ (target : List Column) (once : has_repeat (names_in target) ≡ false) (columns : List Column) (fit : list_any (λ column. not (fills target column)) columns ≡ false) where
  -- a column widens to the one that it fills
  fills_to : (place : ℕ) (to : Column) (p : ℕ) (from : Column) → slice_get target place ≡ Some to → slice_get columns p ≡ Some from → from.name ≡ to.name → widens_to from.kind to.kind ≡ true
  fills_to place to p from at there named =
      let filled : fills target from ≡ true = negated (fills target from) (list_any-at (λ column. not (fills target column)) columns p from fit there) in
      let stands : place_of from.name (names_in target) ≡ Some place = ap (λ (name : List ℕ). place_of name (names_in target)) named ∙ place_of-once target place to once at in
      let at_place : fills_place target from (Some place) ≡ true = subst (λ (o : Option ℕ). fills_place target from o ≡ true) stands filled in
      rw at at at_place

  abbrev given : List Value → Column → Option ℕ → Value
  given values to found = unwrap_or (option_and_then (slice_get values) found) (default_of to.kind)

  -- the value that goes to a column is of its kind
  given_is : (place : ℕ) (to : Column) (values : List Value) (found : Option ℕ) → slice_get target place ≡ Some to → place_of to.name (names_in columns) ≡ found
      → AllOf IsOf (column_kinds columns) values → IsOf to.kind (given values to found)
  given_is place to values None at e are = default_kind to.kind
  given_is place to values (Some p) at e are =
      let from = place_of-name columns to.name p e in
      let kind_of = λ (column : Column). column.kind in
      let here : slice_get (column_kinds columns) p ≡ Some from.0.kind = slice_get-map kind_of columns p ∙ ap (option_map kind_of) from.1 in
      by from.0.kind here (fills_to place to p from.0 at from.1 from.2)
    where
      by : (of : Kind) → slice_get (column_kinds columns) p ≡ Some of → widens_to of to.kind ≡ true → IsOf to.kind (unwrap_or (slice_get values p) (default_of to.kind))
      by of here widens = inside (slice_get values p) refl
        where
          inside : (o : Option Value) → slice_get values p ≡ o → IsOf to.kind (unwrap_or o (default_of to.kind))
          inside None none = default_kind to.kind
          inside (Some value) found =
              let is : IsOf of (value_at p values) = value_at-of IsOf plain_same (column_kinds columns) values p of are here in
              widened-is of to.kind value widens (subst (IsOf of) (ap (λ (o : Option Value). unwrap_or o (Whole (pos 0))) found) is)

  values_to : (place : ℕ) (rest : List Column) (values : List Value) → ((i : ℕ) (to : Column) → slice_get rest i ≡ Some to → slice_get target (place + i) ≡ Some to)
      → AllOf IsOf (column_kinds columns) values → AllOf IsOf (column_kinds rest) (map (value_to (names_in columns) values) rest)
  values_to place [] values at are = tt
  values_to place (to ∷ rest) values at are = (
    given_is (place + 0) to values (place_of to.name (names_in columns)) (at 0 to refl) refl are,
    values_to (place + 1) rest values (λ i other e. let next : place + suc i ≡ place + 1 + i = omega arith in subst (λ n. slice_get target n ≡ Some other) next (at (suc i) other e)) are,
  )

  put_to-are : (values : List Value) → AllOf IsOf (column_kinds columns) values → AllOf IsOf (column_kinds target) (put_to target (names_in columns) values)
  put_to-are values are = values_to 0 target values (λ i to e. let here : i ≡ 0 + i = omega arith in subst (λ n. slice_get target n ≡ Some to) here e) are

  module _ (most : ℕ) (rows : List (List Value)) (are : All (AllOf IsOf (column_kinds columns)) rows) (within : SetsWithin most (column_kinds columns) rows) where
    given_within : (place : ℕ) (to : Column) (found : Option ℕ) → slice_get target place ≡ Some to → place_of to.name (names_in columns) ≡ found
        → total_of (λ values. set_in to.kind (given values to found)) rows ≤ most
    given_within place to None at e = omega (arith, total_of-none (λ (values : List Value). set_in to.kind (default_of to.kind)) (λ values. default_set to.kind) rows)
    given_within place to (Some p) at e =
        let from = place_of-name columns to.name p e in
        let kind_of = λ (column : Column). column.kind in
        let here : slice_get (column_kinds columns) p ≡ Some from.0.kind = slice_get-map kind_of columns p ∙ ap (option_map kind_of) from.1 in
        let widens = fills_to place to p from.0 at from.1 from.2 in
        omega (
          arith,
          total_of-more (AllOf IsOf (column_kinds columns)) (λ values. set_in to.kind (unwrap_or (slice_get values p) (default_of to.kind))) (λ values. set_in from.0.kind (value_at p values))
              (λ values of. by from.0.kind values widens (slice_get values p) refl) rows are,
          within p from.0.kind here,
        )
      where
        by : (of : Kind) (values : List Value) → widens_to of to.kind ≡ true → (o : Option Value) → slice_get values p ≡ o
            → set_in to.kind (unwrap_or (slice_get values p) (default_of to.kind)) ≤ set_in of (value_at p values)
        by of values widens None e = rw e (omega (arith, default_set to.kind))
        by of values widens (Some value) e = rw e (widened-set of to.kind value widens)

    put_to-within : SetsWithin most (column_kinds target) (map (put_to target (names_in columns)) rows)
    put_to-within place of at =
        let to = slice_get-mapped (λ (column : Column). column.kind) target place of at in
        let names = names_in columns in
        let same : (values : List Value) → value_at place (put_to target names values) ≡ value_to names values to.0 =
        λ values. ap (λ (o : Option Value). unwrap_or o (Whole (pos 0))) (slice_get-map (value_to names values) target place ∙ ap (option_map (value_to names values)) to.1) in
        subst (λ (k : Kind). total_of (λ row. set_in k (value_at place row)) (map (put_to target names) rows) ≤ most) to.2
        (omega (
          arith,
          total_of-map (λ row. set_in to.0.kind (value_at place row)) (put_to target names) rows,
          total_of-same (λ values. set_in to.0.kind (value_at place (put_to target names values))) (λ values. set_in to.0.kind (value_to names values to.0))
              (λ values. ap (set_in to.0.kind) (same values)) rows,
          given_within place to.0 (place_of to.0.name names) to.1 refl,
        ))

-- there are no more rows than there were
pub viewed-length : (query : Asked) (columns : List Column) (rows : List (List Value)) → length (viewed query columns rows) ≤ length rows
viewed-length query columns [] = omega arith
viewed-length query columns (row ∷ rows) =
    omega (
      arith,
      length-mapped (put_to columns (names_in query.columns)) (result_of query (row ∷ rows)),
      result_of-length query (row ∷ rows) (length (row ∷ rows)) (omega arith) (omega arith),
    )

viewed-well : (number : ℕ) (def target : TableDef) (select : Select) (query : Asked) → asked_of number def select ≡ Ok query
    → list_any (λ column. not (fills target.columns column)) query.columns ≡ false → has_repeat (names_in target.columns) ≡ false → All IsApt (kinds_of def)
    → (most : ℕ) → most < 2 ^ 64 → (rows : List (List Value)) → AllAreOf (kinds_of def) rows → length rows ≤ most → SetsWithin most (kinds_of def) rows
    → AllAreOf (kinds_of target) (viewed query target.columns rows) × SetsWithin most (kinds_of target) (viewed query target.columns rows)
viewed-well number def target select query asks fit once apt most few [] are short within = (tt, (λ place of at. omega arith))
viewed-well number def target select query asks fit once apt most few (row ∷ rows) are short within =
    let made = result_of-fits number def select query asks apt most few (row ∷ rows) are short within in
    let result = result_of query (row ∷ rows) in
    let of : All (AllOf IsOf (column_kinds query.columns)) result = AllAreOf-to (column_kinds query.columns) result made.0 in (
      AllAreOf-from (kinds_of target) (map (put_to target.columns (names_in query.columns)) result)
          (All-map (AllOf IsOf (kinds_of target)) (put_to target.columns (names_in query.columns)) result
          (All-weaker (AllOf IsOf (column_kinds query.columns)) (λ values. AllOf IsOf (kinds_of target) (put_to target.columns (names_in query.columns) values))
          (λ values is. put_to-are target.columns once query.columns fit values is) result of)),
      put_to-within target.columns once query.columns fit most result of made.1,
    )

-- rows of a view's source give rows of its target's columns, and no more of them; and their states have no larger sets
pub viewed-fits : (number : ℕ) (def target : TableDef) (select : Select) (query : Asked) → asked_of number def select ≡ Ok query
    → list_any (λ column. not (fills target.columns column)) query.columns ≡ false → has_repeat (names_in target.columns) ≡ false → All IsApt (kinds_of def)
    → (most : ℕ) → most < 2 ^ 64 → (rows : List (List Value)) → AllAreOf (kinds_of def) rows → length rows ≤ most → SetsWithin most (kinds_of def) rows
    → AllAreOf (kinds_of target) (viewed query target.columns rows) × (length (viewed query target.columns rows) ≤ length rows) × SetsWithin most (kinds_of target) (viewed query target.columns rows)
viewed-fits number def target select query asks fit once apt most few rows are short within =
    let well = viewed-well number def target select query asks fit once apt most few rows are short within in
    (well.0, viewed-length query target.columns rows, well.1)

-- rows of small values have no large sets
small_set : (of : Kind) (value : Value) → IsSmall value → set_in of value ≤ 1048576
small_set (kind.Plain plain) value small = omega arith
small_set (kind.State function arg) value small = omega (arith, small, set_size-state_in function arg (bytes value))

small_at : (row : List Value) (place : ℕ) → All IsSmall row → IsSmall (value_at place row)
small_at row place small = by (slice_get row place) refl
  where
    by : (o : Option Value) → slice_get row place ≡ o → IsSmall (unwrap_or o (Whole (pos 0)))
    by None e = omega arith
    by (Some value) e = All-at IsSmall row place value small e

total_of-small : (of : Kind) (place : ℕ) (rows : List (List Value)) → All (All IsSmall) rows → total_of (λ row. set_in of (value_at place row)) rows ≤ 1048576 * length rows
total_of-small of place [] small = omega arith
total_of-small of place (row ∷ rows) small =
    omega (
      arith,
      small_set of (value_at place row) (small_at row place (All-head (All IsSmall) row rows small)),
      total_of-small of place rows (All-tail (All IsSmall) row rows small),
    )

pub SetsWithin-small : (kinds : List Kind) (rows : List (List Value)) → All (All IsSmall) rows → length rows ≤ MAX_ROWS → SetsWithin (2 ^ 40) kinds rows
SetsWithin-small kinds rows small short place of at = omega (arith, short, total_of-small of place rows small)
