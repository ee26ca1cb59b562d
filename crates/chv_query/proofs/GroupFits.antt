-- What a query makes of rows of its table's kinds is of its columns' kinds, and its states have no larger sets.
use Rattle.std.proofs.Common.{◌≡◌, ◌∙◌, ◌+◌, ◌<◌, ◌≤◌, ◌^◌, ◌&&◌, ◌⊎◌, inl, inr, ℕ, zero, suc, Bool, true, false, if◌then◌else◌, List, [], ◌∷◌, ◌++◌, length, get_or, map, take, drop, Option, None, Some, is_some, slice_get, option_map, refl, sym, ap, subst, arith}
use Rattle.std.proofs.lemmas.List.Elements.{All-contains, All-cons, All-filter, All-head, All-map, All-nil, All-tail, All-weaker, Contains-get_or}
use Rattle.std.specs.List.{All, filter}
use Rattle.std.specs.Option.{IfSome, option_and_then, unwrap_or}
use Rattle.chv_agg.proofs.StateFrontLemmas.{state_in-spelled}
use Rattle.chv_agg.specs.Sets.{SetsWithin, set_in, total_of}
use Rattle.chv_agg.specs.StateBytes.{state_bytes}
use Rattle.chv_agg.specs.States.{FitsState, set_size, value_of}
use Rattle.chv_agg.specs.declared.any_agg.AnyAgg.{AnyAgg}
use Rattle.chv_agg.specs.declared.any_agg.AnyAgg.TheVariants.{Count, SumU, SumI, Least, Greatest, Uniq}
use Rattle.chv_block.proofs.DefaultLemmas.{default_kind}
use Rattle.chv_block.specs.Spellings.{AllAreOf, AreOf, IsOf}
use Rattle.chv_catalog.specs.Checks.{is_state}
use Rattle.chv_expr.proofs.FitLemmas.{fits-small}
use Rattle.chv_expr.proofs.TermFits.{AllOf, IsForm, IsTyped, value_at-of}
use Rattle.chv_expr.specs.Terms.{Term, value_at}
use Rattle.chv_group.specs.Groups.{TakesArgument, argument_at, call_state, gives_state, grouped, inputs_of, is_empty, results, row_for, state_value}
use Rattle.chv_group.specs.declared.call.AggCall.{AggCall}
use Rattle.chv_group.specs.declared.call.Keyed.{Keyed}
use Rattle.chv_query.proofs.SetSums.{call_state-fits, call_state-size, input_size, length-mapped, members-length, total_of-filter, total_of-groups, total_of-map, total_of-more, total_of-none, total_of-same}
use Rattle.chv_query.proofs.ShapeTerms.{AllPlaced, term_kinds}
use Rattle.chv_query.specs.Calls.{call_kind}
use Rattle.chv_query.specs.Results.{arranged, outcome, output_row, passes}
use Rattle.chv_query.specs.Results as made_of
use Rattle.chv_query.proofs.TakesLemmas.{some_same}
use Rattle.chv_types.proofs.MemberLemmas.{members-HaveSame, members-Rises}
use Rattle.chv_types.specs.Aggregates.{result_of as kind_over}
use Rattle.chv_types.specs.Fits.{IsOfScalar}
use Rattle.chv_types.specs.Members.{Rises, members}
use Rattle.chv_types.specs.Order.{row_cmp}
use Rattle.chv_types.specs.OrderLaws.{row_cmp-IsAntisymmetric, row_cmp_total}
use Rattle.chv_types.specs.Values.{IsPlain}
use Rattle.chv_types.specs.declared.aggregate.AggName.{AggName}
use Rattle.chv_types.specs.declared.aggregate.AggName.TheVariants as agg
use Rattle.chv_types.specs.declared.kind.Kind.{Kind}
use Rattle.chv_types.specs.declared.kind.Kind.TheVariants as kind
use Rattle.chv_types.specs.declared.kind.Scalar.{Scalar}
use Rattle.chv_types.specs.declared.kind.Scalar.TheVariants as scalar
use Rattle.chv_types.specs.declared.table.Column.{Column}
use Rattle.chv_types.specs.declared.value.Value.{Value}
use Rattle.chv_types.specs.declared.value.Value.TheVariants.{State}

-- states are those of a function that has a result over the values
abbrev pub IsApt : Kind → Type 0
IsApt (kind.Plain plain) = Unit {0}
IsApt (kind.State function arg) = is_some (kind_over function arg) ≡ true

-- the kinds of columns
abbrev pub column_kinds : List Column → List Kind
column_kinds columns = map (λ (column : Column). column.kind) columns

-- rows of kinds, in either word
pub AreOf-from : (kinds : List Kind) (row : List Value) → AllOf IsOf kinds row → AreOf kinds row
AreOf-from [] [] all = tt
AreOf-from [] (value ∷ row) all = absurd all
AreOf-from (of ∷ kinds) [] all = absurd all
AreOf-from (of ∷ kinds) (value ∷ row) all = (all.0, AreOf-from kinds row all.1)

pub AreOf-to : (kinds : List Kind) (row : List Value) → AreOf kinds row → AllOf IsOf kinds row
AreOf-to [] [] all = tt
AreOf-to [] (value ∷ row) all = absurd all
AreOf-to (of ∷ kinds) [] all = absurd all
AreOf-to (of ∷ kinds) (value ∷ row) all = (all.0, AreOf-to kinds row all.1)

pub AllAreOf-from : (kinds : List Kind) (rows : List (List Value)) → All (AllOf IsOf kinds) rows → AllAreOf kinds rows
AllAreOf-from kinds [] all = tt
AllAreOf-from kinds (row ∷ rows) all = (AreOf-from kinds row (All-head (AllOf IsOf kinds) row rows all), AllAreOf-from kinds rows (All-tail (AllOf IsOf kinds) row rows all))

pub AllAreOf-to : (kinds : List Kind) (rows : List (List Value)) → AllAreOf kinds rows → All (AllOf IsOf kinds) rows
AllAreOf-to kinds [] all = All-nil (AllOf IsOf kinds)
AllAreOf-to kinds (row ∷ rows) all = All-cons (AllOf IsOf kinds) row rows (AreOf-to kinds row all.0) (AllAreOf-to kinds rows all.1)

AllOf-append : (kinds more : List Kind) (row rest : List Value) → AllOf IsOf kinds row → AllOf IsOf more rest → AllOf IsOf (kinds ++ more) (row ++ rest)
AllOf-append [] more [] rest all behind = behind
AllOf-append [] more (value ∷ row) rest all behind = absurd all
AllOf-append (of ∷ kinds) more [] rest all behind = absurd all
AllOf-append (of ∷ kinds) more (value ∷ row) rest all behind = (all.0, AllOf-append kinds more row rest all.1 behind)

pub AllOf-take : (keys args : List Term) (values : List Value) → AllOf IsOf (term_kinds (keys ++ args)) values → AllOf IsOf (term_kinds keys) (take (length keys) values)
AllOf-take [] args values all = tt
AllOf-take (key ∷ keys) args [] all = absurd all
AllOf-take (key ∷ keys) args (value ∷ values) all = (all.0, AllOf-take keys args values all.1)

AllOf-length : (keys : List Term) (row : List Value) → AllOf IsOf (term_kinds keys) row → length row ≡ length keys
AllOf-length [] [] all = refl
AllOf-length [] (value ∷ row) all = absurd all
AllOf-length (key ∷ keys) [] all = absurd all
AllOf-length (key ∷ keys) (value ∷ row) all = ap suc (AllOf-length keys row all.1)

pub slice_get-mapped : {A B : Type 0} (f : A → B) (xs : List A) (place : ℕ) (y : B) → slice_get (map f xs) place ≡ Some y → (x : A) × (slice_get xs place ≡ Some x) × (f x ≡ y)
slice_get-mapped f [] place y is = absurd (cc is)
slice_get-mapped f (x ∷ xs) zero y is = (x, refl, cc is)
slice_get-mapped f (x ∷ xs) (suc place) y is = slice_get-mapped f xs place y is

pub set_in-plain : (of : Kind) (value : Value) → IsPlain of → set_in of value ≡ 0
set_in-plain (kind.Plain plain) value is = refl
set_in-plain (kind.State function arg) value is = absurd is

pub plain_apt : (of : Kind) → IsPlain of → IsApt of
plain_apt (kind.Plain plain) is = tt
plain_apt (kind.State function arg) is = absurd is

not_state : (of : Kind) → is_state of ≡ false → IsPlain of
not_state (kind.Plain plain) is = tt
not_state (kind.State function arg) is = absurd (cc is)

-- what is made of a row: nothing, or the values of the terms
abbrev pub AllGive : List Value → List Term → List Value → Type 0
AllGive row [] [] = Unit {0}
AllGive row [] (value ∷ values) = ⊥
AllGive row (term ∷ terms) [] = ⊥
AllGive row (term ∷ terms) (value ∷ values) = (term.value row ≡ Some value) × AllGive row terms values

abbrev IsMade : List Term → List Value → List (List Value) → Type 0
IsMade terms row [] = Unit {0}
IsMade terms row (values ∷ []) = AllGive row terms values
IsMade terms row (values ∷ (more ∷ rows)) = ⊥

gives_first : (row : List Value) (term : Term) (terms : List Term) (first : Option Value) (rest : Option (List Value)) (values : List Value) → term.value row ≡ first
    → ((others : List Value) → rest ≡ Some others → AllGive row terms others)
    → option_and_then (λ value. option_map (λ values. value ∷ values) rest) first ≡ Some values → AllGive row (term ∷ terms) values
gives_first row term terms None rest values e f is = absurd (cc is)
gives_first row term terms (Some value) None values e f is = absurd (cc is)
gives_first row term terms (Some value) (Some others) values e f is =
    let same : value ∷ others ≡ values = cc is in
    subst (AllGive row (term ∷ terms)) same (e, f others refl)

output_row-gives : (row : List Value) (terms : List Term) (values : List Value) → output_row terms row ≡ Some values → AllGive row terms values
output_row-gives row [] values is = subst (AllGive row []) (some_same is) tt
output_row-gives row (term ∷ terms) values is =
    gives_first row term terms (term.value row) (output_row terms row) values refl (λ others e. output_row-gives row terms others e) is

made_of_row : (terms : List Term) (row : List Value) (passed : Option Bool) (values : Option (List Value)) → output_row terms row ≡ values
    → IsMade terms row (unwrap_or (option_and_then (λ passed. if passed then option_map (λ values. values ∷ []) values else Some []) passed) [])
made_of_row terms row None values e = tt
made_of_row terms row (Some false) values e = tt
made_of_row terms row (Some true) None e = tt
made_of_row terms row (Some true) (Some values) e = output_row-gives row terms values e

outcome-made : (condition : Option Term) (terms : List Term) (row : List Value) → IsMade terms row (unwrap_or (outcome condition terms row) [])
unfolding outcome
outcome-made condition terms row = made_of_row terms row (passes condition row) (output_row terms row) refl

pub value_at-gives : (row : List Value) (terms : List Term) (values : List Value) (place : ℕ) (term : Term) → AllGive row terms values → slice_get terms place ≡ Some term
    → term.value row ≡ Some (value_at place values)
value_at-gives row [] values place term gives at = absurd (cc at)
value_at-gives row (first ∷ terms) [] place term gives at = absurd gives
value_at-gives row (first ∷ terms) (value ∷ values) zero term gives at =
    let same : first ≡ term = cc at in
    subst (λ (t : Term). t.value row ≡ Some value) same gives.0
value_at-gives row (first ∷ terms) (value ∷ values) (suc place) term gives at = value_at-gives row terms values place term gives.1 at

pub AllGive-drop : (n : ℕ) (row : List Value) (terms : List Term) (values : List Value) → AllGive row terms values → AllGive row (drop n terms) (drop n values)
AllGive-drop zero row terms values gives = gives
AllGive-drop (suc n) row [] [] gives = tt
AllGive-drop (suc n) row [] (value ∷ values) gives = absurd gives
AllGive-drop (suc n) row (term ∷ terms) [] gives = absurd gives
AllGive-drop (suc n) row (term ∷ terms) (value ∷ values) gives = AllGive-drop n row terms values gives.1

pub AllGive-typed : (kinds : List Kind) (row : List Value) (terms : List Term) (values : List Value) → All (IsTyped IsOf kinds) terms → AllOf IsOf kinds row → AllGive row terms values
    → AllOf IsOf (term_kinds terms) values
AllGive-typed kinds row [] [] typed are gives = tt
AllGive-typed kinds row [] (value ∷ values) typed are gives = absurd gives
AllGive-typed kinds row (term ∷ terms) [] typed are gives = absurd gives
AllGive-typed kinds row (term ∷ terms) (value ∷ values) typed are gives = (
  subst (λ (o : Option Value). IfSome o (IsOf term.kind)) gives.0 (All-head (IsTyped IsOf kinds) term terms typed row are),
  AllGive-typed kinds row terms values (All-tail (IsTyped IsOf kinds) term terms typed) are gives.1,
)

module _ (condition : Option Term) (terms : List Term) where
  -- what is made of rows
  abbrev pub made : List (List Value) → List (List Value)
  made rows = made_of.results (outcome condition terms) rows

  longer : (row : List Value) (one rest : List (List Value)) → IsMade terms row one → length (one ++ rest) ≤ suc (length rest)
  longer row [] rest is = omega arith
  longer row (values ∷ []) rest is = omega arith
  longer row (values ∷ (more ∷ rows)) rest is = absurd is

  pub made-length : (rows : List (List Value)) → length (made rows) ≤ length rows
  made-length [] = omega arith
  made-length (row ∷ rows) = omega (arith, longer row (unwrap_or (outcome condition terms row) []) (made rows) (outcome-made condition terms row), made-length rows)

  all_more : (P : List Value → Type 0) (row : List Value) → ((values : List Value) → AllGive row terms values → P values) → (one rest : List (List Value)) → IsMade terms row one
      → All P rest → All P (one ++ rest)
  all_more P row f [] rest is all = all
  all_more P row f (values ∷ []) rest is all = All-cons P values rest (f values is) all
  all_more P row f (values ∷ (more ∷ rows)) rest is all = absurd is

  pub made-all : (R P : List Value → Type 0) → ((row values : List Value) → R row → AllGive row terms values → P values) → (rows : List (List Value)) → All R rows → All P (made rows)
  made-all R P f [] all = All-nil P
  made-all R P f (row ∷ rows) all =
      all_more P row (λ values gives. f row values (All-head R row rows all) gives) (unwrap_or (outcome condition terms row) []) (made rows) (outcome-made condition terms row)
      (made-all R P f rows (All-tail R row rows all))

  total_more : (f : List Value → ℕ) (n : ℕ) (row : List Value) → ((values : List Value) → AllGive row terms values → f values ≤ n) → (one rest : List (List Value)) → IsMade terms row one
      → total_of f (one ++ rest) ≤ n + total_of f rest
  total_more f n row less [] rest is = omega arith
  total_more f n row less (values ∷ []) rest is = omega (arith, less values is)
  total_more f n row less (values ∷ (more ∷ rows)) rest is = absurd is

  made-total : (f g : List Value → ℕ) → ((row values : List Value) → AllGive row terms values → f values ≤ g row) → (rows : List (List Value)) → total_of f (made rows) ≤ total_of g rows
  made-total f g less [] = omega arith
  made-total f g less (row ∷ rows) =
      omega (arith, total_more f (g row) row (λ values gives. less row values gives) (unwrap_or (outcome condition terms row) []) (made rows) (outcome-made condition terms row), made-total f g less rows)

  -- the states of a term have no larger sets than those of a column
  pub state-total : (kinds : List Kind) (n place : ℕ) (term : Term) (most : ℕ) → slice_get (drop n terms) place ≡ Some term → IsForm kinds term → (rows : List (List Value)) → SetsWithin most kinds rows
      → total_of (λ values. set_in term.kind (value_at place (drop n values))) (made rows) ≤ most
  state-total kinds n place term most at (inl plain) rows within =
      omega (arith, total_of-none (λ (values : List Value). set_in term.kind (value_at place (drop n values))) (λ values. set_in-plain term.kind (value_at place (drop n values)) plain) (made rows))
  state-total kinds n place term most at (inr column) rows within =
      let same : (row values : List Value) → AllGive row terms values → set_in term.kind (value_at place (drop n values)) ≤ set_in term.kind (value_at column.0 row) =
      λ row values gives.
      let e : value_at place (drop n values) ≡ value_at column.0 row =
      some_same (sym (value_at-gives row (drop n terms) (drop n values) place term (AllGive-drop n row terms values gives) at) ∙ column.2 row) in
      omega (arith, ap (set_in term.kind) e) in
      omega (arith, made-total (λ values. set_in term.kind (value_at place (drop n values))) (λ row. set_in term.kind (value_at column.0 row)) same rows, within column.0 term.kind column.1)

-- what a call gives
sum_is : (arg : Scalar) (state : AnyAgg) → is_some (kind_over agg.Sum arg) ≡ true → FitsState agg.Sum arg state → IsOfScalar (unwrap_or (kind_over agg.Sum arg) arg) (value_of arg state)
sum_is scalar.UInt8 (SumU n) some fits = fits-small n fits.1
sum_is scalar.UInt8 (SumI n) some fits = absurd (cc fits.0)
sum_is scalar.UInt16 (SumU n) some fits = fits-small n fits.1
sum_is scalar.UInt16 (SumI n) some fits = absurd (cc fits.0)
sum_is scalar.UInt32 (SumU n) some fits = fits-small n fits.1
sum_is scalar.UInt32 (SumI n) some fits = absurd (cc fits.0)
sum_is scalar.UInt64 (SumU n) some fits = fits-small n fits.1
sum_is scalar.UInt64 (SumI n) some fits = absurd (cc fits.0)
sum_is scalar.Int8 (SumU n) some fits = absurd (cc fits.0)
sum_is scalar.Int8 (SumI n) some fits = (fits.1, fits.2)
sum_is scalar.Int16 (SumU n) some fits = absurd (cc fits.0)
sum_is scalar.Int16 (SumI n) some fits = (fits.1, fits.2)
sum_is scalar.Int32 (SumU n) some fits = absurd (cc fits.0)
sum_is scalar.Int32 (SumI n) some fits = (fits.1, fits.2)
sum_is scalar.Int64 (SumU n) some fits = absurd (cc fits.0)
sum_is scalar.Int64 (SumI n) some fits = (fits.1, fits.2)
sum_is scalar.Bool state some fits = absurd (cc some)
sum_is scalar.Text state some fits = absurd (cc some)
sum_is arg state some fits = absurd fits

value_is : (function : AggName) (arg : Scalar) (state : AnyAgg) → is_some (kind_over function arg) ≡ true → FitsState function arg state
    → IsOfScalar (unwrap_or (kind_over function arg) arg) (value_of arg state)
value_is agg.Count scalar.UInt64 (Count n) some fits = fits-small n fits
value_is agg.Count scalar.UInt64 state some fits = absurd fits
value_is agg.Count other state some fits = absurd (cc some)
value_is agg.Sum arg state some fits = sum_is arg state some fits
value_is agg.Min arg (Least None) some fits = default_kind (kind.Plain arg)
value_is agg.Min arg (Least (Some value)) some fits = fits
value_is agg.Min arg state some fits = absurd fits
value_is agg.Max arg (Greatest None) some fits = default_kind (kind.Plain arg)
value_is agg.Max arg (Greatest (Some value)) some fits = fits
value_is agg.Max arg state some fits = absurd fits
value_is agg.UniqExact arg (Uniq values) some fits = fits-small (length values) fits.2
value_is agg.UniqExact arg state some fits = absurd fits

state_value-is : (call : AggCall) (state : AnyAgg) → is_some (kind_over call.agg call.arg) ≡ true → FitsState call.agg call.arg state → IsOf (call_kind call) (state_value call state)
state_value-is call state some fits = by (gives_state call.form)
  where
    by : (gives : Bool)
        → IsOf (if gives then kind.State call.agg call.arg else kind.Plain (unwrap_or (kind_over call.agg call.arg) call.arg)) (if gives then State (state_bytes call.arg state) else value_of call.arg state)
    by true = record { state = state; fits = fits; spelled = refl }
    by false = value_is call.agg call.arg state some fits

state_value-size : (call : AggCall) (state : AnyAgg) → FitsState call.agg call.arg state → set_in (call_kind call) (state_value call state) ≤ set_size state
state_value-size call state fits = by (gives_state call.form)
  where
    by : (gives : Bool)
        → set_in (if gives then kind.State call.agg call.arg else kind.Plain (unwrap_or (kind_over call.agg call.arg) call.arg)) (if gives then State (state_bytes call.arg state) else value_of call.arg state)
        ≤ set_size state
    by true = omega (arith, ap set_size (state_in-spelled call.agg call.arg state fits))
    by false = omega arith

-- calls take the arguments at their places, and have a result; the states have few values together
module _ (most : ℕ) (few : most < 2 ^ 64) where
  abbrev pub size_at : AggCall → ℕ → Keyed → ℕ
  size_at call place input = input_size call (argument_at place input)

  pub record IsFedAt (call : AggCall) (place : ℕ) (inputs : List Keyed) : Type 0 where
    pub takes : All (λ (input : Keyed). TakesArgument call (argument_at place input)) inputs
    pub size : total_of (size_at call place) inputs ≤ most
    pub some : is_some (kind_over call.agg call.arg) ≡ true

  abbrev pub AllFedAt : ℕ → List AggCall → List Keyed → Type 0
  AllFedAt place [] inputs = Unit {0}
  AllFedAt place (call ∷ calls) inputs = IsFedAt call place inputs × AllFedAt (place + 1) calls inputs

  AllFedAt-filter : (p : Keyed → Bool) (place : ℕ) (calls : List AggCall) (inputs : List Keyed) → AllFedAt place calls inputs → AllFedAt place calls (filter p inputs)
  AllFedAt-filter p place [] inputs fed = tt
  AllFedAt-filter p place (call ∷ calls) inputs fed = (
    record {
      takes = All-filter p (λ (input : Keyed). TakesArgument call (argument_at place input)) inputs fed.0.takes;
      size = omega (arith, total_of-filter p (size_at call place) inputs, fed.0.size);
      some = fed.0.some;
    },
    AllFedAt-filter p (place + 1) calls inputs fed.1,
  )

  AllFedAt-none : (place : ℕ) (calls : List AggCall) (inputs : List Keyed) → AllFedAt place calls inputs → AllFedAt place calls []
  AllFedAt-none place [] inputs fed = tt
  AllFedAt-none place (call ∷ calls) inputs fed = (
    record { takes = All-nil (λ (input : Keyed). TakesArgument call (argument_at place input)); size = omega arith; some = fed.0.some },
    AllFedAt-none (place + 1) calls inputs fed.1,
  )

  fits_at : (call : AggCall) (place : ℕ) (inputs : List Keyed) → IsFedAt call place inputs → FitsState call.agg call.arg (call_state call (map (argument_at place) inputs))
  fits_at call place inputs fed =
      call_state-fits call (map (argument_at place) inputs) (All-map (TakesArgument call) (argument_at place) inputs fed.takes)
      (omega (arith, few, fed.size, total_of-map (input_size call) (argument_at place) inputs))

  results-are : (place : ℕ) (calls : List AggCall) (inputs : List Keyed) → AllFedAt place calls inputs → AllOf IsOf (map call_kind calls) (results place calls inputs)
  results-are place [] inputs fed = tt
  results-are place (call ∷ calls) inputs fed =
      (state_value-is call (call_state call (map (argument_at place) inputs)) fed.0.some (fits_at call place inputs fed.0), results-are (place + 1) calls inputs fed.1)

  result-size : (place : ℕ) (calls : List AggCall) (inputs : List Keyed) (i : ℕ) (call : AggCall) → AllFedAt place calls inputs → slice_get calls i ≡ Some call
      → set_in (call_kind call) (value_at i (results place calls inputs)) ≤ total_of (size_at call (place + i)) inputs
  result-size place [] inputs i call fed at = absurd (cc at)
  result-size place (first ∷ calls) inputs zero call fed at =
      let same : first ≡ call = cc at in
      let here : place ≡ place + 0 = omega arith in
      let state = call_state first (map (argument_at place) inputs) in
      let less : set_in (call_kind first) (state_value first state) ≤ total_of (size_at first place) inputs =
      omega (arith, state_value-size first state (fits_at first place inputs fed.0), call_state-size first (map (argument_at place) inputs), total_of-map (input_size first) (argument_at place) inputs) in
      subst (λ (c : AggCall). set_in (call_kind c) (state_value first state) ≤ total_of (size_at c (place + 0)) inputs) same
      (subst (λ (n : ℕ). set_in (call_kind first) (state_value first state) ≤ total_of (size_at first n) inputs) here less)
  result-size place (first ∷ calls) inputs (suc i) call fed at =
      let next : place + 1 + i ≡ place + suc i = omega arith in
      subst (λ (n : ℕ). set_in (call_kind call) (value_at i (results (place + 1) calls inputs)) ≤ total_of (size_at call n) inputs) next (result-size (place + 1) calls inputs i call fed.1 at)

  size-all : (place : ℕ) (calls : List AggCall) (inputs : List Keyed) (i : ℕ) (call : AggCall) → AllFedAt place calls inputs → slice_get calls i ≡ Some call
      → total_of (size_at call (place + i)) inputs ≤ most
  size-all place [] inputs i call fed at = absurd (cc at)
  size-all place (first ∷ calls) inputs zero call fed at =
      let same : first ≡ call = cc at in
      let here : place ≡ place + 0 = omega arith in
      subst (λ (c : AggCall). total_of (size_at c (place + 0)) inputs ≤ most) same (subst (λ (n : ℕ). total_of (size_at first n) inputs ≤ most) here fed.0.size)
  size-all place (first ∷ calls) inputs (suc i) call fed at =
      let next : place + 1 + i ≡ place + suc i = omega arith in
      subst (λ (n : ℕ). total_of (size_at call n) inputs ≤ most) next (size-all (place + 1) calls inputs i call fed.1 at)

  -- a place is that of a key, or of what a call gives
  place_is : (keys : List Term) (calls : List AggCall) (place : ℕ) (of : Kind) → All (λ (term : Term). is_state term.kind ≡ false) keys
      → slice_get (term_kinds keys ++ map call_kind calls) place ≡ Some of
      → IsPlain of ⊎ ((i : ℕ) × (call : AggCall) × (slice_get calls i ≡ Some call) × (call_kind call ≡ of) × (place ≡ length keys + i))
  place_is [] calls place of plain at = let found = slice_get-mapped call_kind calls place of at in inr (place, found.0, found.1, found.2, omega arith)
  place_is (key ∷ keys) calls zero of plain at =
      let same : key.kind ≡ of = cc at in
      inl (subst IsPlain same (not_state key.kind (All-head (λ (term : Term). is_state term.kind ≡ false) key keys plain)))
  place_is (key ∷ keys) calls (suc place) of plain at =
      behind (place_is keys calls place of (All-tail (λ (term : Term). is_state term.kind ≡ false) key keys plain) at)
    where
      behind : IsPlain of ⊎ ((i : ℕ) × (call : AggCall) × (slice_get calls i ≡ Some call) × (call_kind call ≡ of) × (place ≡ length keys + i))
          → IsPlain of ⊎ ((i : ℕ) × (call : AggCall) × (slice_get calls i ≡ Some call) × (call_kind call ≡ of) × (suc place ≡ length (key ∷ keys) + i))
      behind (inl plain) = inl plain
      behind (inr found) = inr (found.0, found.1, found.2, found.3, omega (arith, found.4))

  value_at-behind : (row rest : List Value) (n i : ℕ) → length row ≡ n → value_at (n + i) (row ++ rest) ≡ value_at i rest
  value_at-behind [] rest n i long = let same : n + i ≡ i = omega (arith, long) in ap (λ (k : ℕ). value_at k rest) same
  value_at-behind (value ∷ row) rest n i long =
      let same : n + i ≡ suc (length row + i) = omega (arith, long) in
      ap (λ (k : ℕ). value_at k (value ∷ (row ++ rest))) same ∙ value_at-behind row rest (length row) i refl

  -- the rows of groups
  module _ (keys : List Term) (calls : List AggCall) (inputs : List Keyed) (plain : All (λ (term : Term). is_state term.kind ≡ false) keys) (fed : AllFedAt 0 calls inputs)
      (found : List (List Value)) (of : All (AllOf IsOf (term_kinds keys)) found) (rise : Rises row_cmp found) where
    abbrev laid : List Kind
    laid = term_kinds keys ++ map call_kind calls

    fed_of : (key : List Value) → AllFedAt 0 calls (inputs_of key inputs)
    fed_of key = AllFedAt-filter _ 0 calls inputs fed

    rows-are : All (AllOf IsOf laid) (map (row_for calls inputs) found)
    rows-are =
        All-map (AllOf IsOf laid) (row_for calls inputs) found
        (All-weaker (AllOf IsOf (term_kinds keys)) (λ key. AllOf IsOf laid (row_for calls inputs key))
        (λ key is. AllOf-append (term_kinds keys) (map call_kind calls) key (results 0 calls (inputs_of key inputs)) is (results-are 0 calls (inputs_of key inputs) (fed_of key))) found of)

    within_place : (place : ℕ) (k : Kind) → IsPlain k ⊎ ((i : ℕ) × (call : AggCall) × (slice_get calls i ≡ Some call) × (call_kind call ≡ k) × (place ≡ length keys + i))
        → total_of (λ row. set_in k (value_at place row)) (map (row_for calls inputs) found) ≤ most
    within_place place k (inl none) =
        omega (arith, total_of-none (λ row. set_in k (value_at place row)) (λ row. set_in-plain k (value_at place row) none) (map (row_for calls inputs) found))
    within_place place k (inr at) =
        let i = at.0 in
        let call = at.1 in
        let f : Keyed → ℕ = size_at call (0 + i) in
        let each : (key : List Value) → AllOf IsOf (term_kinds keys) key → set_in k (value_at place (row_for calls inputs key)) ≤ total_of f (inputs_of key inputs) =
        λ key is.
        let rest = results 0 calls (inputs_of key inputs) in
        let here : value_at place (key ++ rest) ≡ value_at i rest =
        ap (λ (n : ℕ). value_at n (key ++ rest)) at.4 ∙ value_at-behind key rest (length keys) i (AllOf-length keys key is) in
        let less = result-size 0 calls (inputs_of key inputs) i call (fed_of key) at.2 in
        subst (λ (j : Kind). set_in j (value_at place (key ++ rest)) ≤ total_of f (inputs_of key inputs)) at.3 (omega (arith, less, ap (set_in (call_kind call)) here)) in
        omega (
          arith,
          total_of-map (λ row. set_in k (value_at place row)) (row_for calls inputs) found,
          total_of-more (AllOf IsOf (term_kinds keys)) (λ key. set_in k (value_at place (row_for calls inputs key))) (λ key. total_of f (inputs_of key inputs)) each found of,
          total_of-groups f found inputs rise,
          size-all 0 calls inputs i call fed at.2,
        )

    rows-within : SetsWithin most laid (map (row_for calls inputs) found)
    rows-within place k at = within_place place k (place_is keys calls place k plain at)

  -- output columns show values at places
  arranged-are : (kinds : List Kind) (places : List ℕ) (columns : List Column) (row : List Value) → AllPlaced kinds places columns → AllOf IsOf kinds row
      → AllOf IsOf (column_kinds columns) (arranged places row)
  arranged-are kinds [] [] row placed are = tt
  arranged-are kinds [] (column ∷ columns) row placed are = absurd placed
  arranged-are kinds (place ∷ places) [] row placed are = absurd placed
  arranged-are kinds (place ∷ places) (column ∷ columns) row placed are =
      (value_at-of IsOf (λ of value. ((λ h. h), (λ h. h))) kinds row place column.kind are placed.0, arranged-are kinds places columns row placed.1 are)

  arranged-at : (kinds : List Kind) (places : List ℕ) (columns : List Column) (q : ℕ) (of : Kind) → AllPlaced kinds places columns → slice_get (column_kinds columns) q ≡ Some of
      → (place : ℕ) × (slice_get kinds place ≡ Some of) × ((row : List Value) → value_at q (arranged places row) ≡ value_at place row)
  arranged-at kinds [] [] q of placed at = absurd (cc at)
  arranged-at kinds [] (column ∷ columns) q of placed at = absurd placed
  arranged-at kinds (place ∷ places) [] q of placed at = absurd placed
  arranged-at kinds (place ∷ places) (column ∷ columns) zero of placed at = (place, placed.0 ∙ at, λ row. refl)
  arranged-at kinds (place ∷ places) (column ∷ columns) (suc q) of placed at = arranged-at kinds places columns q of placed.1 at

  -- rows of kinds, whose states have few values
  abbrev pub IsWell : List Kind → List (List Value) → Type 0
  IsWell kinds rows = All (AllOf IsOf kinds) rows × SetsWithin most kinds rows

  pub arranged-well : (kinds : List Kind) (places : List ℕ) (columns : List Column) (rows : List (List Value)) → AllPlaced kinds places columns → IsWell kinds rows
      → IsWell (column_kinds columns) (map (arranged places) rows)
  arranged-well kinds places columns rows placed well = (
    All-map (AllOf IsOf (column_kinds columns)) (arranged places) rows
        (All-weaker (AllOf IsOf kinds) (λ row. AllOf IsOf (column_kinds columns) (arranged places row)) (λ row are. arranged-are kinds places columns row placed are) rows well.0),
    (λ q of at.
        let found = arranged-at kinds places columns q of placed at in
        omega (
          arith,
          total_of-map (λ row. set_in of (value_at q row)) (arranged places) rows,
          total_of-same (λ row. set_in of (value_at q (arranged places row))) (λ row. set_in of (value_at found.0 row)) (λ row. ap (set_in of) (found.2 row)) rows,
          well.1 found.0 of found.1,
        )),
  )

  -- groups, of which one is always there where there are no keys
  members_all : (P : List Value → Type 0) (keys : List (List Value)) → All P keys → All P (members row_cmp keys)
  members_all P keys all k d within =
      All-contains P keys (get_or (members row_cmp keys) k d) all
      ((members-HaveSame row_cmp row_cmp_total row_cmp-IsAntisymmetric keys (get_or (members row_cmp keys) k d)).1
      (Contains-get_or (members row_cmp keys) k d within))

  both_true : (a b : Bool) → (a && b) ≡ true → (a ≡ true) × (b ≡ true)
  both_true true b h = (refl, h)
  both_true false b h = cc

  empty : {A : Type 0} (xs : List A) → is_empty xs ≡ true → xs ≡ []
  empty [] h = refl
  empty (x ∷ xs) h = absurd (cc h)

  module _ (keys : List Term) (calls : List AggCall) (inputs : List Keyed) (always : Bool) (plain : All (λ (term : Term). is_state term.kind ≡ false) keys) (fed : AllFedAt 0 calls inputs)
      (of : All (AllOf IsOf (term_kinds keys)) (map (λ (input : Keyed). input.key) inputs)) (none : always ≡ true → keys ≡ []) where
    abbrev all_keys : List (List Value)
    all_keys = members row_cmp (map (λ (input : Keyed). input.key) inputs)

    either : (one : Bool) → (always && is_empty inputs) ≡ one
        → IsWell (term_kinds keys ++ map call_kind calls) (if one then row_for calls [] [] ∷ [] else map (row_for calls inputs) all_keys)
    either true e =
        let both = both_true always (is_empty inputs) e in
        let no_keys : AllOf IsOf (term_kinds keys) [] = subst (λ (ks : List Term). AllOf IsOf (term_kinds ks) []) (sym (none both.0)) tt in
        let one : All (AllOf IsOf (term_kinds keys)) ([] ∷ []) = All-cons (AllOf IsOf (term_kinds keys)) [] [] no_keys (All-nil (AllOf IsOf (term_kinds keys))) in
        let alone : Rises row_cmp ([] ∷ []) = (All-nil _, tt) in
        let no_inputs : AllFedAt 0 calls [] = AllFedAt-none 0 calls inputs fed in
        (rows-are keys calls [] plain no_inputs ([] ∷ []) one alone, rows-within keys calls [] plain no_inputs ([] ∷ []) one alone)
    either false e =
        let each = members_all (AllOf IsOf (term_kinds keys)) (map (λ (input : Keyed). input.key) inputs) of in
        let up = members-Rises row_cmp row_cmp_total row_cmp-IsAntisymmetric (map (λ (input : Keyed). input.key) inputs) in
        (rows-are keys calls inputs plain fed all_keys each up, rows-within keys calls inputs plain fed all_keys each up)

    pub grouped-well : IsWell (term_kinds keys ++ map call_kind calls) (grouped calls inputs always)
    unfolding grouped
    grouped-well = either (always && is_empty inputs) refl

-- there are no more groups than inputs, but for the one that is always there
module _ (calls : List AggCall) (inputs : List Keyed) where
  count : (one : Bool) (n : ℕ) → 1 ≤ n → length inputs ≤ n
      → length (if one then row_for calls [] [] ∷ [] else map (row_for calls inputs) (members row_cmp (map (λ (input : Keyed). input.key) inputs))) ≤ n
  count true n some short = omega (arith, some)
  count false n some short =
      omega (
        arith,
        short,
        length-mapped (row_for calls inputs) (members row_cmp (map (λ (input : Keyed). input.key) inputs)),
        members-length row_cmp (map (λ (input : Keyed). input.key) inputs),
        length-mapped (λ (input : Keyed). input.key) inputs,
      )

  pub grouped-length : (always : Bool) (n : ℕ) → 1 ≤ n → length inputs ≤ n → length (grouped calls inputs always) ≤ n
  unfolding grouped
  grouped-length always n some short = count (always && is_empty inputs) n some short
