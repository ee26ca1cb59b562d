-- Sets that bytes spell whole, however many values they have.
use Rattle.std.proofs.Common.{◌≡◌, ℕ, zero, suc, ◌≤◌, List, [], ◌∷◌, ◌++◌, length, drop, Bool, true, ◌&&◌, if◌then◌else◌, Option, Some, None, Less, refl, ap, ap₂, subst, ◌∙◌, arith, length-append}
use Rattle.std.proofs.lemmas.List.Elements.{All-nil, All-cons, All-head, All-tail}
use Rattle.std.proofs.lemmas.Option.{none-some, same_Some}
use Rattle.std.proofs.lemmas.Slice.Eq.{bytes_eq-Decides}
use Rattle.std.specs.Int.{to_le_bytes, w64}
use Rattle.std.specs.List.{All}
use Rattle.std.specs.Option.{option_map, option_and_then}
use Rattle.std.specs.Ordering.{is_lt}
use Rattle.std.specs.Str.{bytes_eq}
use Rattle.chv_agg.proofs.FrontLemmas.{and_parts, and_true, if_Some, map_Some, scalar_in-append, scalar_in-Some, then_Some}
use Rattle.chv_agg.proofs.ReadingLemmas.{some_bytes, some_bytes_each}
use Rattle.chv_agg.proofs.SetLemmas.{is_lt-Less, Rises-front}
use Rattle.chv_agg.specs.Plain.{scalar_spelling, values_spelling}
use Rattle.chv_agg.specs.StateBytes.{rises, scalar_in, set_bytes, state_bytes, values_up_to, whole_set}
use Rattle.chv_agg.specs.States.{IsOver}
use Rattle.chv_agg.specs.declared.any_agg.AnyAgg.{AnyAgg}
use Rattle.chv_agg.specs.declared.any_agg.AnyAgg.TheVariants.{Uniq}
use Rattle.chv_types.specs.Fits.{IsOfScalar}
use Rattle.chv_types.specs.Members.{Rises}
use Rattle.chv_types.specs.Order.{value_cmp}
use Rattle.chv_types.specs.declared.aggregate.AggName.{AggName}
use Rattle.chv_types.specs.declared.aggregate.AggName.TheVariants as agg
use Rattle.chv_types.specs.declared.kind.Scalar.{Scalar}
use Rattle.chv_types.specs.declared.value.Value.{Value}

-- a list that tests as one that rises does so
pub Rises-tested : (values : List Value) → rises values ≡ true → Rises value_cmp values
Rises-tested [] h = tt
Rises-tested (value ∷ []) h = (All-nil (λ w. value_cmp value w ≡ Less), tt)
Rises-tested (value ∷ (next ∷ values)) h =
    let e = and_parts (is_lt (value_cmp value next)) (rises (next ∷ values)) h in
    Rises-front value next values (is_lt-Less (value_cmp value next) e.0) (Rises-tested (next ∷ values) e.1)

-- a list that rises tests as one that does
pub tests_rising : (values : List Value) → Rises value_cmp values → rises values ≡ true
tests_rising [] h = refl
tests_rising (value ∷ []) h = refl
tests_rising (value ∷ (next ∷ values)) h =
    let below : is_lt (value_cmp value next) ≡ true = ap is_lt (All-head (λ w. value_cmp value w ≡ Less) next values h.0) in
    ap₂ (λ (x y : Bool). x && y) below (tests_rising (next ∷ values) h.1)

-- a first value, and those that are read behind it
abbrev behind_first : ℕ → Scalar → Value × List ℕ → Option (List Value)
behind_first most arg first = option_map (λ (rest : List Value). first.0 ∷ rest) (values_up_to most arg first.1)

-- where there are bytes, a value is read
one_more : (most : ℕ) (arg : Scalar) (bytes : List ℕ) → 1 ≤ length bytes → values_up_to (suc most) arg bytes ≡ option_and_then (behind_first most arg) (scalar_in arg bytes)
one_more most arg [] some = absurd (omega (arith, some))
one_more most arg (byte ∷ bytes) some = refl

-- values of a kind read back
values_up_to-spelled : (arg : Scalar) (values : List Value) (most : ℕ) → length values ≤ most → All (IsOfScalar arg) values → values_up_to most arg (values_spelling arg values) ≡ Some values
values_up_to-spelled arg [] zero few of = refl
values_up_to-spelled arg [] (suc most) few of = refl
values_up_to-spelled arg (v ∷ values) zero few of = absurd (omega (arith, few))
values_up_to-spelled arg (v ∷ values) (suc most) few of =
    let first : IsOfScalar arg v = All-head (IsOfScalar arg) v values of in
    let some : 1 ≤ length (values_spelling arg (v ∷ values)) = omega (arith, some_bytes arg v first, length-append (scalar_spelling arg v) (values_spelling arg values)) in
    one_more most arg (values_spelling arg (v ∷ values)) some
    ∙ ap (option_and_then (behind_first most arg)) (scalar_in-append arg v (values_spelling arg values) first)
    ∙ ap (option_map (λ (rest : List Value). v ∷ rest)) (values_up_to-spelled arg values most (omega (arith, few)) (All-tail (IsOfScalar arg) v values of))

-- bytes spell values of a kind
abbrev AreSpelled : Scalar → List ℕ → List Value → Type 0
AreSpelled arg bytes values = All (IsOfScalar arg) values × (bytes ≡ values_spelling arg values)

-- what is read is of the kind, and the bytes spell it
values_up_to-Some : (most : ℕ) (arg : Scalar) (bytes : List ℕ) (values : List Value) → values_up_to most arg bytes ≡ Some values → AreSpelled arg bytes values
values_up_to-Some zero arg [] values h = subst (AreSpelled arg []) (same_Some [] values h) (All-nil (IsOfScalar arg), refl)
values_up_to-Some (suc most) arg [] values h = subst (AreSpelled arg []) (same_Some [] values h) (All-nil (IsOfScalar arg), refl)
values_up_to-Some zero arg (byte ∷ bytes) values h = absurd (none-some values h)
values_up_to-Some (suc most) arg (byte ∷ bytes) values h =
    let e = then_Some (behind_first most arg) (scalar_in arg (byte ∷ bytes)) values h in
    let first = scalar_in-Some arg (byte ∷ bytes) e.0 e.1 in
    let v : Value = (e.0).0 in
    let others = map_Some (λ (rest : List Value). v ∷ rest) (values_up_to most arg (e.0).1) values e.2 in
    let rest = values_up_to-Some most arg (e.0).1 others.0 others.1 in
    subst (AreSpelled arg (byte ∷ bytes)) others.2
    (All-cons (IsOfScalar arg) v others.0 first.0 rest.0, first.1 ∙ ap (λ (l : List ℕ). scalar_spelling arg v ++ l) rest.1)

-- values that were read, as a set that bytes spell
abbrev set_of : Scalar → List ℕ → List Value → Option AnyAgg
set_of arg bytes values = if rises values && bytes_eq bytes (set_bytes arg values) then Some (Uniq values) else None

-- a set reads back, however many values it has
pub whole_set-spelled : (arg : Scalar) (values : List Value) → All (IsOfScalar arg) values → Rises value_cmp values → whole_set arg (set_bytes arg values) ≡ Some (Uniq values)
whole_set-spelled arg values of rise =
    let bytes : List ℕ = set_bytes arg values in
    let few : length values ≤ length bytes = omega (arith, some_bytes_each arg values of, length-append (to_le_bytes w64 (length values)) (values_spelling arg values)) in
    ap (option_and_then (set_of arg bytes)) (values_up_to-spelled arg values (length bytes) few of)
    ∙ ap (λ (test : Bool). if test then Some (Uniq values) else None)
    (and_true (rises values) (bytes_eq bytes bytes) (tests_rising values rise) ((bytes_eq-Decides bytes bytes).1 refl))

-- a state of the function over values of the kind is spelled by bytes
abbrev pub IsSpelled : AggName → Scalar → List ℕ → AnyAgg → Type 0
IsSpelled function arg bytes state = IsOver function arg state × (bytes ≡ state_bytes arg state)

-- what is read as a set is spelled by the bytes
pub whole_set-Some : (arg : Scalar) (bytes : List ℕ) (state : AnyAgg) → whole_set arg bytes ≡ Some state → IsSpelled agg.UniqExact arg bytes state
unfolding state_bytes
whole_set-Some arg bytes state h =
    let e = then_Some (set_of arg bytes) (values_up_to (length bytes) arg (drop 8 bytes)) state h in
    let tested = if_Some (rises e.0 && bytes_eq bytes (set_bytes arg e.0)) (Uniq e.0) state e.2 in
    let tests = and_parts (rises e.0) (bytes_eq bytes (set_bytes arg e.0)) tested.0 in
    let values = values_up_to-Some (length bytes) arg (drop 8 bytes) e.0 e.1 in
    subst (IsSpelled agg.UniqExact arg bytes) tested.1
    ((values.0, Rises-tested e.0 tests.0), (bytes_eq-Decides bytes (set_bytes arg e.0)).0 tests.1)
