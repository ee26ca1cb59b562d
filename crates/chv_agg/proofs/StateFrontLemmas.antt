-- A state in bytes reads back, and nothing else is read.
use Rattle.std.proofs.Common.{◌≡◌, ℕ, ℤ, pos, zero, suc, ◌^◌, ◌<◌, ◌≤◌, List, [], ◌∷◌, ◌++◌, length, Bool, true, false, if◌then◌else◌, Option, Some, None, refl, sym, ap, ap₂, subst, ◌∙◌, ◌⊎◌, inl, inr, arith, append_assoc, append-nil}
use Rattle.std.proofs.lemmas.Int.{ints}
use Rattle.std.proofs.lemmas.List.Elements.{All-nil}
use Rattle.std.proofs.lemmas.Option.{none-some, same_Some, some_pair_parts}
use Rattle.std.specs.Int.{to_le_bytes, w64}
use Rattle.std.specs.Option.{option_map, option_and_then, unwrap_or}
use Rattle.byteorder.specs.Endian.{little_number}
use Rattle.byteorder.specs.Numbers.{little_from-lt}
use Rattle.chv_bytes.specs.Integers.{InRange, int_bytes, int_value, number_for}
use Rattle.chv_bytes.specs.declared.integer.IntKind.TheVariants.{I64}
use Rattle.chv_bytes.proofs.IntegerLemmas.{integer_reads_back}
use Rattle.chv_bytes.proofs.NumberLemmas.{bytes_of_whole}
use Rattle.chv_types.specs.Fits.{IsOfScalar}
use Rattle.chv_types.specs.declared.aggregate.AggName.{AggName}
use Rattle.chv_types.specs.declared.aggregate.AggName.TheVariants as agg
use Rattle.chv_types.specs.declared.kind.Scalar.{Scalar}
use Rattle.chv_types.specs.declared.value.Value.{Value}
use Rattle.chv_agg.specs.Plain.{values_spelling}
use Rattle.chv_agg.specs.StateBytes.{found_bytes, found_in, rises, scalar_in, state_bytes, state_front, join_bytes, state_in, sum_in, uniq_in, values_in, whole_set, whole_state, word_of}
use Rattle.chv_agg.specs.States.{FitsFound, FitsState, is_signed, IsOver, join, set_size, unit_of}
use Rattle.chv_agg.specs.declared.any_agg.AnyAgg.{AnyAgg}
use Rattle.chv_agg.specs.declared.any_agg.AnyAgg.TheVariants.{Count, SumU, SumI, Least, Greatest, Uniq}
use Rattle.chv_agg.proofs.FrontLemmas.{if_Some, integer_again, map_Some, number_again, scalar_in-append, scalar_in-Some, then_Some, values_in-append, values_in-Some, word_of-append, word_of-Some}
use Rattle.chv_agg.proofs.JoinOrder.{join-assoc, join-comm}
use Rattle.chv_agg.proofs.StateByteLemmas.{size_bytes}
use Rattle.chv_agg.proofs.StateLaws.{IsOver-FitsState, join-IsOver}
use Rattle.chv_agg.proofs.StateLemmas.{FitsState-few, set_size-unit}
use Rattle.chv_agg.proofs.WholeSetLemmas.{IsSpelled, Rises-tested, tests_rising, whole_set-Some, whole_set-spelled}

-- what is read is spelled in front of the bytes, and is a state of the function over values of the kind
abbrev pub IsStateFront : AggName → Scalar → List ℕ → AnyAgg × List ℕ → Type 0
IsStateFront agg arg bytes read = FitsState agg arg read.0 × (bytes ≡ state_bytes arg read.0 ++ read.1)

-- a state of a number of 64 bits in front of bytes
abbrev numbered : (ℕ → AnyAgg) → List ℕ → Option (AnyAgg × List ℕ)
numbered state bytes = option_map (λ (cut : List ℕ × List ℕ). (state (little_number 8 cut.0), cut.1)) (word_of 8 bytes)

numbered-append : (state : ℕ → AnyAgg) (n : ℕ) (rest : List ℕ) → n < 2 ^ 64 → numbered state (to_le_bytes w64 n ++ rest) ≡ Some (state n, rest)
numbered-append state n rest h =
    ap (option_map (λ (cut : List ℕ × List ℕ). (state (little_number 8 cut.0), cut.1))) (word_of-append 8 n rest)
    ∙ ap (λ (m : ℕ). Some (state m, rest)) (number_again 8 n h)

-- a number of 64 bits is read, and is spelled in front of the bytes
record Numbered (state : ℕ → AnyAgg) (bytes : List ℕ) (read : AnyAgg × List ℕ) : Type 0 where
  number : ℕ
  small : number < 2 ^ 64
  is : (state number, read.1) ≡ read
  spelled : bytes ≡ to_le_bytes w64 number ++ read.1

numbered-Some : (state : ℕ → AnyAgg) (bytes : List ℕ) (read : AnyAgg × List ℕ) → numbered state bytes ≡ Some read → Numbered state bytes read
numbered-Some state bytes read h =
    let e = map_Some (λ (cut : List ℕ × List ℕ). (state (little_number 8 cut.0), cut.1)) (word_of 8 bytes) read h in
    let word = word_of-Some 8 bytes e.0 e.1 in
    subst (Numbered state bytes) e.2 (record {
      number = little_number 8 (e.0).0;
      small = little_from-lt 0 8 (e.0).0 word.2;
      is = refl;
      spelled = word.1 ∙ ap (λ (l : List ℕ). l ++ (e.0).1) (sym (bytes_of_whole 8 (e.0).0 word.0 word.2));
    })

-- a sum with a sign reads back from its own bytes
int_again : (n : ℤ) → InRange I64 n → int_value I64 (int_bytes I64 n) ≡ n
int_again n h = ap (int_value I64) (sym (append-nil (int_bytes I64 n))) ∙ integer_reads_back I64 n [] h

-- sums
sum_in-append : (n : ℤ) (rest : List ℕ) → InRange I64 n → sum_in true (int_bytes I64 n ++ rest) ≡ Some (SumI n, rest)
sum_in-append n rest h =
    let again : int_value I64 (int_bytes I64 n) ≡ n = int_again n h in
    ap (option_map (λ (cut : List ℕ × List ℕ). (SumI (int_value I64 cut.0), cut.1))) (word_of-append 8 (number_for 8 n) rest)
    ∙ ap (λ (m : ℤ). Some (SumI m, rest)) again

sum_in-Some : (signed : Bool) (arg : Scalar) (bytes : List ℕ) (read : AnyAgg × List ℕ) → is_signed arg ≡ signed → sum_in signed bytes ≡ Some read → IsStateFront agg.Sum arg bytes read
unfolding state_bytes
sum_in-Some false arg bytes read is h =
    let e = numbered-Some SumU bytes read h in
    subst (IsStateFront agg.Sum arg bytes) e.is ((is, e.small), e.spelled)
sum_in-Some true arg bytes read is h =
    let e = map_Some (λ (cut : List ℕ × List ℕ). (SumI (int_value I64 cut.0), cut.1)) (word_of 8 bytes) read h in
    let word = word_of-Some 8 bytes e.0 e.1 in
    let again = integer_again I64 (e.0).0 word.0 word.2 in
    subst (IsStateFront agg.Sum arg bytes) e.2
    ((is, again.0.least, again.0.greatest), word.1 ∙ ap (λ (l : List ℕ). l ++ (e.0).1) (sym again.1))

-- a value that may be there
found_in-append : (arg : Scalar) (found : Option Value) (rest : List ℕ) → FitsFound arg found → found_in arg (found_bytes arg found ++ rest) ≡ Some (found, rest)
found_in-append arg None rest h = refl
found_in-append arg (Some value) rest h =
    ap (option_map (λ (read : Value × List ℕ). (Some read.0, read.1))) (scalar_in-append arg value rest h)

abbrev IsFoundFront : Scalar → List ℕ → Option Value × List ℕ → Type 0
IsFoundFront arg bytes read = FitsFound arg read.0 × (bytes ≡ found_bytes arg read.0 ++ read.1)

found_in-Some : (arg : Scalar) (bytes : List ℕ) (read : Option Value × List ℕ) → found_in arg bytes ≡ Some read → IsFoundFront arg bytes read
found_in-Some arg [] read h = absurd (none-some read h)
found_in-Some arg (zero ∷ bytes) read h = subst (IsFoundFront arg (0 ∷ bytes)) (same_Some (None, bytes) read h) (tt, refl)
found_in-Some arg (suc zero ∷ bytes) read h =
    let e = map_Some (λ (read : Value × List ℕ). (Some read.0, read.1)) (scalar_in arg bytes) read h in
    let value = scalar_in-Some arg bytes e.0 e.1 in
    subst (IsFoundFront arg (1 ∷ bytes)) e.2 (value.0, ap (λ (l : List ℕ). 1 ∷ l) value.1)
found_in-Some arg (suc (suc byte) ∷ bytes) read h = absurd (none-some read h)

-- a set of values that were read, where they rise
abbrev set_of : List Value × List ℕ → Option (AnyAgg × List ℕ)
set_of read = if rises read.0 then Some (Uniq read.0, read.1) else None

-- the values of a set behind their number
abbrev behind_number : Scalar → List ℕ × List ℕ → Option (AnyAgg × List ℕ)
behind_number arg head = option_and_then set_of (values_in (little_number 8 head.0) arg head.1)

uniq_in-append : (arg : Scalar) (values : List Value) (rest : List ℕ) → FitsState agg.UniqExact arg (Uniq values)
    → uniq_in arg ((to_le_bytes w64 (length values) ++ values_spelling arg values) ++ rest) ≡ Some (Uniq values, rest)
uniq_in-append arg values rest h =
    let head : List ℕ = to_le_bytes w64 (length values) in
    ap (uniq_in arg) (append_assoc head (values_spelling arg values) rest)
    ∙ ap (option_and_then (behind_number arg)) (word_of-append 8 (length values) (values_spelling arg values ++ rest))
    ∙ ap (λ (n : ℕ). option_and_then set_of (values_in n arg (values_spelling arg values ++ rest))) (number_again 8 (length values) h.2)
    ∙ ap (option_and_then set_of) (values_in-append arg values rest h.0)
    ∙ ap (λ (test : Bool). if test then Some (Uniq values, rest) else None) (tests_rising values h.1)

uniq_in-Some : (arg : Scalar) (bytes : List ℕ) (read : AnyAgg × List ℕ) → uniq_in arg bytes ≡ Some read → IsStateFront agg.UniqExact arg bytes read
unfolding state_bytes
uniq_in-Some arg bytes read h =
    let e = then_Some (behind_number arg) (word_of 8 bytes) read h in
    let head : List ℕ = (e.0).0 in
    let word = word_of-Some 8 bytes e.0 e.1 in
    let set = then_Some set_of (values_in (little_number 8 head) arg (e.0).1) read e.2 in
    let values : List Value = (set.0).0 in
    let listed = values_in-Some (little_number 8 head) arg (e.0).1 set.0 set.1 in
    let tested = if_Some (rises values) (Uniq values, (set.0).1) read set.2 in
    let small : little_number 8 head < 2 ^ 64 = little_from-lt 0 8 head word.2 in
    let number : head ≡ to_le_bytes w64 (length values) = sym (bytes_of_whole 8 head word.0 word.2) ∙ ap (to_le_bytes w64) (sym listed.0) in
    subst (IsStateFront agg.UniqExact arg bytes) tested.1 (
      (listed.1, Rises-tested values tested.0, omega (arith, small, listed.0)),
      word.1 ∙ ap₂ (λ (x y : List ℕ). x ++ y) number listed.2 ∙ sym (append_assoc (to_le_bytes w64 (length values)) (values_spelling arg values) (set.0).1),
    )

-- a state in front of bytes reads back, whatever follows it
pub state_front-spelled : (agg : AggName) (arg : Scalar) (state : AnyAgg) (rest : List ℕ) → FitsState agg arg state → state_front agg arg (state_bytes arg state ++ rest) ≡ Some (state, rest)
unfolding state_front state_bytes
state_front-spelled agg.Count arg (Count n) rest h = numbered-append Count n rest h
state_front-spelled agg.Sum arg (SumU n) rest h =
    ap (λ (signed : Bool). sum_in signed (to_le_bytes w64 n ++ rest)) h.0 ∙ numbered-append SumU n rest h.1
state_front-spelled agg.Sum arg (SumI n) rest h =
    ap (λ (signed : Bool). sum_in signed (int_bytes I64 n ++ rest)) h.0 ∙ sum_in-append n rest (record { least = h.1; greatest = h.2 })
state_front-spelled agg.Min arg (Least found) rest h =
    ap (option_map (λ (read : Option Value × List ℕ). (Least read.0, read.1))) (found_in-append arg found rest h)
state_front-spelled agg.Max arg (Greatest found) rest h =
    ap (option_map (λ (read : Option Value × List ℕ). (Greatest read.0, read.1))) (found_in-append arg found rest h)
state_front-spelled agg.UniqExact arg (Uniq values) rest h = uniq_in-append arg values rest h
state_front-spelled agg arg state rest h = absurd h

-- what is read is a state of the function over values of the kind, and its bytes are those that were read
pub state_front-Some : (agg : AggName) (arg : Scalar) (bytes : List ℕ) (read : AnyAgg × List ℕ) → state_front agg arg bytes ≡ Some read → IsStateFront agg arg bytes read
unfolding state_front state_bytes
state_front-Some agg.Count arg bytes read h =
    let e = numbered-Some Count bytes read h in
    subst (IsStateFront agg.Count arg bytes) e.is (e.small, e.spelled)
state_front-Some agg.Sum arg bytes read h = sum_in-Some (is_signed arg) arg bytes read refl h
state_front-Some agg.Min arg bytes read h =
    let e = map_Some (λ (read : Option Value × List ℕ). (Least read.0, read.1)) (found_in arg bytes) read h in
    subst (IsStateFront agg.Min arg bytes) e.2 (found_in-Some arg bytes e.0 e.1)
state_front-Some agg.Max arg bytes read h =
    let e = map_Some (λ (read : Option Value × List ℕ). (Greatest read.0, read.1)) (found_in arg bytes) read h in
    subst (IsStateFront agg.Max arg bytes) e.2 (found_in-Some arg bytes e.0 e.1)
state_front-Some agg.UniqExact arg bytes read h = uniq_in-Some arg bytes read h

-- the same of a state and what is behind it
pub state_front-sound : (agg : AggName) (arg : Scalar) (bytes : List ℕ) (state : AnyAgg) (rest : List ℕ) → state_front agg arg bytes ≡ Some (state, rest)
    → FitsState agg arg state × (bytes ≡ state_bytes arg state ++ rest)
state_front-sound agg arg bytes state rest is = state_front-Some agg arg bytes (state, rest) is

-- bytes begin with one state of a function over values of a kind at most
pub one_state_in_front : (agg : AggName) (arg : Scalar) (a b : AnyAgg) (x y : List ℕ) → FitsState agg arg a → FitsState agg arg b → state_bytes arg a ++ x ≡ state_bytes arg b ++ y → (a ≡ b) × (x ≡ y)
one_state_in_front agg arg a b x y h k same =
    some_pair_parts a b x y (sym (state_front-spelled agg arg a x h) ∙ ap (state_front agg arg) same ∙ state_front-spelled agg arg b y k)

-- the state of no values is one of the function over values of the kind
fits_sum : (arg : Scalar) (signed : Bool) → is_signed arg ≡ signed → FitsState agg.Sum arg (if signed then SumI (pos 0) else SumU 0)
fits_sum arg false is = (is, omega arith)
fits_sum arg true is = (is, omega (arith, ints), omega (arith, ints))

pub unit_of-fits : (agg : AggName) (arg : Scalar) → FitsState agg arg (unit_of agg arg)
unit_of-fits agg.Count arg = omega arith
unit_of-fits agg.Sum arg = fits_sum arg (is_signed arg) refl
unit_of-fits agg.Min arg = tt
unit_of-fits agg.Max arg = tt
unit_of-fits agg.UniqExact arg = (All-nil (IsOfScalar arg), tt, omega arith)

-- a state with nothing behind it is what bytes stand for
whole_again : (agg : AggName) (arg : Scalar) (state : AnyAgg) → FitsState agg arg state → whole_state (unit_of agg arg) (state_front agg arg (state_bytes arg state)) ≡ state
whole_again agg arg state h =
    ap (λ (l : List ℕ). whole_state (unit_of agg arg) (state_front agg arg l)) (sym (append-nil (state_bytes arg state)))
    ∙ ap (whole_state (unit_of agg arg)) (state_front-spelled agg arg state [] h)

-- a state in bytes is what the bytes stand for, however many values its set has
pub state_in-reads_back : (agg : AggName) (arg : Scalar) (state : AnyAgg) → IsOver agg arg state → state_in agg arg (state_bytes arg state) ≡ state
unfolding state_in state_bytes
state_in-reads_back agg.Count arg state h = whole_again agg.Count arg state h
state_in-reads_back agg.Sum arg state h = whole_again agg.Sum arg state h
state_in-reads_back agg.Min arg state h = whole_again agg.Min arg state h
state_in-reads_back agg.Max arg state h = whole_again agg.Max arg state h
state_in-reads_back agg.UniqExact arg (Uniq values) h = ap (λ (set : Option AnyAgg). unwrap_or set (Uniq [])) (whole_set-spelled arg values h.0 h.1)
state_in-reads_back agg.UniqExact arg state h = absurd h

-- the same of one that fits
pub state_in-spelled : (agg : AggName) (arg : Scalar) (state : AnyAgg) → FitsState agg arg state → state_in agg arg (state_bytes arg state) ≡ state
state_in-spelled agg arg state h = state_in-reads_back agg arg state (IsOver-FitsState agg arg state h)

-- a state is spelled by bytes, or is that of no values
abbrev IsWhole : AggName → Scalar → List ℕ → AnyAgg → Type 0
IsWhole agg arg bytes state = IsSpelled agg arg bytes state ⊎ (state ≡ unit_of agg arg)

whole_front : (agg : AggName) (arg : Scalar) (bytes : List ℕ) (front : Option (AnyAgg × List ℕ)) → state_front agg arg bytes ≡ front → IsWhole agg arg bytes (whole_state (unit_of agg arg) front)
whole_front agg arg bytes None is = inr refl
whole_front agg arg bytes (Some (state, [])) is =
    let e = state_front-Some agg arg bytes (state, []) is in
    inl (IsOver-FitsState agg arg state e.0, e.1 ∙ append-nil (state_bytes arg state))
whole_front agg arg bytes (Some (state, byte ∷ rest)) is = inr refl

whole_values : (arg : Scalar) (bytes : List ℕ) (set : Option AnyAgg) → whole_set arg bytes ≡ set → IsWhole agg.UniqExact arg bytes (unwrap_or set (Uniq []))
whole_values arg bytes None is = inr refl
whole_values arg bytes (Some state) is = inl (whole_set-Some arg bytes state is)

-- bytes spell the state that they stand for, or it is that of no values
state_in-IsWhole : (agg : AggName) (arg : Scalar) (bytes : List ℕ) → IsWhole agg arg bytes (state_in agg arg bytes)
unfolding state_in
state_in-IsWhole agg.Count arg bytes = whole_front agg.Count arg bytes (state_front agg.Count arg bytes) refl
state_in-IsWhole agg.Sum arg bytes = whole_front agg.Sum arg bytes (state_front agg.Sum arg bytes) refl
state_in-IsWhole agg.Min arg bytes = whole_front agg.Min arg bytes (state_front agg.Min arg bytes) refl
state_in-IsWhole agg.Max arg bytes = whole_front agg.Max arg bytes (state_front agg.Max arg bytes) refl
state_in-IsWhole agg.UniqExact arg bytes = whole_values arg bytes (whole_set arg bytes) refl

-- bytes stand for a state of the function over values of the kind, whatever they are
over_whole : (agg : AggName) (arg : Scalar) (bytes : List ℕ) (state : AnyAgg) → IsWhole agg arg bytes state → IsOver agg arg state
over_whole agg arg bytes state (inl spelled) = spelled.0
over_whole agg arg bytes state (inr is) = subst (IsOver agg arg) (sym is) (IsOver-FitsState agg arg (unit_of agg arg) (unit_of-fits agg arg))

pub state_in-over : (agg : AggName) (arg : Scalar) (bytes : List ℕ) → IsOver agg arg (state_in agg arg bytes)
state_in-over agg arg bytes = over_whole agg arg bytes (state_in agg arg bytes) (state_in-IsWhole agg arg bytes)

-- it fits where its set has fewer than 2^64 values
pub state_in-few : (agg : AggName) (arg : Scalar) (bytes : List ℕ) → set_size (state_in agg arg bytes) < 2 ^ 64 → FitsState agg arg (state_in agg arg bytes)
state_in-few agg arg bytes few = FitsState-few agg arg (state_in agg arg bytes) few (state_in-over agg arg bytes)

-- its set has no more values than there are bytes
size_whole : (agg : AggName) (arg : Scalar) (bytes : List ℕ) (state : AnyAgg) → IsWhole agg arg bytes state → set_size state ≤ length bytes
size_whole agg arg bytes state (inl spelled) =
    let long : length bytes ≡ length (state_bytes arg state) = ap length spelled.1 in
    omega (arith, long, size_bytes arg state agg spelled.0)
size_whole agg arg bytes state (inr is) =
    let none : set_size state ≡ 0 = ap set_size is ∙ set_size-unit agg arg in
    omega (arith, none)

pub set_size-state_in : (agg : AggName) (arg : Scalar) (bytes : List ℕ) → set_size (state_in agg arg bytes) ≤ length bytes
set_size-state_in agg arg bytes = size_whole agg arg bytes (state_in agg arg bytes) (state_in-IsWhole agg arg bytes)

-- so it fits where there are fewer than 2^64 bytes
pub state_in-fits : (agg : AggName) (arg : Scalar) (bytes : List ℕ) → length bytes < 2 ^ 64 → FitsState agg arg (state_in agg arg bytes)
state_in-fits agg arg bytes short = state_in-few agg arg bytes (omega (arith, short, set_size-state_in agg arg bytes))

none_whole : (agg : AggName) (arg : Scalar) (bytes : List ℕ) (state : AnyAgg) → IsWhole agg arg bytes state → (IsSpelled agg arg bytes state → ⊥) → state ≡ unit_of agg arg
none_whole agg arg bytes state (inl spelled) none = absurd (none spelled)
none_whole agg arg bytes state (inr is) none = is

-- bytes that spell no state stand for the state of no values
pub state_in-none : (agg : AggName) (arg : Scalar) (bytes : List ℕ) → ((state : AnyAgg) → IsOver agg arg state → bytes ≡ state_bytes arg state → ⊥) → state_in agg arg bytes ≡ unit_of agg arg
state_in-none agg arg bytes none =
    none_whole agg arg bytes (state_in agg arg bytes) (state_in-IsWhole agg arg bytes) (λ spelled. none (state_in agg arg bytes) spelled.0 spelled.1)

-- of fewer than 2^64 bytes it is enough that they spell none that fits
pub state_in-unfit : (agg : AggName) (arg : Scalar) (bytes : List ℕ) → length bytes < 2 ^ 64 → ((state : AnyAgg) → FitsState agg arg state → bytes ≡ state_bytes arg state → ⊥)
    → state_in agg arg bytes ≡ unit_of agg arg
state_in-unfit agg arg bytes short none =
    state_in-none agg arg bytes (λ state over is.
    let long : length bytes ≡ length (state_bytes arg state) = ap length is in
    none state (FitsState-few agg arg state (omega (arith, long, short, size_bytes arg state agg over)) over) is)

-- fewer than 2^64 bytes that begin with a state and go on stand for the state of no values
pub state_in-longer : (agg : AggName) (arg : Scalar) (bytes rest : List ℕ) (state : AnyAgg) → length bytes < 2 ^ 64 → FitsState agg arg state → bytes ≡ state_bytes arg state ++ rest → 0 < length rest
    → state_in agg arg bytes ≡ unit_of agg arg
state_in-longer agg arg bytes rest state short fits same longer =
    state_in-unfit agg arg bytes short (λ other h is.
    let e = one_state_in_front agg arg state other rest [] fits h (sym same ∙ is ∙ sym (append-nil (state_bytes arg other))) in
    let none : length rest ≡ 0 = ap length e.1 in
    absurd (omega (arith, none, longer)))

-- states in bytes are joined as what they stand for
pub join_bytes-joined : (agg : AggName) (arg : Scalar) (a b : List ℕ) → state_in agg arg (join_bytes agg arg a b) ≡ join (state_in agg arg a) (state_in agg arg b)
join_bytes-joined agg arg a b =
    state_in-reads_back agg arg (join (state_in agg arg a) (state_in agg arg b))
    (join-IsOver agg arg (state_in agg arg a) (state_in agg arg b) (state_in-over agg arg a) (state_in-over agg arg b))

pub join_bytes-comm : (agg : AggName) (arg : Scalar) (a b : List ℕ) → join_bytes agg arg a b ≡ join_bytes agg arg b a
join_bytes-comm agg arg a b = ap (state_bytes arg) (join-comm (state_in agg arg a) (state_in agg arg b))

pub join_bytes-assoc : (agg : AggName) (arg : Scalar) (a b c : List ℕ) → join_bytes agg arg (join_bytes agg arg a b) c ≡ join_bytes agg arg a (join_bytes agg arg b c)
join_bytes-assoc agg arg a b c =
    ap (state_bytes arg)
    (ap (λ (s : AnyAgg). join s (state_in agg arg c)) (join_bytes-joined agg arg a b)
    ∙ join-assoc (state_in agg arg a) (state_in agg arg b) (state_in agg arg c)
    ∙ ap (join (state_in agg arg a)) (sym (join_bytes-joined agg arg b c)))
