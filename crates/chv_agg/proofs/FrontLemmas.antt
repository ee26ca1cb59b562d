-- What stands in front of bytes reads back, and nothing else is read.
use Rattle.std.proofs.Common.{◌≡◌, ℕ, ℤ, zero, suc, ◌/◌, ◌^◌, ◌<◌, ◌≤◌, List, [], ◌∷◌, ◌++◌, length, take, drop, Bool, true, false, ◌&&◌, nat_le, nat_lt, if◌then◌else◌, Option, Some, None, refl, sym, ap, ap₂, subst, ◌∙◌, arith, append_assoc, append-nil, length-append}
use Rattle.std.proofs.Math.Nat.{mod-lt}
use Rattle.std.proofs.Math.Seq.{take-append_seam, drop-append_seam}
use Rattle.std.proofs.lemmas.Bool.{leb-true, le-leb, ltb-true, lt-ltb}
use Rattle.std.proofs.lemmas.List.{length-take-le, take-append-drop, take_all}
use Rattle.std.proofs.lemmas.List.Elements.{All-nil, All-cons, All-head, All-tail}
use Rattle.std.proofs.lemmas.Option.{none-some, same_Some}
use Rattle.std.specs.Int.{byte_at, bytes_low_first}
use Rattle.std.specs.List.{All}
use Rattle.std.specs.Option.{option_map, option_and_then}
use Rattle.byteorder.specs.Endian.{little_bytes, little_number}
use Rattle.byteorder.specs.Numbers.{length-bytes_low_first, little_number-reads_back}
use Rattle.chv_bytes.specs.Integers.{InRange, int_bytes, int_value, number_for, width_of}
use Rattle.chv_bytes.specs.Places.{AreBytes}
use Rattle.chv_bytes.specs.Runs.{run_bytes}
use Rattle.chv_bytes.specs.declared.integer.IntKind.{IntKind}
use Rattle.chv_bytes.specs.declared.integer.IntKind.TheVariants.{U8, U16, U32, U64, I8, I16, I32, I64}
use Rattle.chv_bytes.proofs.IntegerLemmas.{integer_of_bytes, integer_reads_back}
use Rattle.chv_bytes.proofs.NumberLemmas.{bytes_of_whole}
use Rattle.chv_types.specs.Fits.{IsOfScalar}
use Rattle.chv_types.specs.Kinds.{range_of, LiesIn}
use Rattle.chv_types.specs.declared.kind.Scalar.{Scalar}
use Rattle.chv_types.specs.declared.kind.Scalar.TheVariants as scalar
use Rattle.chv_types.specs.declared.value.Value.{Value}
use Rattle.chv_types.specs.declared.value.Value.TheVariants.{Whole, Truth, Text, State}
use Rattle.chv_agg.specs.Plain.{integers_of, scalar_spelling, truth_spelling, values_spelling, whole_spelling}
use Rattle.chv_agg.specs.StateBytes.{are_bytes, front_of, scalar_in, text_in, truth_in, values_in, whole_in, word_of}

-- what both tests pass
pub and_true : (a b : Bool) → a ≡ true → b ≡ true → (a && b) ≡ true
and_true true true h k = refl
and_true true false h k = k
and_true false b h k = h

pub and_parts : (a b : Bool) → (a && b) ≡ true → (a ≡ true) × (b ≡ true)
and_parts true b h = (refl, h)
and_parts false b h = cc

-- a choice that gives something passed its test
pub if_Some : {A : Type 0} (test : Bool) (x y : A) → ◌≡◌ {A = Option A} (if test then Some x else None) (Some y) → (test ≡ true) × (x ≡ y)
if_Some true x y h = (refl, same_Some x y h)
if_Some false x y h = absurd (none-some y h)

-- a step behind another gives something where both do
pub map_Some : {A B : Type 0} (f : A → B) (o : Option A) (y : B) → option_map f o ≡ Some y → (x : A) × (o ≡ Some x) × (f x ≡ y)
map_Some f None y h = absurd (none-some y h)
map_Some f (Some x) y h = (x, refl, same_Some (f x) y h)

pub then_Some : {A B : Type 0} (f : A → Option B) (o : Option A) (y : B) → option_and_then f o ≡ Some y → (x : A) × (o ≡ Some x) × (f x ≡ Some y)
then_Some f None y h = absurd (none-some y h)
then_Some f (Some x) y h = (x, refl, h)

-- the bytes of a number are bytes
byte_at-lt : (i n : ℕ) → byte_at i n < 256
byte_at-lt zero n = omega arith
byte_at-lt (suc i) n = mod-lt (n / 256 ^ suc i) (omega arith)

are_bytes-number : (i size n : ℕ) → are_bytes (bytes_low_first i size n) ≡ true
are_bytes-number i zero n = refl
are_bytes-number i (suc size) n =
    and_true (nat_lt (byte_at i n) 256) (are_bytes (bytes_low_first (suc i) size n)) (lt-ltb (byte_at i n) 256 (byte_at-lt i n)) (are_bytes-number (suc i) size n)

-- what tests as bytes is bytes
AreBytes-tested : (bytes : List ℕ) → are_bytes bytes ≡ true → AreBytes bytes
AreBytes-tested [] h i = omega arith
AreBytes-tested (byte ∷ bytes) h zero = ltb-true byte 256 (and_parts (nat_lt byte 256) (are_bytes bytes) h).0
AreBytes-tested (byte ∷ bytes) h (suc i) = AreBytes-tested bytes (and_parts (nat_lt byte 256) (are_bytes bytes) h).1 i

-- the bytes of a number are bytes
pub AreBytes-number : (size n : ℕ) → AreBytes (little_bytes size n)
AreBytes-number size n = AreBytes-tested (little_bytes size n) (are_bytes-number 0 size n)

-- what stands in front is the first of so many bytes
pub front_of-append : (size : ℕ) (a rest : List ℕ) → length a ≡ size → front_of size (a ++ rest) ≡ Some (a, rest)
front_of-append size a rest long =
    subst (λ (n : ℕ). front_of n (a ++ rest) ≡ Some (a, rest)) long
    (ap (λ (test : Bool). if test then Some (take (length a) (a ++ rest), drop (length a) (a ++ rest)) else None)
    (le-leb (length a) (length (a ++ rest)) (omega (arith, length-append a rest)))
    ∙ ap₂ (λ (x y : List ℕ). Some (x, y)) (take-append_seam a rest) (drop-append_seam a rest))

pub front_of-Some : (size : ℕ) (bytes : List ℕ) (cut : List ℕ × List ℕ) → front_of size bytes ≡ Some cut → (length cut.0 ≡ size) × (bytes ≡ cut.0 ++ cut.1)
front_of-Some size bytes cut h =
    let e = if_Some (nat_le size (length bytes)) (take size bytes, drop size bytes) cut h in
    subst (λ (c : List ℕ × List ℕ). (length c.0 ≡ size) × (bytes ≡ c.0 ++ c.1)) e.1
    (length-take-le size bytes (leb-true size (length bytes) e.0), sym (take-append-drop size bytes))

-- the same of numbers
pub word_of-append : (size n : ℕ) (rest : List ℕ) → word_of size (little_bytes size n ++ rest) ≡ Some (little_bytes size n, rest)
word_of-append size n rest =
    ap (option_and_then (λ (cut : List ℕ × List ℕ). if are_bytes cut.0 then Some cut else None))
    (front_of-append size (little_bytes size n) rest (length-bytes_low_first 0 size n))
    ∙ ap (λ (test : Bool). if test then Some (little_bytes size n, rest) else None) (are_bytes-number 0 size n)

pub word_of-Some : (size : ℕ) (bytes : List ℕ) (cut : List ℕ × List ℕ) → word_of size bytes ≡ Some cut
    → (length cut.0 ≡ size) × (bytes ≡ cut.0 ++ cut.1) × AreBytes cut.0
word_of-Some size bytes cut h =
    let e = then_Some (λ (cut : List ℕ × List ℕ). if are_bytes cut.0 then Some cut else None) (front_of size bytes) cut h in
    let tested = if_Some (are_bytes (e.0).0) e.0 cut e.2 in
    let front = front_of-Some size bytes e.0 e.1 in
    subst (λ (c : List ℕ × List ℕ). (length c.0 ≡ size) × (bytes ≡ c.0 ++ c.1) × AreBytes c.0) tested.1
    (front.0, front.1, AreBytes-tested (e.0).0 tested.0)

-- a number reads back from its own bytes
pub number_again : (size n : ℕ) → n < 256 ^ size → little_number size (little_bytes size n) ≡ n
number_again size n h = ap (little_number size) (sym (append-nil (little_bytes size n))) ∙ little_number-reads_back size n [] h

-- what is read is spelled in front of the bytes, and is of the kind
abbrev pub IsScalarFront : Scalar → List ℕ → Value × List ℕ → Type 0
IsScalarFront plain bytes read = IsOfScalar plain read.0 × (bytes ≡ scalar_spelling plain read.0 ++ read.1)

-- integers
whole_in-append : (integers : IntKind) (n : ℤ) (rest : List ℕ) → InRange integers n → whole_in (Some integers) (int_bytes integers n ++ rest) ≡ Some (Whole n, rest)
whole_in-append integers n rest h =
    let again : int_value integers (int_bytes integers n) ≡ n = ap (int_value integers) (sym (append-nil (int_bytes integers n))) ∙ integer_reads_back integers n [] h in
    ap (option_map (λ (cut : List ℕ × List ℕ). (Whole (int_value integers cut.0), cut.1))) (word_of-append (width_of integers) (number_for (width_of integers) n) rest)
    ∙ ap (λ (m : ℤ). Some (Whole m, rest)) again

-- bytes of an integer's width are those of the integer that they are read as
pub integer_again : (integers : IntKind) (bytes : List ℕ) → length bytes ≡ width_of integers → AreBytes bytes
    → InRange integers (int_value integers bytes) × (int_bytes integers (int_value integers bytes) ≡ bytes)
integer_again integers bytes long are =
    let e = integer_of_bytes integers bytes (omega (arith, long)) are in
    (e.0, e.1 ∙ take_all (width_of integers) bytes (omega (arith, long)))

whole_in-Some : (plain : Scalar) (integers : IntKind) (bytes : List ℕ) (read : Value × List ℕ) → integers_of plain ≡ Some integers
    → ((n : ℤ) → InRange integers n → LiesIn (range_of plain) n) → whole_in (Some integers) bytes ≡ Some read → IsScalarFront plain bytes read
whole_in-Some plain integers bytes read is within h =
    let e = map_Some (λ (cut : List ℕ × List ℕ). (Whole (int_value integers cut.0), cut.1)) (word_of (width_of integers) bytes) read h in
    let word = word_of-Some (width_of integers) bytes e.0 e.1 in
    let again = integer_again integers (e.0).0 word.0 word.2 in
    let n : ℤ = int_value integers (e.0).0 in
    let spelling : (e.0).0 ≡ whole_spelling (integers_of plain) n = sym again.1 ∙ ap (λ (of : Option IntKind). whole_spelling of n) (sym is) in
    subst (IsScalarFront plain bytes) e.2 (within n again.0, word.1 ∙ ap (λ (l : List ℕ). l ++ (e.0).1) spelling)

-- truths
truth_in-append : (truth : Bool) (rest : List ℕ) → truth_in (truth_spelling truth ++ rest) ≡ Some (Truth truth, rest)
truth_in-append false rest = refl
truth_in-append true rest = refl

truth_in-Some : (bytes : List ℕ) (read : Value × List ℕ) → truth_in bytes ≡ Some read → IsScalarFront scalar.Bool bytes read
truth_in-Some [] read h = absurd (none-some read h)
truth_in-Some (zero ∷ bytes) read h = subst (IsScalarFront scalar.Bool (0 ∷ bytes)) (same_Some (Truth false, bytes) read h) (refl, refl)
truth_in-Some (suc zero ∷ bytes) read h = subst (IsScalarFront scalar.Bool (1 ∷ bytes)) (same_Some (Truth true, bytes) read h) (refl, refl)
truth_in-Some (suc (suc byte) ∷ bytes) read h = absurd (none-some read h)

-- the text of a length in front of bytes
abbrev text_of : ℕ → List ℕ → Option (Value × List ℕ)
text_of size bytes = if nat_le size 1048576 then option_map (λ (cut : List ℕ × List ℕ). (Text cut.0, cut.1)) (front_of size bytes) else None

text_of-append : (text rest : List ℕ) → length text ≤ 1048576 → text_of (length text) (text ++ rest) ≡ Some (Text text, rest)
text_of-append text rest h =
    ap (λ (test : Bool). if test then option_map (λ (cut : List ℕ × List ℕ). (Text cut.0, cut.1)) (front_of (length text) (text ++ rest)) else None) (le-leb (length text) 1048576 h)
    ∙ ap (option_map (λ (cut : List ℕ × List ℕ). (Text cut.0, cut.1))) (front_of-append (length text) text rest refl)

text_in-append : (text rest : List ℕ) → length text ≤ 1048576 → text_in (run_bytes text ++ rest) ≡ Some (Text text, rest)
text_in-append text rest h =
    let head : List ℕ = little_bytes 4 (length text) in
    let size : little_number 4 head ≡ length text = number_again 4 (length text) (omega (arith, h)) in
    ap text_in (append_assoc head text rest)
    ∙ ap (option_and_then (λ (cut : List ℕ × List ℕ). text_of (little_number 4 cut.0) cut.1)) (word_of-append 4 (length text) (text ++ rest))
    ∙ ap (λ (n : ℕ). text_of n (text ++ rest)) size
    ∙ text_of-append text rest h

-- a choice that gives something passed its test and gives that
if_then : {A : Type 0} (test : Bool) (o : Option A) (y : A) → (if test then o else None) ≡ Some y → (test ≡ true) × (o ≡ Some y)
if_then true o y h = (refl, h)
if_then false o y h = absurd (none-some y h)

text_in-Some : (bytes : List ℕ) (read : Value × List ℕ) → text_in bytes ≡ Some read → IsScalarFront scalar.Text bytes read
text_in-Some bytes read h =
    let e = then_Some (λ (cut : List ℕ × List ℕ). text_of (little_number 4 cut.0) cut.1) (word_of 4 bytes) read h in
    let head : List ℕ = (e.0).0 in
    let word = word_of-Some 4 bytes e.0 e.1 in
    let tested = if_then (nat_le (little_number 4 head) 1048576) (option_map (λ (cut : List ℕ × List ℕ). (Text cut.0, cut.1)) (front_of (little_number 4 head) (e.0).1)) read e.2 in
    let text = map_Some (λ (cut : List ℕ × List ℕ). (Text cut.0, cut.1)) (front_of (little_number 4 head) (e.0).1) read tested.1 in
    let front = front_of-Some (little_number 4 head) (e.0).1 text.0 text.1 in
    let most : little_number 4 head ≤ 1048576 = leb-true (little_number 4 head) 1048576 tested.0 in
    let size : head ≡ little_bytes 4 (length (text.0).0) = sym (bytes_of_whole 4 head word.0 word.2) ∙ ap (little_bytes 4) (sym front.0) in
    let short : length (text.0).0 ≤ 1048576 = omega (arith, most, front.0) in
    subst (IsScalarFront scalar.Text bytes) text.2 (
      (refl, short),
      word.1 ∙ ap₂ (λ (x y : List ℕ). x ++ y) size front.1 ∙ sym (append_assoc (little_bytes 4 (length (text.0).0)) (text.0).0 (text.0).1),
    )

-- values of plain kinds
pub scalar_in-append : (plain : Scalar) (value : Value) (rest : List ℕ) → IsOfScalar plain value → scalar_in plain (scalar_spelling plain value ++ rest) ≡ Some (value, rest)
unfolding scalar_in
scalar_in-append scalar.UInt8 (Whole n) rest h = whole_in-append U8 n rest (record { least = h.0; greatest = h.1 })
scalar_in-append scalar.UInt16 (Whole n) rest h = whole_in-append U16 n rest (record { least = h.0; greatest = h.1 })
scalar_in-append scalar.UInt32 (Whole n) rest h = whole_in-append U32 n rest (record { least = h.0; greatest = h.1 })
scalar_in-append scalar.UInt64 (Whole n) rest h = whole_in-append U64 n rest (record { least = h.0; greatest = h.1 })
scalar_in-append scalar.Int8 (Whole n) rest h = whole_in-append I8 n rest (record { least = h.0; greatest = h.1 })
scalar_in-append scalar.Int16 (Whole n) rest h = whole_in-append I16 n rest (record { least = h.0; greatest = h.1 })
scalar_in-append scalar.Int32 (Whole n) rest h = whole_in-append I32 n rest (record { least = h.0; greatest = h.1 })
scalar_in-append scalar.Int64 (Whole n) rest h = whole_in-append I64 n rest (record { least = h.0; greatest = h.1 })
scalar_in-append scalar.Bool (Whole n) rest h = absurd h
scalar_in-append scalar.Text (Whole n) rest h = absurd h
scalar_in-append plain (Truth truth) rest h =
    subst (λ (s : Scalar). scalar_in s (truth_spelling truth ++ rest) ≡ Some (Truth truth, rest)) (sym h) (truth_in-append truth rest)
scalar_in-append plain (Text text) rest h =
    subst (λ (s : Scalar). scalar_in s (run_bytes text ++ rest) ≡ Some (Text text, rest)) (sym h.0) (text_in-append text rest h.1)
scalar_in-append plain (State spelling) rest h = absurd h

pub scalar_in-Some : (plain : Scalar) (bytes : List ℕ) (read : Value × List ℕ) → scalar_in plain bytes ≡ Some read → IsScalarFront plain bytes read
unfolding scalar_in
scalar_in-Some scalar.UInt8 bytes read h = whole_in-Some scalar.UInt8 U8 bytes read refl (λ n r. (r.least, r.greatest)) h
scalar_in-Some scalar.UInt16 bytes read h = whole_in-Some scalar.UInt16 U16 bytes read refl (λ n r. (r.least, r.greatest)) h
scalar_in-Some scalar.UInt32 bytes read h = whole_in-Some scalar.UInt32 U32 bytes read refl (λ n r. (r.least, r.greatest)) h
scalar_in-Some scalar.UInt64 bytes read h = whole_in-Some scalar.UInt64 U64 bytes read refl (λ n r. (r.least, r.greatest)) h
scalar_in-Some scalar.Int8 bytes read h = whole_in-Some scalar.Int8 I8 bytes read refl (λ n r. (r.least, r.greatest)) h
scalar_in-Some scalar.Int16 bytes read h = whole_in-Some scalar.Int16 I16 bytes read refl (λ n r. (r.least, r.greatest)) h
scalar_in-Some scalar.Int32 bytes read h = whole_in-Some scalar.Int32 I32 bytes read refl (λ n r. (r.least, r.greatest)) h
scalar_in-Some scalar.Int64 bytes read h = whole_in-Some scalar.Int64 I64 bytes read refl (λ n r. (r.least, r.greatest)) h
scalar_in-Some scalar.Bool bytes read h = truth_in-Some bytes read h
scalar_in-Some scalar.Text bytes read h = text_in-Some bytes read h

-- the values behind a first one
abbrev and_first : Value → List Value × List ℕ → List Value × List ℕ
and_first first read = (first ∷ read.0, read.1)

-- so many values behind a first one
abbrev behind_first : ℕ → Scalar → Value × List ℕ → Option (List Value × List ℕ)
behind_first count plain first = option_map (and_first first.0) (values_in count plain first.1)

-- lists of values
pub values_in-append : (plain : Scalar) (values : List Value) (rest : List ℕ) → All (IsOfScalar plain) values
    → values_in (length values) plain (values_spelling plain values ++ rest) ≡ Some (values, rest)
values_in-append plain [] rest h = refl
values_in-append plain (v ∷ values) rest h =
    ap (λ (l : List ℕ). option_and_then (behind_first (length values) plain) (scalar_in plain l)) (append_assoc (scalar_spelling plain v) (values_spelling plain values) rest)
    ∙ ap (option_and_then (behind_first (length values) plain))
    (scalar_in-append plain v (values_spelling plain values ++ rest) (All-head (IsOfScalar plain) v values h))
    ∙ ap (option_map (and_first v)) (values_in-append plain values rest (All-tail (IsOfScalar plain) v values h))

-- what is read is spelled in front of the bytes, of the kind, and as many as were asked for
abbrev pub AreValuesFront : ℕ → Scalar → List ℕ → List Value × List ℕ → Type 0
AreValuesFront count plain bytes read = (length read.0 ≡ count) × All (IsOfScalar plain) read.0 × (bytes ≡ values_spelling plain read.0 ++ read.1)

pub values_in-Some : (count : ℕ) (plain : Scalar) (bytes : List ℕ) (read : List Value × List ℕ) → values_in count plain bytes ≡ Some read → AreValuesFront count plain bytes read
values_in-Some zero plain bytes read h =
    subst (AreValuesFront zero plain bytes) (same_Some ([], bytes) read h) (refl, All-nil (IsOfScalar plain), refl)
values_in-Some (suc count) plain bytes read h =
    let e = then_Some (behind_first count plain) (scalar_in plain bytes) read h in
    let first = scalar_in-Some plain bytes e.0 e.1 in
    let v : Value = (e.0).0 in
    let others = map_Some (and_first v) (values_in count plain (e.0).1) read e.2 in
    let rest = values_in-Some count plain (e.0).1 others.0 others.1 in
    subst (AreValuesFront (suc count) plain bytes) others.2 (
      omega (arith, rest.0),
      All-cons (IsOfScalar plain) v (others.0).0 first.0 rest.1,
      first.1 ∙ ap (λ (l : List ℕ). scalar_spelling plain v ++ l) rest.2 ∙ sym (append_assoc (scalar_spelling plain v) (values_spelling plain (others.0).0) (others.0).1),
    )
