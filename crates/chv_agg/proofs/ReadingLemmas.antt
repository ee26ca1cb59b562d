-- Where no state stands in bytes.
use Rattle.std.proofs.Common.{◌≡◌, ℕ, pos, ◌+◌, ◌-◌, ◌^◌, ◌<◌, ◌≤◌, List, [], ◌∷◌, ◌++◌, length, drop, true, false, refl, sym, ap, ◌∙◌, arith, append_assoc, length-append, length-drop}
use Rattle.std.specs.Int.{to_le_bytes, w64}
use Rattle.std.specs.List.{All}
use Rattle.std.proofs.lemmas.Int.{ints}
use Rattle.std.proofs.lemmas.List.Elements.{All-head, All-tail}
use Rattle.chv_bytes.specs.Integers.{InRange}
use Rattle.chv_bytes.specs.Places.{StandsAt}
use Rattle.chv_bytes.specs.declared.integer.IntKind.TheVariants.{U64}
use Rattle.chv_bytes.proofs.IntegerLemmas.{one_integer}
use Rattle.chv_types.specs.Fits.{IsOfScalar}
use Rattle.chv_types.specs.Members.{Rises}
use Rattle.chv_types.specs.Order.{value_cmp}
use Rattle.chv_types.specs.declared.kind.Scalar.{Scalar}
use Rattle.chv_types.specs.declared.kind.Scalar.TheVariants as scalar
use Rattle.chv_types.specs.declared.value.Value.{Value}
use Rattle.chv_types.specs.declared.value.Value.TheVariants.{Whole, Truth, Text, State}
use Rattle.chv_agg.specs.AggregateLaws.{has_few, IsSet}
use Rattle.chv_agg.specs.Plain.{scalar_spelling, values_spelling}
use Rattle.chv_agg.specs.StateBytes.{set_bytes}

-- where fewer than 8 bytes are left, nothing of 8 bytes and more stands
cut_short : (spelling rest bytes : List ℕ) (at : ℕ) → 8 ≤ length spelling → length bytes < at + 8 → drop at bytes ≡ spelling ++ rest → ⊥
cut_short spelling rest bytes at long short same =
    let left : length (drop at bytes) ≡ length (spelling ++ rest) = ap length same in
    omega (arith, short, long, left, length-drop at bytes, length-append spelling rest)

-- a number of 64 bits has 8 bytes
length-number : (n : ℕ) → length (to_le_bytes w64 n) ≡ 8
length-number n = refl

-- where fewer than 8 bytes are left, no number of 64 bits stands
pub none_number : (bytes : List ℕ) (at : ℕ) → length bytes < at + 8 → (n : ℕ) (rest : List ℕ) → drop at bytes ≡ to_le_bytes w64 n ++ rest → ⊥
none_number bytes at short n rest same = cut_short (to_le_bytes w64 n) rest bytes at (omega (arith, length-number n)) short same

-- a value of a kind has a byte or more
pub some_bytes : (plain : Scalar) (value : Value) → IsOfScalar plain value → 1 ≤ length (scalar_spelling plain value)
some_bytes scalar.UInt8 (Whole n) h = omega arith
some_bytes scalar.UInt16 (Whole n) h = omega arith
some_bytes scalar.UInt32 (Whole n) h = omega arith
some_bytes scalar.UInt64 (Whole n) h = omega arith
some_bytes scalar.Int8 (Whole n) h = omega arith
some_bytes scalar.Int16 (Whole n) h = omega arith
some_bytes scalar.Int32 (Whole n) h = omega arith
some_bytes scalar.Int64 (Whole n) h = omega arith
some_bytes scalar.Bool (Whole n) h = absurd h
some_bytes scalar.Text (Whole n) h = absurd h
some_bytes plain (Truth false) h = omega arith
some_bytes plain (Truth true) h = omega arith
some_bytes plain (Text text) h = omega arith
some_bytes plain (State spelling) h = absurd h

-- values have a byte each or more
pub some_bytes_each : (plain : Scalar) (values : List Value) → All (IsOfScalar plain) values → length values ≤ length (values_spelling plain values)
some_bytes_each plain [] h = omega arith
some_bytes_each plain (v ∷ values) h =
    omega (
      arith,
      some_bytes plain v (All-head (IsOfScalar plain) v values h),
      some_bytes_each plain values (All-tail (IsOfScalar plain) v values h),
      length-append (scalar_spelling plain v) (values_spelling plain values),
    )

-- a number that is one of 64 bits
in_range : (n : ℕ) → n < 2 ^ 64 → InRange U64 (pos n)
in_range n h = record { least = omega (arith, ints); greatest = omega (arith, ints, h) }

-- the number in front of a set is how many values it has, and they stand behind it
set_behind : (arg : Scalar) (bytes rest : List ℕ) (at start count : ℕ) (values : List Value) → StandsAt (to_le_bytes w64 count) bytes at start → count < 2 ^ 64 → length values < 2 ^ 64
    → drop at bytes ≡ (to_le_bytes w64 (length values) ++ values_spelling arg values) ++ rest → (length values ≡ count) × (drop start bytes ≡ values_spelling arg values ++ rest)
set_behind arg bytes rest at start count values stands small fits same =
    let e = one_integer U64 (pos count) (pos (length values)) (drop start bytes) (values_spelling arg values ++ rest) (in_range count small) (in_range (length values) fits)
    (sym stands.spelled ∙ same ∙ append_assoc (to_le_bytes w64 (length values)) (values_spelling arg values) rest) in
    (omega (arith, ints, e.0), e.1)

-- where no values of their number that rise stand behind it, no set stands
pub none_set : (arg : Scalar) (bytes : List ℕ) (at start count : ℕ) → StandsAt (to_le_bytes w64 count) bytes at start → count < 2 ^ 64
    → ((values : List Value) (rest : List ℕ) → All (IsOfScalar arg) values → Rises value_cmp values → length values ≡ count → drop start bytes ≡ values_spelling arg values ++ rest → ⊥)
    → (values : List Value) (rest : List ℕ) → IsSet arg values → has_few values → drop at bytes ≡ set_bytes arg values ++ rest → ⊥
none_set arg bytes at start count stands small none values rest h few same =
    let e = set_behind arg bytes rest at start count values stands small few same in
    none values rest h.0 h.1 e.0 e.1

-- where fewer bytes are left than values, there are not so many
pub too_many : (arg : Scalar) (bytes : List ℕ) (start count : ℕ) → length bytes - start < count
    → (values : List Value) (rest : List ℕ) → All (IsOfScalar arg) values → Rises value_cmp values → length values ≡ count → drop start bytes ≡ values_spelling arg values ++ rest → ⊥
too_many arg bytes start count more values rest of rise long same =
    let left : length (drop start bytes) ≡ length (values_spelling arg values ++ rest) = ap length same in
    omega (arith, more, long, left, length-drop start bytes, length-append (values_spelling arg values) rest, some_bytes_each arg values of)
