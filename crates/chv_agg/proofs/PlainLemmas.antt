-- Where no value of a plain kind stands in bytes.
use Rattle.std.proofs.Common.{◌≡◌, ℕ, ℤ, ◌+◌, ◌<◌, ◌≤◌, List, ◌++◌, length, drop, Option, Some, None, refl, sym, ap, subst, ◌∙◌, arith, length-append, length-drop}
use Rattle.chv_bytes.specs.Integers.{width_of, int_bytes}
use Rattle.chv_bytes.specs.declared.integer.IntKind.{IntKind}
use Rattle.chv_bytes.specs.declared.integer.IntKind.TheVariants.{U8, U16, U32, U64, I8, I16, I32, I64}
use Rattle.chv_types.specs.Fits.{IsOfScalar}
use Rattle.chv_types.specs.declared.kind.Scalar.{Scalar}
use Rattle.chv_types.specs.declared.value.Value.{Value}
use Rattle.chv_types.specs.declared.value.Value.TheVariants.{Whole, Truth, Text, State}
use Rattle.chv_agg.specs.Plain.{integers_of, whole_spelling, scalar_spelling}

-- an integer has as many bytes as its kind
length-int_bytes : (integers : IntKind) (n : ℤ) → length (int_bytes integers n) ≡ width_of integers
length-int_bytes U8 n = refl
length-int_bytes U16 n = refl
length-int_bytes U32 n = refl
length-int_bytes U64 n = refl
length-int_bytes I8 n = refl
length-int_bytes I16 n = refl
length-int_bytes I32 n = refl
length-int_bytes I64 n = refl

-- an integer has a byte at least
one_at_least : (integers : IntKind) → 1 ≤ width_of integers
one_at_least U8 = omega arith
one_at_least U16 = omega arith
one_at_least U32 = omega arith
one_at_least U64 = omega arith
one_at_least I8 = omega arith
one_at_least I16 = omega arith
one_at_least I32 = omega arith
one_at_least I64 = omega arith

-- where fewer bytes are left than an integer has, there is none
pub too_short : (integers : IntKind) (n : ℤ) (rest bytes : List ℕ) (at : ℕ) → length bytes < at + width_of integers → drop at bytes ≡ int_bytes integers n ++ rest → ⊥
too_short integers n rest bytes at short same =
    let left : length (drop at bytes) ≡ length (int_bytes integers n ++ rest) = ap length same in
    let wide : width_of integers ≡ length (int_bytes integers n) = sym (length-int_bytes integers n) in
    let some : 1 ≤ width_of integers = one_at_least integers in
    omega (arith, short, left, wide, some, length-drop at bytes, length-append (int_bytes integers n) rest)

-- where fewer bytes are left than an integer of the kind has, no value of the kind is spelled
pub none_whole : (plain : Scalar) (integers : IntKind) (bytes : List ℕ) (at : ℕ) → integers_of plain ≡ Some integers → length bytes < at + width_of integers
    → (value : Value) (rest : List ℕ) → IsOfScalar plain value → drop at bytes ≡ scalar_spelling plain value ++ rest → ⊥
none_whole plain integers bytes at is short (Whole n) rest h same =
    too_short integers n rest bytes at short (same ∙ ap (λ (of : Option IntKind). whole_spelling of n ++ rest) is)
none_whole plain integers bytes at is short (Truth b) rest h same =
    let none : None ≡ Some integers = subst (λ (s : Scalar). integers_of s ≡ Some integers) h is in cc
none_whole plain integers bytes at is short (Text text) rest h same =
    let none : None ≡ Some integers = subst (λ (s : Scalar). integers_of s ≡ Some integers) h.0 is in cc
none_whole plain integers bytes at is short (State spelling) rest h same = absurd h
