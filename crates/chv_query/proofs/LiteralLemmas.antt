-- Values that texts write, and their kinds.
use Rattle.std.proofs.Common.{◌≡◌, ◌≢◌, ℕ, ℤ, Bool, true, false, List, length, Option, None, Some, refl, rules, tests, cond}
use Rattle.std.specs.Prelude.{nat_le, int_le, ◌&&◌}
use Rattle.std.specs.Option.{option_and_then}
use Rattle.chv_types.specs.Kinds.{range_of}
use Rattle.chv_types.specs.Texts.{value_of, within, signed_number, truth_of, text_of}
use Rattle.chv_types.specs.declared.kind.Scalar.{Scalar}
use Rattle.chv_types.specs.declared.kind.Scalar.TheVariants.{UInt8, UInt16, UInt32, UInt64, Int8, Int16, Int32, Int64, Bool as Truths, Text}
use Rattle.chv_types.specs.declared.value.Value.{Value}
use Rattle.chv_types.specs.declared.value.Value.TheVariants as value
use Rattle.chv_types.specs.Fits.{IsOfScalar}
use Rattle.chv_query.specs.Literals.{or_bad, whole_value}

-- what stands behind a test is given where it holds
kept : {A : Type 0} (test : Bool) (a b : A) → cond test (Some a) None ≡ Some b → (test ≡ true) × (a ≡ b)
kept true a b e = (refl, cc)
kept false a b e = cc

either_truth : (first second : Bool) (v : Value) → cond first (Some (value.Truth true)) (cond second (Some (value.Truth false)) None) ≡ Some v → IsOfScalar Truths v
either_truth true second v e =
    let is : value.Truth true ≡ v = cc in rw (← is) refl
either_truth false true v e =
    let is : value.Truth false ≡ v = cc in rw (← is) refl
either_truth false false v e = cc

-- a number that lies within the range of a kind is of the kind
number_kind : (plain : Scalar) (range : ℤ × ℤ) (n : Option ℤ) (v : Value) → range_of plain ≡ Some range → option_and_then (within range) n ≡ Some v → IsOfScalar plain v
unfolding within
number_kind plain range None v is e = cc
number_kind plain range (Some n) v is e =
    let k : (int_le range.0 n && int_le n range.1 ≡ true) × (value.Whole n ≡ v) = kept _ _ v e in
    rw (← k.1) (rw is (search (rules, tests)))

-- a truth is of the kind Bool
truth_kind : (text : List ℕ) (v : Value) → truth_of text ≡ Some v → IsOfScalar Truths v
unfolding truth_of
truth_kind text v e = either_truth _ _ v e

text_kind : (text : List ℕ) (v : Value) → text_of text ≡ Some v → IsOfScalar Text v
unfolding text_of
text_kind text v e =
    let k : (nat_le (length text) 1048576 ≡ true) × (value.Text text ≡ v) = kept _ _ v e in
    rw (← k.1) (refl, search (rules, tests))

-- what a text writes for a kind is of the kind
pub value_of_kind : (plain : Scalar) (text : List ℕ) (v : Value) → value_of plain text ≡ Some v → IsOfScalar plain v
value_of_kind UInt8 text v e = number_kind UInt8 _ (signed_number text) v refl e
value_of_kind UInt16 text v e = number_kind UInt16 _ (signed_number text) v refl e
value_of_kind UInt32 text v e = number_kind UInt32 _ (signed_number text) v refl e
value_of_kind UInt64 text v e = number_kind UInt64 _ (signed_number text) v refl e
value_of_kind Int8 text v e = number_kind Int8 _ (signed_number text) v refl e
value_of_kind Int16 text v e = number_kind Int16 _ (signed_number text) v refl e
value_of_kind Int32 text v e = number_kind Int32 _ (signed_number text) v refl e
value_of_kind Int64 text v e = number_kind Int64 _ (signed_number text) v refl e
value_of_kind Truths text v e = truth_kind text v e
value_of_kind Text text v e = text_kind text v e

-- a number has a value in each kind but that of texts
pub whole_value_number : (plain : Scalar) (text : List ℕ) → plain ≢ Text → whole_value plain text ≡ or_bad (value_of plain text)
whole_value_number UInt8 text number = refl
whole_value_number UInt16 text number = refl
whole_value_number UInt32 text number = refl
whole_value_number UInt64 text number = refl
whole_value_number Int8 text number = refl
whole_value_number Int16 text number = refl
whole_value_number Int32 text number = refl
whole_value_number Int64 text number = refl
whole_value_number Truths text number = refl
whole_value_number Text text number = absurd (number refl)
