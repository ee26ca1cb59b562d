-- Integers of eight kinds.
use Rattle.std.proofs.Common.{◌≡◌, ℕ, ℤ, ◌+◌, ◌^◌, ◌<◌, ◌≤◌, List, ◌++◌, length, take, drop, sym, ap, ap₂, ◌∙◌, arith, rules}
use Rattle.std.proofs.lemmas.List.{drop-drop, take-append-drop, take-append-le, take_all}
use Rattle.std.specs.Int.{w128}
use Rattle.byteorder.specs.Endian.{little_bytes, little_number, low_bytes}
use Rattle.byteorder.specs.Numbers.{length-bytes_low_first, little_from-lt}
use Rattle.chv_bytes.specs.Integers.{form_of, width_of, InRange, number_for, integer_for, int_bytes, int_value}
use Rattle.chv_bytes.specs.Places.{AreBytes, StandsAt}
use Rattle.chv_bytes.specs.declared.integer.IntKind.{IntKind}
use Rattle.chv_bytes.proofs.NumberLemmas.{bytes_of_number, same_split}

-- the lowest bytes of an integer of 16 bytes are its number
pub low_bytes-number_for : (kind : IntKind) (v : ℤ) → InRange kind v → low_bytes w128 (width_of kind) v ≡ number_for (width_of kind) v
low_bytes-number_for kind v h = search rules

-- the lowest bytes of an integer of 16 bytes are its bytes
pub low_bytes-put : (kind : IntKind) (v z : ℤ) (width : ℕ) (rest : List ℕ) → z ≡ v → width ≡ width_of kind → InRange kind v
    → take (width_of kind) (little_bytes width (low_bytes w128 width z) ++ rest) ≡ int_bytes kind v
low_bytes-put kind v z width rest is same h =
    let bytes = little_bytes (width_of kind) (low_bytes w128 (width_of kind) v) in
    let long : length bytes ≡ width_of kind = length-bytes_low_first 0 (width_of kind) (low_bytes w128 (width_of kind) v) in
    rw (is, same) (take-append-le (width_of kind) bytes rest (omega (arith, long)) ∙ take_all (width_of kind) bytes (omega (arith, long)) ∙ ap (little_bytes (width_of kind)) (low_bytes-number_for kind v h))

-- the integer of a kind that a number of its bytes is
abbrev integer_of : IntKind → ℕ → ℤ
integer_of kind n = integer_for (form_of kind).signed (width_of kind) n

-- a number of a kind's bytes is that of an integer of the kind
number_is : (kind : IntKind) (n : ℕ) → n < 256 ^ width_of kind → InRange kind (integer_of kind n) × (number_for (width_of kind) (integer_of kind n) ≡ n)
number_is kind n h = (search rules, search rules)

-- what bytes read as is an integer of the kind, and is put as these bytes
pub integer_of_bytes : (kind : IntKind) (bytes : List ℕ) → width_of kind ≤ length bytes → AreBytes bytes
    → InRange kind (int_value kind bytes) × (int_bytes kind (int_value kind bytes) ≡ take (width_of kind) bytes)
integer_of_bytes kind bytes within are =
    let h = number_is kind (little_number (width_of kind) bytes) (little_from-lt 0 (width_of kind) bytes are) in
    (h.0, ap (little_bytes (width_of kind)) h.1 ∙ bytes_of_number (width_of kind) bytes within are)

-- the same of an integer that the bytes read as
pub integer_read : (kind : IntKind) (v : ℤ) (bytes : List ℕ) → v ≡ int_value kind bytes → width_of kind ≤ length bytes → AreBytes bytes
    → InRange kind v × (int_bytes kind v ≡ take (width_of kind) bytes)
integer_read kind v bytes is within are = rw is (integer_of_bytes kind bytes within are)

-- the bytes that an integer is read of stand at their place
pub integer_stands : (kind : IntKind) (v : ℤ) (bytes : List ℕ) (at behind : ℕ) → int_bytes kind v ≡ take (width_of kind) (drop at bytes)
    → behind ≡ at + width_of kind → at + width_of kind ≤ length bytes → StandsAt (int_bytes kind v) bytes at behind
integer_stands kind v bytes at behind is next within =
    let long : length (int_bytes kind v) ≡ width_of kind = length-bytes_low_first 0 (width_of kind) (number_for (width_of kind) v) in
    let rest : drop behind bytes ≡ drop (width_of kind) (drop at bytes) = ap (λ (n : ℕ). drop n bytes) next ∙ sym (drop-drop (width_of kind) at bytes) in
    record {
      next = omega (arith, long);
      within = omega arith;
      spelled = sym (ap₂ (λ (x y : List ℕ). x ++ y) is rest ∙ take-append-drop (width_of kind) (drop at bytes));
    }

-- what an integer is put as reads back as the integer
pub integer_reads_back : (kind : IntKind) (v : ℤ) (rest : List ℕ) → InRange kind v → int_value kind (int_bytes kind v ++ rest) ≡ v
integer_reads_back kind v rest h = search rules

-- bytes begin with one integer of a kind at most
pub one_integer : (kind : IntKind) (v w : ℤ) (x y : List ℕ) → InRange kind v → InRange kind w → int_bytes kind v ++ x ≡ int_bytes kind w ++ y → (v ≡ w) × (x ≡ y)
one_integer kind v w x y of_v of_w same =
    let long : length (int_bytes kind v) ≡ length (int_bytes kind w) =
    length-bytes_low_first 0 (width_of kind) (number_for (width_of kind) v) ∙ sym (length-bytes_low_first 0 (width_of kind) (number_for (width_of kind) w)) in (
      sym (integer_reads_back kind v x of_v) ∙ ap (int_value kind) same ∙ integer_reads_back kind w y of_w,
      (same_split (int_bytes kind v) (int_bytes kind w) x y long same).1,
    )
