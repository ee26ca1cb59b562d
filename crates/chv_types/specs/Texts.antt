-- The values that texts write.
use Rattle.std.specs.Prelude.{ℕ, ◌+◌, ◌-◌, ◌*◌, ◌^◌, ℤ, Bool, pos, neg_ℤ, int_le, nat_lt, nat_le, ◌==◌, ◌&&◌, ◌||◌, true, false, cond, List, [], ◌∷◌, length, codes, Option, Some, None}
use Rattle.std.specs.Char.{is_ascii_digit}
use Rattle.std.specs.List.{fold, list_all}
use Rattle.std.specs.Option.{option_map, option_and_then}
use Rattle.std.specs.Str.{bytes_eq}
use Rattle.chv_types.specs.Kinds.{range_of}
use Rattle.chv_types.specs.declared.kind.Scalar.{Scalar}
use Rattle.chv_types.specs.declared.kind.Scalar.TheVariants as scalar
use Rattle.chv_types.specs.declared.value.Value.{Value}
use Rattle.chv_types.specs.declared.value.Value.TheVariants.{Whole, Truth, Text}

-- a number with one digit more behind it
abbrev pub with_digit : ℕ → ℕ → ℕ
with_digit n digit = 10 * n + (digit - 48)

-- one decimal digit or more
abbrev pub are_digits : List ℕ → Bool
are_digits text = nat_lt 0 (length text) && list_all is_ascii_digit text

-- the number of decimal digits, of which there is one at least
unfoldable pub digits_number : List ℕ → Option ℕ
digits_number text = cond (are_digits text) (Some (fold with_digit 0 text)) None

-- a number that has 64 bits
unfoldable pub small : ℕ → Option ℕ
small n = cond (nat_lt n (2 ^ 64)) (Some n) None

-- the number of decimal digits, where it has 64 bits
abbrev pub whole_number : List ℕ → Option ℕ
whole_number text = option_and_then small (digits_number text)

-- the number of digits, or of a minus sign and digits
abbrev pub signed_number : List ℕ → Option ℤ
signed_number [] = None
signed_number (byte ∷ bytes) =
    cond (byte == 45) (option_map (λ n. neg_ℤ (pos n)) (digits_number bytes)) (option_map pos (digits_number (byte ∷ bytes)))

-- a number, where it lies within the range
unfoldable pub within : ℤ × ℤ → ℤ → Option Value
within range n = cond (int_le range.0 n && int_le n range.1) (Some (Whole n)) None

-- the number that a text writes, where it lies within the range
abbrev pub whole_of : Option (ℤ × ℤ) → List ℕ → Option Value
whole_of None text = None
whole_of (Some range) text = option_and_then (within range) (signed_number text)

-- `true` or 1, `false` or 0
unfoldable pub truth_of : List ℕ → Option Value
truth_of text =
    cond (bytes_eq text (codes "true") || bytes_eq text (codes "1")) (Some (Truth true))
    (cond (bytes_eq text (codes "false") || bytes_eq text (codes "0")) (Some (Truth false)) None)

-- the text itself, of 1,048,576 bytes at most
unfoldable pub text_of : List ℕ → Option Value
text_of text = cond (nat_le (length text) 1048576) (Some (Text text)) None

-- the value of a kind that a text writes
abbrev pub value_of : Scalar → List ℕ → Option Value
value_of scalar.Bool text = truth_of text
value_of scalar.Text text = text_of text
value_of integers text = whole_of (range_of integers) text
