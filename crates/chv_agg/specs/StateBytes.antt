-- States in bytes: docs/FORMATS.md, "States".
use Rattle.std.specs.Prelude.{ℕ, ℤ, zero, suc, Bool, true, false, ◌&&◌, nat_le, nat_lt, if◌then◌else◌, List, [], ◌∷◌, ◌++◌, length, take, drop, Option, None, Some, ◌≡◌}
use Rattle.std.specs.Int.{w64, to_le_bytes}
use Rattle.std.specs.Option.{option_map, option_and_then, unwrap_or}
use Rattle.std.specs.Ordering.{is_lt}
use Rattle.std.specs.Str.{bytes_eq}
use Rattle.byteorder.specs.Endian.{little_number}
use Rattle.chv_agg.specs.Plain.{integers_of, scalar_spelling, values_spelling}
use Rattle.chv_agg.specs.States.{FitsState, is_signed, join, unit_of}
use Rattle.chv_agg.specs.declared.any_agg.AnyAgg.{AnyAgg}
use Rattle.chv_agg.specs.declared.any_agg.AnyAgg.TheVariants.{Count, SumU, SumI, Least, Greatest, Uniq}
use Rattle.chv_bytes.specs.Integers.{int_bytes, int_value, width_of}
use Rattle.chv_bytes.specs.declared.integer.IntKind.{IntKind}
use Rattle.chv_bytes.specs.declared.integer.IntKind.TheVariants.{I64}
use Rattle.chv_types.specs.Order.{value_cmp}
use Rattle.chv_types.specs.declared.aggregate.AggName.{AggName}
use Rattle.chv_types.specs.declared.aggregate.AggName.TheVariants as agg
use Rattle.chv_types.specs.declared.kind.Scalar.{Scalar}
use Rattle.chv_types.specs.declared.kind.Scalar.TheVariants as scalar
use Rattle.chv_types.specs.declared.value.Value.{Value}
use Rattle.chv_types.specs.declared.value.Value.TheVariants.{Whole, Truth, Text}

-- the number of an aggregate function
abbrev pub agg_number : AggName → ℕ
agg_number agg.Count = 0
agg_number agg.Sum = 1
agg_number agg.Min = 2
agg_number agg.Max = 3
agg_number agg.UniqExact = 4

-- 0, or 1 and the value
abbrev pub found_bytes : Scalar → Option Value → List ℕ
found_bytes arg None = 0 ∷ []
found_bytes arg (Some value) = 1 ∷ scalar_spelling arg value

-- a number of 64 bits in bytes, over values of any kind: without sign, and with one
abbrev pub unsigned_bytes : Scalar → ℕ → List ℕ
unsigned_bytes arg n = to_le_bytes w64 n

abbrev pub signed_bytes : Scalar → ℤ → List ℕ
signed_bytes arg n = int_bytes I64 n

-- how many values there are, and the values
abbrev pub set_bytes : Scalar → List Value → List ℕ
set_bytes arg values = to_le_bytes w64 (length values) ++ values_spelling arg values

-- a state over values of a kind in bytes
unfoldable pub state_bytes : Scalar → AnyAgg → List ℕ
state_bytes arg (Count n) = unsigned_bytes arg n
state_bytes arg (SumU n) = unsigned_bytes arg n
state_bytes arg (SumI n) = signed_bytes arg n
state_bytes arg (Least found) = found_bytes arg found
state_bytes arg (Greatest found) = found_bytes arg found
state_bytes arg (Uniq values) = set_bytes arg values

-- bytes are those of a state of the function over values of the kind
pub record AreState (agg : AggName) (arg : Scalar) (bytes : List ℕ) : Type 0 where
  pub state : AnyAgg
  pub fits : FitsState agg arg state
  pub spelled : bytes ≡ state_bytes arg state

-- the first of so many bytes and what is behind them, where they are there
abbrev pub front_of : ℕ → List ℕ → Option (List ℕ × List ℕ)
front_of size bytes = if nat_le size (length bytes) then Some (take size bytes, drop size bytes) else None

-- each number of a list is a byte
abbrev pub are_bytes : List ℕ → Bool
are_bytes [] = true
are_bytes (byte ∷ bytes) = nat_lt byte 256 && are_bytes bytes

-- the first of so many numbers and what is behind them, where they are there and are bytes
abbrev pub word_of : ℕ → List ℕ → Option (List ℕ × List ℕ)
word_of size bytes = option_and_then (λ cut. if are_bytes cut.0 then Some cut else None) (front_of size bytes)

-- the integer in front of bytes
abbrev pub whole_in : Option IntKind → List ℕ → Option (Value × List ℕ)
whole_in None bytes = None
whole_in (Some integers) bytes = option_map (λ cut. (Whole (int_value integers cut.0), cut.1)) (word_of (width_of integers) bytes)

-- the truth in front of bytes
abbrev pub truth_in : List ℕ → Option (Value × List ℕ)
truth_in (zero ∷ bytes) = Some (Truth false, bytes)
truth_in (suc zero ∷ bytes) = Some (Truth true, bytes)
truth_in other = None

-- the text in front of bytes, behind its length, which is 1,048,576 at most
abbrev pub text_in : List ℕ → Option (Value × List ℕ)
text_in bytes =
    option_and_then (λ head.
    if nat_le (little_number 4 head.0) 1048576
    then option_map (λ cut. (Text cut.0, cut.1)) (front_of (little_number 4 head.0) head.1)
    else None) (word_of 4 bytes)

-- the value of a kind in front of bytes
unfoldable pub scalar_in : Scalar → List ℕ → Option (Value × List ℕ)
scalar_in scalar.Bool bytes = truth_in bytes
scalar_in scalar.Text bytes = text_in bytes
scalar_in plain bytes = whole_in (integers_of plain) bytes

-- so many values of a kind in front of bytes
abbrev pub values_in : ℕ → Scalar → List ℕ → Option (List Value × List ℕ)
values_in zero arg bytes = Some ([], bytes)
values_in (suc count) arg bytes =
    option_and_then (λ first. option_map (λ rest. (first.0 ∷ rest.0, rest.1)) (values_in count arg first.1)) (scalar_in arg bytes)

-- a list rises
abbrev pub rises : List Value → Bool
rises [] = true
rises (value ∷ []) = true
rises (value ∷ (next ∷ values)) = is_lt (value_cmp value next) && rises (next ∷ values)

-- the value in front of bytes, behind the byte 1, or none behind the byte 0
abbrev pub found_in : Scalar → List ℕ → Option (Option Value × List ℕ)
found_in arg (zero ∷ bytes) = Some (None, bytes)
found_in arg (suc zero ∷ bytes) = option_map (λ read. (Some read.0, read.1)) (scalar_in arg bytes)
found_in arg other = None

-- the values of a list in front of bytes, behind their number, where they rise
abbrev pub uniq_in : Scalar → List ℕ → Option (AnyAgg × List ℕ)
uniq_in arg bytes =
    option_and_then (λ head. option_and_then (λ read. if rises read.0 then Some (Uniq read.0, read.1) else None)
    (values_in (little_number 8 head.0) arg head.1)) (word_of 8 bytes)

-- the sum in front of bytes
abbrev pub sum_in : Bool → List ℕ → Option (AnyAgg × List ℕ)
sum_in false bytes = option_map (λ cut. (SumU (little_number 8 cut.0), cut.1)) (word_of 8 bytes)
sum_in true bytes = option_map (λ cut. (SumI (int_value I64 cut.0), cut.1)) (word_of 8 bytes)

-- the state of a function over values of a kind in front of bytes
unfoldable pub state_front : AggName → Scalar → List ℕ → Option (AnyAgg × List ℕ)
state_front agg.Count arg bytes = option_map (λ cut. (Count (little_number 8 cut.0), cut.1)) (word_of 8 bytes)
state_front agg.Sum arg bytes = sum_in (is_signed arg) bytes
state_front agg.Min arg bytes = option_map (λ read. (Least read.0, read.1)) (found_in arg bytes)
state_front agg.Max arg bytes = option_map (λ read. (Greatest read.0, read.1)) (found_in arg bytes)
state_front agg.UniqExact arg bytes = uniq_in arg bytes

-- a state with nothing behind it
abbrev pub whole_state : AnyAgg → Option (AnyAgg × List ℕ) → AnyAgg
whole_state unit None = unit
whole_state unit (Some (state, [])) = state
whole_state unit (Some (state, byte ∷ bytes)) = unit

-- the values of a kind that bytes spell up to their end, of which there are so many at most
abbrev pub values_up_to : ℕ → Scalar → List ℕ → Option (List Value)
values_up_to most arg [] = Some []
values_up_to zero arg (byte ∷ bytes) = None
values_up_to (suc most) arg (byte ∷ bytes) =
    option_and_then (λ first. option_map (λ rest. first.0 ∷ rest) (values_up_to most arg first.1)) (scalar_in arg (byte ∷ bytes))

-- the set that bytes spell: where it has 2^64 values or more, which no memory holds, their number stands modulo 2^64
abbrev pub whole_set : Scalar → List ℕ → Option AnyAgg
whole_set arg bytes =
    option_and_then (λ values. if rises values && bytes_eq bytes (set_bytes arg values) then Some (Uniq values) else None)
    (values_up_to (length bytes) arg (drop 8 bytes))

-- the state that bytes spell; of bytes that spell none it is the state of no values
unfoldable pub state_in : AggName → Scalar → List ℕ → AnyAgg
state_in agg.UniqExact arg bytes = unwrap_or (whole_set arg bytes) (Uniq [])
state_in agg arg bytes = whole_state (unit_of agg arg) (state_front agg arg bytes)

-- the bytes of the state that two states in bytes are joined to
abbrev pub join_bytes : AggName → Scalar → List ℕ → List ℕ → List ℕ
join_bytes agg arg a b = state_bytes arg (join (state_in agg arg a) (state_in agg arg b))
