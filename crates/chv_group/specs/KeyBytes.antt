-- The bytes by which a key is found.
use Rattle.std.specs.Prelude.{ℕ, ℤ, ◌≡◌, ◌<◌, ◌<ℤ◌, ◌^◌, List, [], ◌∷◌, ◌++◌, length, map}
use Rattle.std.specs.Int.{cast_unsigned, to_le_bytes, w64, w128}
use Rattle.std.specs.Int.RustNames.{FitsSigned}
use Rattle.std.specs.List.{All}
use Rattle.std.specs.declared.alloc.Global.{Global}
use Rattle.std.specs.declared.vec.Vec.{Vec}
use Rattle.chv_agg.specs.Plain.{truth_spelling}
use Rattle.chv_types.specs.declared.value.Value.{Value}
use Rattle.chv_types.specs.declared.value.Value.TheVariants.{Whole, Truth, Text, State}

-- a length in 8 bytes
unfoldable pub length_bytes : ℕ → List ℕ
length_bytes n = to_le_bytes w64 n

-- bytes behind their length
abbrev pub measured : List ℕ → List ℕ
measured bytes = length_bytes (length bytes) ++ bytes

-- a number in 16 bytes
unfoldable pub number_bytes : ℤ → List ℕ
number_bytes n = to_le_bytes w128 (cast_unsigned w128 n)

-- a value by its sort: a number in 16 bytes, a truth in one, or the bytes of a text or state behind their length
abbrev pub value_bytes : Value → List ℕ
value_bytes (Whole n) = 0 ∷ number_bytes n
value_bytes (Truth truth) = 1 ∷ truth_spelling truth
value_bytes (Text text) = 2 ∷ measured text
value_bytes (State spelling) = 3 ∷ measured spelling

-- the values of a key, one behind the other
abbrev pub key_bytes : List Value → List ℕ
key_bytes [] = []
key_bytes (value ∷ values) = value_bytes value ++ key_bytes values

-- a value is one that a machine holds: a number has 128 bits, and bytes have fewer than 2^64
abbrev pub IsHeld : Value → Type 0
IsHeld (Whole n) = FitsSigned w128 n
IsHeld (Truth truth) = Unit {0}
IsHeld (Text text) = length text < 2 ^ 64
IsHeld (State spelling) = length spelling < 2 ^ 64

-- the bytes of vectors
abbrev pub texts_of : List (Vec ℕ Global) → List (List ℕ)
texts_of keys = map (λ key. key.items) keys

-- the bytes of the key that is one number
abbrev pub number_name : ℤ → List ℕ
number_name n = key_bytes (Whole n ∷ [])

-- the bytes of keys of one number, and behind them those of vectors
abbrev pub names_of : List ℤ → List (Vec ℕ Global) → List (List ℕ)
names_of numbers keys = map number_name numbers ++ texts_of keys

-- each number is below those behind it
abbrev pub Climb : List ℤ → Type 0
Climb [] = Unit {0}
Climb (n ∷ numbers) = All (λ m. n <ℤ m) numbers × Climb numbers

-- numbers that climb, or behind none of them others
pub record AreKept (climbing numbers : List ℤ) : Type 0 where
  pub fit : All (FitsSigned w128) (climbing ++ numbers)
  pub climb : Climb climbing
  pub alone : 0 < length climbing → numbers ≡ []
