-- The states of each aggregate function: docs/SQL.md, "Aggregate functions".
use Rattle.std.specs.Prelude.{ℕ, ℤ, pos, ◌+ℤ◌, ◌+◌, ◌%◌, ◌^◌, List, [], ◌∷◌, ◌++◌, length, Option, Some}
use Rattle.std.specs.Option.{unwrap_or}
use Rattle.chv_agg.specs.AggregateLaws.{IsSigned, IsUnsigned}
use Rattle.chv_agg.specs.States.{signed_of, unsigned_of}
use Rattle.chv_types.specs.Members.{members}
use Rattle.chv_types.specs.Order.{number, value_cmp}
use Rattle.chv_types.specs.declared.kind.Scalar.{Scalar}
use Rattle.chv_types.specs.Values.{plain_default}
use Rattle.chv_types.specs.declared.value.Value.{Value}
use Rattle.chv_types.specs.declared.value.Value.TheVariants.{Whole}

-- a number of 64 bits without sign, over values of any kind
abbrev pub unsigned_fits : Scalar → ℕ → Type 0
unsigned_fits arg n = IsUnsigned n

-- two numbers without sign as one, modulo 2^64
abbrev pub unsigned_join : ℕ → ℕ → ℕ
unsigned_join m n = (m + n) % 2 ^ 64

-- a value counts for one
abbrev pub count_one : Value → ℕ
count_one value = 1

-- the number of a value, modulo 2^64
abbrev pub unsigned_one : Value → ℕ
unsigned_one value = unsigned_of (number value)

-- a number of 64 bits with sign, over values of any kind
abbrev pub signed_fits : Scalar → ℤ → Type 0
signed_fits arg n = IsSigned n

-- two numbers with sign as one, modulo 2^64
abbrev pub signed_join : ℤ → ℤ → ℤ
signed_join m n = signed_of (m +ℤ n)

-- the number of a value with a sign, modulo 2^64
abbrev pub signed_one : Value → ℤ
signed_one value = signed_of (number value)

-- a value was found
abbrev pub found_one : Value → Option Value
found_one value = Some value

-- two sets as one
abbrev pub set_join : List Value → List Value → List Value
set_join a b = members value_cmp (a ++ b)

-- the set of one value
abbrev pub set_one : Value → List Value
set_one value = value ∷ []

-- a number without sign as a value
abbrev pub unsigned_value : Scalar → ℕ → Value
unsigned_value arg n = Whole (pos n)

-- a number with sign as a value
abbrev pub signed_value : Scalar → ℤ → Value
signed_value arg n = Whole n

-- what was found, or the default of the kind
abbrev pub found_value : Scalar → Option Value → Value
found_value arg found = unwrap_or found (plain_default arg)

-- how many values a set has, as a value
abbrev pub set_value : Scalar → List Value → Value
set_value arg values = Whole (pos (length values))
