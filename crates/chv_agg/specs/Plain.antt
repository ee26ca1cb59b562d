-- Plain values in bytes: docs/FORMATS.md, "Values".
use Rattle.std.specs.Prelude.{ℕ, ℤ, List, [], ◌∷◌, ◌++◌, Option, Some, None, Bool, true, false}
use Rattle.chv_bytes.specs.Integers.{int_bytes}
use Rattle.chv_bytes.specs.Runs.{run_bytes}
use Rattle.chv_bytes.specs.declared.integer.IntKind.{IntKind}
use Rattle.chv_bytes.specs.declared.integer.IntKind.TheVariants.{U8, U16, U32, U64, I8, I16, I32, I64}
use Rattle.chv_types.specs.declared.kind.Scalar.{Scalar}
use Rattle.chv_types.specs.declared.kind.Scalar.TheVariants as scalar
use Rattle.chv_types.specs.declared.value.Value.{Value}
use Rattle.chv_types.specs.declared.value.Value.TheVariants.{Whole, Truth, Text, State}

-- the code of a kind of plain values
abbrev pub scalar_code : Scalar → ℕ
scalar_code scalar.UInt8 = 1
scalar_code scalar.UInt16 = 2
scalar_code scalar.UInt32 = 3
scalar_code scalar.UInt64 = 4
scalar_code scalar.Int8 = 5
scalar_code scalar.Int16 = 6
scalar_code scalar.Int32 = 7
scalar_code scalar.Int64 = 8
scalar_code scalar.Bool = 9
scalar_code scalar.Text = 10

-- the integers of a kind, where it has integers
abbrev pub integers_of : Scalar → Option IntKind
integers_of scalar.UInt8 = Some U8
integers_of scalar.UInt16 = Some U16
integers_of scalar.UInt32 = Some U32
integers_of scalar.UInt64 = Some U64
integers_of scalar.Int8 = Some I8
integers_of scalar.Int16 = Some I16
integers_of scalar.Int32 = Some I32
integers_of scalar.Int64 = Some I64
integers_of scalar.Bool = None
integers_of scalar.Text = None

-- an integer in its kind's width
abbrev pub whole_spelling : Option IntKind → ℤ → List ℕ
whole_spelling None n = []
whole_spelling (Some integers) n = int_bytes integers n

-- a truth in one byte
abbrev pub truth_spelling : Bool → List ℕ
truth_spelling false = 0 ∷ []
truth_spelling true = 1 ∷ []

-- a value of a kind of plain values in bytes
abbrev pub scalar_spelling : Scalar → Value → List ℕ
scalar_spelling plain (Whole n) = whole_spelling (integers_of plain) n
scalar_spelling plain (Truth truth) = truth_spelling truth
scalar_spelling plain (Text text) = run_bytes text
scalar_spelling plain (State spelling) = spelling

-- values of a kind in bytes, one behind the other
abbrev pub values_spelling : Scalar → List Value → List ℕ
values_spelling plain [] = []
values_spelling plain (value ∷ values) = scalar_spelling plain value ++ values_spelling plain values
