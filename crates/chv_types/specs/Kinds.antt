-- Kinds of values.
use Rattle.std.specs.Prelude.{◌≤ℤ◌, ◌^◌, ◌-◌, ℕ, ℤ, pos, neg_ℤ, List, codes, Option, Some, None, IsSome}
use Rattle.chv_types.specs.declared.kind.Kind.{Kind}
use Rattle.chv_types.specs.declared.kind.Kind.TheVariants.{Plain, State}
use Rattle.chv_types.specs.declared.kind.Scalar.{Scalar}
use Rattle.chv_types.specs.declared.kind.Scalar.TheVariants.{UInt8, UInt16, UInt32, UInt64, Int8, Int16, Int32, Int64, Bool, Text}

-- the name of a kind
abbrev pub scalar_name : Scalar → List ℕ
scalar_name UInt8 = codes "UInt8"
scalar_name UInt16 = codes "UInt16"
scalar_name UInt32 = codes "UInt32"
scalar_name UInt64 = codes "UInt64"
scalar_name Int8 = codes "Int8"
scalar_name Int16 = codes "Int16"
scalar_name Int32 = codes "Int32"
scalar_name Int64 = codes "Int64"
scalar_name Bool = codes "Bool"
scalar_name Text = codes "String"

-- the least and the greatest number of so many bits without sign
abbrev pub unsigned_range : ℕ → ℤ × ℤ
unsigned_range bits = (pos 0, pos (2 ^ bits - 1))

-- the least and the greatest number of so many bits with sign
abbrev pub signed_range : ℕ → ℤ × ℤ
signed_range bits = (neg_ℤ (pos (2 ^ (bits - 1))), pos (2 ^ (bits - 1) - 1))

-- the least and the greatest number of an integer kind
abbrev pub range_of : Scalar → Option (ℤ × ℤ)
range_of UInt8 = Some (unsigned_range 8)
range_of UInt16 = Some (unsigned_range 16)
range_of UInt32 = Some (unsigned_range 32)
range_of UInt64 = Some (unsigned_range 64)
range_of Int8 = Some (signed_range 8)
range_of Int16 = Some (signed_range 16)
range_of Int32 = Some (signed_range 32)
range_of Int64 = Some (signed_range 64)
range_of Bool = None
range_of Text = None

-- a number lies within a range
abbrev pub LiesIn : Option (ℤ × ℤ) → ℤ → Type 0
LiesIn None n = ⊥
LiesIn (Some range) n = (range.0 ≤ℤ n) × (n ≤ℤ range.1)

-- both are integer kinds, and each number of the first is one of the second
abbrev pub Widens : Kind → Kind → Type 0
Widens (Plain from) (Plain to) =
    IsSome (range_of from) × IsSome (range_of to) × ((n : ℤ) → LiesIn (range_of from) n → LiesIn (range_of to) n)
Widens (Plain from) (State agg to) = ⊥
Widens (State agg from) (Plain to) = ⊥
Widens (State agg from) (State other to) = ⊥
