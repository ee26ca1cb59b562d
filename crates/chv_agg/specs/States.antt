-- States of aggregate functions: docs/SQL.md, "Aggregate functions".
use Rattle.std.specs.Prelude.{ℕ, ℤ, pos, ◌≡◌, ◌+◌, ◌+ℤ◌, ◌%◌, ◌^◌, ◌<◌, ◌≤ℤ◌, ◌-◌, neg_ℤ, Bool, true, false, if◌then◌else◌, nat_le, List, [], ◌∷◌, ◌++◌, length, map, Option, None, Some}
use Rattle.std.specs.Int.{w64, int_wrap, cast_unsigned}
use Rattle.std.specs.List.{All, fold}
use Rattle.std.specs.Option.{unwrap_or}
use Rattle.chv_types.specs.Fits.{IsOfScalar}
use Rattle.chv_types.specs.Members.{by_order, members, Rises}
use Rattle.chv_types.specs.Order.{number, value_cmp}
use Rattle.chv_types.specs.Values.{plain_default}
use Rattle.chv_types.specs.declared.aggregate.AggName.{AggName}
use Rattle.chv_types.specs.declared.aggregate.AggName.TheVariants as agg
use Rattle.chv_types.specs.declared.kind.Scalar.{Scalar}
use Rattle.chv_types.specs.declared.kind.Scalar.TheVariants as scalar
use Rattle.chv_types.specs.declared.value.Value.{Value}
use Rattle.chv_types.specs.declared.value.Value.TheVariants.{Whole}
use Rattle.chv_agg.specs.declared.any_agg.AnyAgg.{AnyAgg}
use Rattle.chv_agg.specs.declared.any_agg.AnyAgg.TheVariants.{Count, SumU, SumI, Least, Greatest, Uniq}

-- a kind has integers below zero
abbrev pub is_signed : Scalar → Bool
is_signed scalar.Int8 = true
is_signed scalar.Int16 = true
is_signed scalar.Int32 = true
is_signed scalar.Int64 = true
is_signed other = false

-- the number of 64 bits without sign that is equal to an integer modulo 2^64
abbrev pub unsigned_of : ℤ → ℕ
unsigned_of n = cast_unsigned w64 (int_wrap w64 n)

-- the number of 64 bits with sign that is equal to an integer modulo 2^64
abbrev pub signed_of : ℤ → ℤ
signed_of n = int_wrap w64 n

-- the state of no values
abbrev pub unit_of : AggName → Scalar → AnyAgg
unit_of agg.Count arg = Count 0
unit_of agg.Sum arg = if is_signed arg then SumI (pos 0) else SumU 0
unit_of agg.Min arg = Least None
unit_of agg.Max arg = Greatest None
unit_of agg.UniqExact arg = Uniq []

-- the state of one value, of the function of another state
abbrev pub one_like : AnyAgg → Value → AnyAgg
one_like (Count n) value = Count 1
one_like (SumU n) value = SumU (unsigned_of (number value))
one_like (SumI n) value = SumI (signed_of (number value))
one_like (Least found) value = Least (Some value)
one_like (Greatest found) value = Greatest (Some value)
one_like (Uniq values) value = Uniq (value ∷ [])

-- the lower of two values
abbrev pub lower : Value → Value → Value
lower a b = by_order (value_cmp a b) a a b

-- the higher of two values
abbrev pub higher : Value → Value → Value
higher a b = by_order (value_cmp a b) b a a

-- one of two values, where both are there
abbrev pub either_by : (Value → Value → Value) → Option Value → Option Value → Option Value
either_by choose None b = b
either_by choose (Some a) None = Some a
either_by choose (Some a) (Some b) = Some (choose a b)

-- states of different functions stand in this order
abbrev pub rank : AnyAgg → ℕ
rank (Count n) = 0
rank (SumU n) = 1
rank (SumI n) = 2
rank (Least found) = 3
rank (Greatest found) = 4
rank (Uniq values) = 5

-- two states of one function as one; of states of different functions the first by rank
unfoldable pub join : AnyAgg → AnyAgg → AnyAgg
join (Count m) (Count n) = Count ((m + n) % 2 ^ 64)
join (SumU m) (SumU n) = SumU ((m + n) % 2 ^ 64)
join (SumI m) (SumI n) = SumI (signed_of (m +ℤ n))
join (Least a) (Least b) = Least (either_by lower a b)
join (Greatest a) (Greatest b) = Greatest (either_by higher a b)
join (Uniq a) (Uniq b) = Uniq (members value_cmp (a ++ b))
join a b = if nat_le (rank a) (rank b) then a else b

-- how many values the set of a state has
abbrev pub set_size : AnyAgg → ℕ
set_size (Uniq values) = length values
set_size other = 0

-- states one after the other, behind a first one, as one
abbrev pub merged : AnyAgg → List AnyAgg → AnyAgg
merged = fold join

-- the state of a list of values
abbrev pub state_of : AggName → Scalar → List Value → AnyAgg
state_of agg arg values = merged (unit_of agg arg) (map (one_like (unit_of agg arg)) values)

-- the value of a state: of no values at all the least and the greatest are the default of their kind
abbrev pub value_of : Scalar → AnyAgg → Value
value_of arg (Count n) = Whole (pos n)
value_of arg (SumU n) = Whole (pos n)
value_of arg (SumI n) = Whole n
value_of arg (Least found) = unwrap_or found (plain_default arg)
value_of arg (Greatest found) = unwrap_or found (plain_default arg)
value_of arg (Uniq values) = Whole (pos (length values))

-- a value is of a kind, where it is there
abbrev pub FitsFound : Scalar → Option Value → Type 0
FitsFound arg None = Unit {0}
FitsFound arg (Some value) = IsOfScalar arg value

-- a state is one of the function over values of the kind
abbrev pub FitsState : AggName → Scalar → AnyAgg → Type 0
FitsState agg.Count arg (Count n) = n < 2 ^ 64
FitsState agg.Sum arg (SumU n) = (is_signed arg ≡ false) × (n < 2 ^ 64)
FitsState agg.Sum arg (SumI n) = (is_signed arg ≡ true) × (neg_ℤ (pos (2 ^ 63)) ≤ℤ n) × (n ≤ℤ pos (2 ^ 63 - 1))
FitsState agg.Min arg (Least found) = FitsFound arg found
FitsState agg.Max arg (Greatest found) = FitsFound arg found
FitsState agg.UniqExact arg (Uniq values) = All (IsOfScalar arg) values × Rises value_cmp values × (length values < 2 ^ 64)
FitsState agg arg other = ⊥

-- a state is one of the function over values of the kind, however many different values it has
abbrev pub IsOver : AggName → Scalar → AnyAgg → Type 0
IsOver agg.UniqExact arg (Uniq values) = All (IsOfScalar arg) values × Rises value_cmp values
IsOver agg arg state = FitsState agg arg state
