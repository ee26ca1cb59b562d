-- Values of kinds.
use Rattle.std.specs.Prelude.{pos, false, [], ◌∷◌}
use Rattle.chv_types.specs.declared.aggregate.AggName.{AggName}
use Rattle.chv_types.specs.declared.aggregate.AggName.TheVariants.{Min, Max}
use Rattle.chv_types.specs.declared.kind.Kind.{Kind}
use Rattle.chv_types.specs.declared.kind.Kind.TheVariants as kind
use Rattle.chv_types.specs.declared.kind.Scalar.{Scalar}
use Rattle.chv_types.specs.declared.kind.Scalar.TheVariants as scalar
use Rattle.chv_types.specs.declared.seen.Seen.{Seen}
use Rattle.chv_types.specs.declared.seen.Seen.TheVariants as seen
use Rattle.chv_types.specs.declared.value.Value.{Value}
use Rattle.chv_types.specs.declared.value.Value.TheVariants.{Whole, Truth, Text, State}

-- the value that is seen
abbrev pub seen_value : Seen → Value
seen_value (seen.Whole n) = Whole n
seen_value (seen.Truth truth) = Truth truth
seen_value (seen.Text bytes) = Text bytes.now
seen_value (seen.State bytes) = State bytes.now

-- a kind of plain values
abbrev pub IsPlain : Kind → Type 0
IsPlain (kind.Plain scalar) = Unit {0}
IsPlain (kind.State agg scalar) = ⊥

-- 0, false or the empty text
abbrev pub plain_default : Scalar → Value
plain_default scalar.Bool = Truth false
plain_default scalar.Text = Text []
plain_default integers = Whole (pos 0)

-- the state of no rows: 0 in eight bytes, or for the least and the greatest the byte 0 in front of no value
abbrev pub empty_state : AggName → Value
empty_state Min = State (0 ∷ [])
empty_state Max = State (0 ∷ [])
empty_state agg = State (0 ∷ 0 ∷ 0 ∷ 0 ∷ 0 ∷ 0 ∷ 0 ∷ 0 ∷ [])

-- what a column of a kind has where nothing is said
abbrev pub default_of : Kind → Value
default_of (kind.Plain plain) = plain_default plain
default_of (kind.State agg arg) = empty_state agg
