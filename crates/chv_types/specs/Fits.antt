-- Values that fit their kinds.
use Rattle.std.specs.Prelude.{◌≡◌, ◌≤◌, List, [], ◌∷◌, length}
use Rattle.chv_types.specs.Kinds.{range_of, LiesIn}
use Rattle.chv_types.specs.declared.kind.Kind.{Kind}
use Rattle.chv_types.specs.declared.kind.Kind.TheVariants as kind
use Rattle.chv_types.specs.declared.kind.Scalar.{Scalar}
use Rattle.chv_types.specs.declared.kind.Scalar.TheVariants as scalar
use Rattle.chv_types.specs.declared.value.Value.{Value}
use Rattle.chv_types.specs.declared.value.Value.TheVariants.{Whole, Truth, Text, State}

-- a value is of a kind of plain values: in its range, or a truth, or a text of 1,048,576 bytes at most
abbrev pub IsOfScalar : Scalar → Value → Type 0
IsOfScalar plain (Whole n) = LiesIn (range_of plain) n
IsOfScalar plain (Truth truth) = plain ≡ scalar.Bool
IsOfScalar plain (Text text) = (plain ≡ scalar.Text) × (length text ≤ 1048576)
IsOfScalar plain (State spelling) = ⊥

-- a value has the shape of a kind: of a state, whatever its bytes are
abbrev pub Fits : Kind → Value → Type 0
Fits (kind.Plain plain) value = IsOfScalar plain value
Fits (kind.State agg arg) (Whole n) = ⊥
Fits (kind.State agg arg) (Truth truth) = ⊥
Fits (kind.State agg arg) (Text text) = ⊥
Fits (kind.State agg arg) (State spelling) = Unit {0}

-- a row has one value of each kind
abbrev pub FitAll : List Kind → List Value → Type 0
FitAll [] [] = Unit {0}
FitAll [] (value ∷ values) = ⊥
FitAll (kind ∷ kinds) [] = ⊥
FitAll (kind ∷ kinds) (value ∷ values) = Fits kind value × FitAll kinds values
