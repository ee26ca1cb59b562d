-- Values and rows of kinds.
use Rattle.std.specs.Prelude.{List, [], ◌∷◌}
use Rattle.chv_agg.specs.StateBytes.{AreState}
use Rattle.chv_types.specs.Fits.{IsOfScalar}
use Rattle.chv_types.specs.declared.kind.Kind.{Kind}
use Rattle.chv_types.specs.declared.kind.Kind.TheVariants as kind
use Rattle.chv_types.specs.declared.value.Value.{Value}
use Rattle.chv_types.specs.declared.value.Value.TheVariants.{State}

-- a value is of a kind: of states, one that is spelled whole
abbrev pub IsOf : Kind → Value → Type 0
IsOf (kind.Plain plain) value = IsOfScalar plain value
IsOf (kind.State agg arg) (State spelling) = AreState agg arg spelling
IsOf (kind.State agg arg) other = ⊥

-- the values of a row are of the kinds of its columns
abbrev pub AreOf : List Kind → List Value → Type 0
AreOf [] [] = Unit {0}
AreOf [] (value ∷ values) = ⊥
AreOf (kind ∷ kinds) [] = ⊥
AreOf (kind ∷ kinds) (value ∷ values) = IsOf kind value × AreOf kinds values

-- each row has values of the kinds of the columns
abbrev pub AllAreOf : List Kind → List (List Value) → Type 0
AllAreOf kinds [] = Unit {0}
AllAreOf kinds (row ∷ rows) = AreOf kinds row × AllAreOf kinds rows
