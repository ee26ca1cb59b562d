-- Rows of kinds fit them.
use Rattle.std.proofs.Common.{List, [], ◌∷◌}
use Rattle.std.proofs.lemmas.List.Elements.{All-nil, All-cons}
use Rattle.std.specs.List.{All}
use Rattle.chv_types.specs.Fits.{Fits, FitAll}
use Rattle.chv_types.specs.declared.kind.Kind.{Kind}
use Rattle.chv_types.specs.declared.kind.Kind.TheVariants as kind
use Rattle.chv_types.specs.declared.value.Value.{Value}
use Rattle.chv_types.specs.declared.value.Value.TheVariants.{Whole, Truth, Text, State}
use Rattle.chv_block.specs.Spellings.{IsOf, AreOf, AllAreOf}

pub value_fits : (of : Kind) (value : Value) → IsOf of value → Fits of value
value_fits (kind.Plain plain) value is = is
value_fits (kind.State agg arg) (Whole n) is = absurd is
value_fits (kind.State agg arg) (Truth truth) is = absurd is
value_fits (kind.State agg arg) (Text text) is = absurd is
value_fits (kind.State agg arg) (State spelling) is = tt

row_fits : (kinds : List Kind) (row : List Value) → AreOf kinds row → FitAll kinds row
row_fits [] [] are = tt
row_fits [] (value ∷ row) are = absurd are
row_fits (of ∷ kinds) [] are = absurd are
row_fits (of ∷ kinds) (value ∷ row) are = (value_fits of value are.0, row_fits kinds row are.1)

pub rows_fit : (kinds : List Kind) (rows : List (List Value)) → AllAreOf kinds rows → All (FitAll kinds) rows
rows_fit kinds [] are = All-nil (FitAll kinds)
rows_fit kinds (row ∷ rows) are = All-cons (FitAll kinds) row rows (row_fits kinds row are.0) (rows_fit kinds rows are.1)
