-- Values, rows and blocks in bytes.
use Rattle.std.specs.Prelude.{ℕ, ◌+◌, ◌≤◌, List, [], ◌∷◌, ◌++◌, length}
use Rattle.std.specs.Int.{to_le_bytes, w32, w64}
pub use Rattle.chv_agg.specs.OfKinds.{AllAreOf, AreOf, IsOf}
use Rattle.chv_agg.specs.Plain.{scalar_code, scalar_spelling}
use Rattle.chv_agg.specs.StateBytes.{agg_number}
use Rattle.chv_types.specs.Order.{bytes}
use Rattle.chv_types.specs.declared.kind.Kind.{Kind}
use Rattle.chv_types.specs.declared.kind.Kind.TheVariants as kind
use Rattle.chv_types.specs.declared.value.Value.{Value}

-- the code of a kind: of plain values their own, of states 16 and the number of the function, and the code of what they are over
abbrev pub kind_code : Kind → List ℕ
kind_code (kind.Plain plain) = scalar_code plain ∷ []
kind_code (kind.State agg arg) = (16 + agg_number agg) ∷ scalar_code arg ∷ []

-- a value of a kind in bytes
abbrev pub value_spelling : Kind → Value → List ℕ
value_spelling (kind.Plain plain) value = scalar_spelling plain value
value_spelling (kind.State agg arg) value = bytes value

-- a value has 1,048,576 bytes at most
abbrev pub IsSmall : Value → Type 0
IsSmall value = length (bytes value) ≤ 1048576

-- a row: its values in the order of the columns
abbrev pub row_spelling : List Kind → List Value → List ℕ
row_spelling [] values = []
row_spelling (kind ∷ kinds) [] = []
row_spelling (kind ∷ kinds) (value ∷ values) = value_spelling kind value ++ row_spelling kinds values

-- rows one behind the other
abbrev pub rows_spelling : List Kind → List (List Value) → List ℕ
rows_spelling kinds [] = []
rows_spelling kinds (row ∷ rows) = row_spelling kinds row ++ rows_spelling kinds rows

-- the codes of kinds one behind the other
abbrev pub codes_of : List Kind → List ℕ
codes_of [] = []
codes_of (kind ∷ kinds) = kind_code kind ++ codes_of kinds

-- a block: the number of its columns and their kinds, the number of its rows and the rows
abbrev pub block_spelling : List Kind → List (List Value) → List ℕ
block_spelling kinds block =
    to_le_bytes w32 (length kinds) ++ codes_of kinds ++ to_le_bytes w64 (length block) ++ rows_spelling kinds block
