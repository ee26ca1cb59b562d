-- Columns of rows, as they are put and as they are read.
use Rattle.std.specs.Prelude.{ℕ, ◌≡◌, List, [], ◌∷◌, ◌++◌, length, drop, slice_get, Option, Some, None}
use Rattle.std.specs.Int.{w32, w64, to_le_bytes}
use Rattle.chv_block.specs.Spellings.{IsOf, codes_of, value_spelling}
use Rattle.chv_types.specs.declared.kind.Kind.{Kind}
use Rattle.chv_types.specs.declared.value.Value.{Value}

-- what stands in front of the columns of a body: the number of columns, their kinds, and the number of rows
abbrev pub head_spelling : List Kind → ℕ → List ℕ
head_spelling kinds rows = to_le_bytes w32 (length kinds) ++ codes_of kinds ++ to_le_bytes w64 rows

-- there is a value, and it is of the kind
abbrev pub IsSomeOf : Kind → Option Value → Type 0
IsSomeOf kind None = ⊥
IsSomeOf kind (Some value) = IsOf kind value

-- each row has a value of the kind at the place
abbrev pub ColumnIsOf : Kind → ℕ → List (List Value) → Type 0
ColumnIsOf kind place [] = Unit {0}
ColumnIsOf kind place (row ∷ rows) = IsSomeOf kind (slice_get row place) × ColumnIsOf kind place rows

-- each of these values is of the kind
abbrev pub ValuesAreOf : Kind → List Value → Type 0
ValuesAreOf kind [] = Unit {0}
ValuesAreOf kind (value ∷ values) = IsOf kind value × ValuesAreOf kind values

-- values of a kind one behind the other
abbrev pub values_spelling : Kind → List Value → List ℕ
values_spelling kind [] = []
values_spelling kind (value ∷ values) = value_spelling kind value ++ values_spelling kind values

-- rows with one value more each, the first of them where there are fewer values
abbrev pub with_column : List (List Value) → List Value → List (List Value)
with_column [] values = []
with_column (row ∷ rows) [] = row ∷ rows
with_column (row ∷ rows) (value ∷ values) = (row ++ value ∷ []) ∷ with_column rows values

-- the first rows, so many of them, have got a value of the kind each, which bytes have from a place up to the other
pub record HasGained (kind : Kind) (count : ℕ) (old new : List (List Value)) (bytes : List ℕ) (at behind : ℕ) : Type 0 where
  pub values : List Value
  pub count_of : length values ≡ count
  pub kind_fits : ValuesAreOf kind values
  pub rows : new ≡ with_column old values
  pub spelled : drop at bytes ≡ values_spelling kind values ++ drop behind bytes
