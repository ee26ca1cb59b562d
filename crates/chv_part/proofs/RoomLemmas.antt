-- How many bytes columns have at least.
use Rattle.std.proofs.Common.{ℕ, ◌+◌, ◌*◌, ◌≤◌, List, [], ◌∷◌, length, Option, Some, None, sym, subst, arith, length-append}
use Rattle.std.specs.List.{slice_get}
use Rattle.chv_types.specs.declared.kind.Kind.{Kind}
use Rattle.chv_types.specs.declared.kind.Kind.TheVariants as kind
use Rattle.chv_types.specs.declared.value.Value.{Value}
use Rattle.chv_types.specs.declared.value.Value.TheVariants.{Whole, Truth, Text, State}
use Rattle.chv_agg.proofs.ReadingLemmas.{some_bytes}
use Rattle.chv_agg.proofs.StateByteLemmas.{some_state}
use Rattle.chv_block.specs.Spellings.{IsOf, value_spelling, AllAreOf}
use Rattle.chv_part.specs.Columns.{IsSomeOf, ColumnIsOf}
use Rattle.chv_part.specs.Parts.{spelled, column_spelling, columns_spelling}
use Rattle.chv_part.proofs.ColumnLemmas.{tails, column_fits, others_fit, from_first}

-- a value has a byte at least
value_byte : (kind : Kind) (value : Value) → IsOf kind value → 1 ≤ length (value_spelling kind value)
value_byte (kind.Plain plain) value of = some_bytes plain value of
value_byte (kind.State agg plain) (State spelling) of = subst (λ (l : List ℕ). 1 ≤ length l) (sym of.spelled) (some_state plain of.state)
value_byte (kind.State agg plain) (Whole n) of = absurd of
value_byte (kind.State agg plain) (Truth truth) of = absurd of
value_byte (kind.State agg plain) (Text text) of = absurd of

byte_at_place : (kind : Kind) (value : Option Value) → IsSomeOf kind value → 1 ≤ length (spelled kind value)
byte_at_place kind None of = absurd of
byte_at_place kind (Some value) of = value_byte kind value of

-- a column has as many bytes as rows at least
column_fit : (kind : Kind) (place : ℕ) (rows : List (List Value)) → ColumnIsOf kind place rows → length rows ≤ length (column_spelling kind place rows)
column_fit kind place [] of = omega arith
column_fit kind place (row ∷ rows) of =
    omega (arith, byte_at_place kind (slice_get row place) of.0, column_fit kind place rows of.1, length-append (spelled kind (slice_get row place)) (column_spelling kind place rows))

columns_fit_from : (kinds : List Kind) (place : ℕ) (rows : List (List Value)) → AllAreOf kinds (tails place rows) → length rows * length kinds ≤ length (columns_spelling place kinds rows)
columns_fit_from [] place rows of = omega arith
columns_fit_from (kind ∷ kinds) place rows of =
    omega (
      arith,
      column_fit kind place rows (column_fits kind kinds place rows of),
      columns_fit_from kinds (place + 1) rows (others_fit kind kinds place rows of),
      length-append (column_spelling kind place rows) (columns_spelling (place + 1) kinds rows),
    )

-- columns have as many bytes as values at least
pub columns_fit : (kinds : List Kind) (rows : List (List Value)) → AllAreOf kinds rows → length rows * length kinds ≤ length (columns_spelling 0 kinds rows)
columns_fit kinds rows of = columns_fit_from kinds 0 rows (from_first kinds rows of)

pub rows_fit : (kinds : List Kind) (rows : List (List Value)) → 1 ≤ length kinds → AllAreOf kinds rows → length rows ≤ length (columns_spelling 0 kinds rows)
rows_fit [] rows some of = absurd (omega (arith, some))
rows_fit (kind ∷ kinds) rows some of = omega (arith, columns_fit (kind ∷ kinds) rows of)
