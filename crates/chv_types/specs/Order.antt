-- The order of values.
use Rattle.std.specs.Prelude.{ℕ, ℤ, pos, true, false, List, []}
use Rattle.std.specs.Cmp.Lexicographic.{slice_cmp}
use Rattle.std.specs.Ordering.{nat_cmp, int_cmp, on, then_cmp}
use Rattle.std.specs.declared.cmp.Ordering.{Ordering}
use Rattle.chv_types.specs.declared.value.Value.{Value}
use Rattle.chv_types.specs.declared.value.Value.TheVariants.{Whole, Truth, Text, State}

-- numbers stand before truths, truths before texts, and states last
abbrev pub rank : Value → ℕ
rank (Whole n) = 0
rank (Truth b) = 1
rank (Text bytes) = 2
rank (State bytes) = 3

-- the number of a value: of a number itself, and of truths 0 for false and 1 for true
abbrev pub number : Value → ℤ
number (Whole n) = n
number (Truth false) = pos 0
number (Truth true) = pos 1
number (Text bytes) = pos 0
number (State bytes) = pos 0

-- the bytes of a text, or those that spell a state
abbrev pub bytes : Value → List ℕ
bytes (Whole n) = []
bytes (Truth b) = []
bytes (Text text) = text
bytes (State spelling) = spelling

-- values go by rank, then by number, then by bytes, of which a beginning stands before what it begins
unfoldable pub value_cmp : Value → Value → Ordering
value_cmp = then_cmp (on rank nat_cmp) (then_cmp (on number int_cmp) (on bytes (slice_cmp nat_cmp)))

-- rows go column by column
abbrev pub row_cmp : List Value → List Value → Ordering
row_cmp = slice_cmp value_cmp
