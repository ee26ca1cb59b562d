-- Rows as they are said to clients: docs/FORMATS.md, "Replies".
use Rattle.std.specs.Prelude.{ℕ, ◌/◌, ◌%◌, ◌==◌, cond, Bool, true, false, List, [], ◌∷◌, ◌++◌, codes, slice_index}
use Rattle.std.specs.Fmt.{signed_decimal}
use Rattle.std.specs.List.{flat_map, join_by, zip}
use Rattle.chv_types.specs.declared.kind.Kind.{Kind}
use Rattle.chv_types.specs.declared.value.Value.{Value}
use Rattle.chv_types.specs.declared.value.Value.TheVariants.{Whole, Truth, Text, State}

-- a byte of a text: eight bytes are written with a backslash, and each other byte as it is
abbrev pub escaped : ℕ → List ℕ
escaped byte =
    cond (byte == 8) (codes "\\b") (cond (byte == 9) (codes "\\t") (cond (byte == 10) (codes "\\n") (cond (byte == 12) (codes "\\f")
    (cond (byte == 13) (codes "\\r") (cond (byte == 0) (codes "\\0") (cond (byte == 39) (codes "\\'") (cond (byte == 92) (codes "\\\\") (byte ∷ []))))))))

-- the digit for a number below 16
abbrev pub hex_digit : ℕ → ℕ
hex_digit value = slice_index (codes "0123456789abcdef") value

-- a byte in two hexadecimal digits
abbrev pub hex_byte : ℕ → List ℕ
hex_byte byte = hex_digit (byte / 16) ∷ hex_digit (byte % 16) ∷ []

abbrev pub truth_text : Bool → List ℕ
truth_text false = codes "false"
truth_text true = codes "true"

-- a value of a kind: a number in decimal, `true` or `false`, a text with its escapes, and a state as the digits of its bytes
abbrev pub value_text : Kind → Value → List ℕ
value_text kind (Whole n) = signed_decimal n
value_text kind (Truth truth) = truth_text truth
value_text kind (Text bytes) = flat_map escaped bytes
value_text kind (State bytes) = flat_map hex_byte bytes

-- a value beside the kind of its column
abbrev pub cell_text : Kind × Value → List ℕ
cell_text cell = value_text cell.0 cell.1

-- a row of columns of these kinds: its values with tabs between them, and a line feed behind
abbrev pub row_text : List Kind → List Value → List ℕ
row_text kinds row = join_by cell_text (codes "\t") (zip kinds row) ++ codes "\n"

-- rows: one after the other
abbrev pub rows_text : List Kind → List (List Value) → List ℕ
rows_text kinds rows = flat_map (row_text kinds) rows
