-- What is said of a table's rows and parts.
use Rattle.std.specs.Prelude.{ℕ, pos, List, [], ◌∷◌, ◌++◌, length, map, if◌then◌else◌}
use Rattle.chv_commit.specs.Replays.{Span}
use Rattle.chv_ast.specs.declared.refusal.Refusal.TheVariants.{DivisionByZero}
use Rattle.chv_part.specs.Books.{TableForm, Book, normal_rows, rows_in, part_rows}
use Rattle.chv_query.specs.Queries.{Asked, divides}
use Rattle.chv_query.specs.Shown.{kinds_shown, shown_of}
use Rattle.chv_text.specs.Replies.{refused_line, rows_line}
use Rattle.chv_text.specs.Rows.{rows_text}
use Rattle.chv_types.specs.declared.kind.Kind.{Kind}
use Rattle.chv_types.specs.declared.kind.Kind.TheVariants.{Plain}
use Rattle.chv_types.specs.declared.kind.Scalar.TheVariants.{UInt64}
use Rattle.chv_types.specs.declared.value.Value.{Value}
use Rattle.chv_types.specs.declared.value.Value.TheVariants.{Whole}

-- all rows of a table of this form, as it keeps them
abbrev pub table_rows : TableForm → Book → List (List Value)
table_rows form book = normal_rows form (rows_in book)

-- what is said to a client for a query over the rows of its table
abbrev pub shown_text : ℕ → Asked → List (List Value) → List ℕ
shown_text client query rows = rows_text (kinds_shown query) (shown_of query rows) ++ rows_line client (length (shown_of query rows))

-- what is said to a client for a query: where a divisor is zero on a row of its table, that it is refused
unfoldable pub query_text : ℕ → Asked → List (List Value) → List ℕ
query_text client query rows = if divides query rows then refused_line client DivisionByZero else shown_text client query rows

-- a live part as SHOW PARTS tells it: its first entry and its last, its level, and its rows
abbrev pub part_told : TableForm → Book → Span → List Value
part_told form book span =
    Whole (pos span.lo) ∷ (Whole (pos span.hi) ∷ (Whole (pos span.level) ∷ (Whole (pos (length (part_rows form book span.lo span.hi))) ∷ [])))

-- the kinds of a part's numbers
abbrev pub part_kinds : List Kind
part_kinds = Plain UInt64 ∷ Plain UInt64 ∷ Plain UInt64 ∷ Plain UInt64 ∷ []

-- what is said to a client for the live parts of a table
abbrev pub parts_text : ℕ → TableForm → Book → List ℕ
parts_text client form book = rows_text part_kinds (map (part_told form book) book.layout) ++ rows_line client (length book.layout)
