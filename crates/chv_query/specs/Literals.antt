-- The values that literals write: docs/SQL.md, "INSERT".
use Rattle.std.specs.Prelude.{ℕ, Bool, true, false, nat_lt, List, ◌∷◌, length, if◌then◌else◌, Option, None, Some, Result, Ok, Err}
use Rattle.chv_ast.specs.declared.expr.Literal.{Literal}
use Rattle.chv_ast.specs.declared.expr.Literal.TheVariants as literal
use Rattle.chv_ast.specs.declared.refusal.Refusal.{Refusal}
use Rattle.chv_ast.specs.declared.refusal.Refusal.TheVariants.{BadLiteral, LimitPassed}
use Rattle.chv_types.specs.Texts.{value_of}
use Rattle.chv_types.specs.declared.kind.Scalar.{Scalar}
use Rattle.chv_types.specs.declared.kind.Scalar.TheVariants as scalar
use Rattle.chv_types.specs.declared.value.Value.{Value}
use Rattle.chv_types.specs.declared.value.Value.TheVariants.{Truth}

-- the text of a number: its digits, behind a minus where it has one, which is 45
abbrev pub whole_text : Bool → List ℕ → List ℕ
whole_text false digits = digits
whole_text true digits = 45 ∷ digits

-- a value, or no literal of the kind
abbrev pub or_bad : Option Value → Result Value Refusal
or_bad None = Err BadLiteral
or_bad (Some value) = Ok value

-- the value of a number in a column of a kind, by its text; it is no text itself
abbrev pub whole_value : Scalar → List ℕ → Result Value Refusal
whole_value scalar.Text text = Err BadLiteral
whole_value other text = or_bad (value_of other text)

-- TRUE and FALSE are of the kind Bool alone
abbrev pub truth_value : Scalar → Bool → Result Value Refusal
truth_value scalar.Bool truth = Ok (Truth truth)
truth_value other truth = Err BadLiteral

-- a quoted text is read by its bytes for every kind; one of more than 1,048,576 bytes is too long
abbrev pub quoted_value : Scalar → List ℕ → Result Value Refusal
quoted_value plain text = if nat_lt 1048576 (length text) then Err LimitPassed else or_bad (value_of plain text)

-- the value that a literal writes in a column of a kind
unfoldable pub literal_value : Scalar → Literal → Result Value Refusal
literal_value plain (literal.Whole minus digits) = whole_value plain (whole_text minus digits)
literal_value plain (literal.Quoted text) = quoted_value plain text
literal_value plain (literal.Truth truth) = truth_value plain truth
