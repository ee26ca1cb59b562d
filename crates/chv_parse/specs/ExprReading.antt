-- How expressions are read, an operation at a time: docs/SQL.md, "Expressions".
use Rattle.std.specs.Prelude.{ℕ, zero, suc, ◌+◌, max, ◌≡◌, List, Bool, true, false, ◌&&◌, if◌then◌else◌, nat_eq, nat_le, drop, Option, Some, None, codes}
use Rattle.std.specs.Str.{str_eq_ignore_ascii_case}
use Rattle.chv_ast.specs.Grammar.{level_of, unary_level, left_level}
use Rattle.chv_ast.specs.Lexemes.{Lexeme, is_keyword, is_sign, is_quoted_kind, name_of, digits_of, text_of}
use Rattle.chv_ast.specs.declared.expr.UnaryOp.{UnaryOp}
use Rattle.chv_ast.specs.declared.expr.UnaryOp.TheVariants as unary
use Rattle.chv_ast.specs.declared.expr.BinaryOp.{BinaryOp}
use Rattle.chv_ast.specs.declared.expr.BinaryOp.TheVariants as binary
use Rattle.chv_ast.specs.declared.expr.Literal.{Literal}
use Rattle.chv_ast.specs.declared.expr.Literal.TheVariants as literal
use Rattle.chv_ast.specs.declared.expr.Expr.{Expr}
use Rattle.chv_ast.specs.declared.expr.Expr.TheVariants as expr
use Rattle.chv_ast.specs.declared.expr.Args.TheVariants as args
use Rattle.chv_parse.specs.Reading.{Reader, ◌>>=◌, ◌>>◌, given, meant, marked, next_is, is_name}
use Rattle.chv_parse.specs.declared.expr_reading.Operand.{Operand}
use Rattle.chv_parse.specs.declared.expr_reading.Arguments.{Arguments}

-- whether a sign comes next
abbrev pub sign_next : List ℕ → List Lexeme → Bool
sign_next text = next_is (is_sign text)

-- a sign
abbrev pub read_sign : List ℕ → Reader (Unit {0})
read_sign text = marked (is_sign text)

-- whether a keyword comes next
abbrev pub keyword_next : List ℕ → List Lexeme → Bool
keyword_next word = next_is (is_keyword word)

-- a keyword
abbrev pub read_keyword : List ℕ → Reader (Unit {0})
read_keyword word = marked (is_keyword word)

-- what no tokens are
abbrev pub unreadable : {A : Type 0} → Reader A
unreadable tokens = None

-- the word between two operands that comes next
unfoldable pub word_next : List Lexeme → Option BinaryOp
word_next tokens =
    if keyword_next (codes "OR") tokens then Some binary.Or
    else (if keyword_next (codes "AND") tokens then Some binary.And
    else None)

-- the comparison that comes next
unfoldable pub comparison_next : List Lexeme → Option BinaryOp
comparison_next tokens =
    if sign_next (codes "=") tokens then Some binary.Equal
    else (if sign_next (codes "==") tokens then Some binary.Equal
    else (if sign_next (codes "!=") tokens then Some binary.Unequal
    else (if sign_next (codes "<>") tokens then Some binary.Unequal
    else (if sign_next (codes "<") tokens then Some binary.Less
    else (if sign_next (codes "<=") tokens then Some binary.LessEqual
    else (if sign_next (codes ">") tokens then Some binary.Greater
    else (if sign_next (codes ">=") tokens then Some binary.GreaterEqual
    else None)))))))

-- the operation on two numbers that comes next
unfoldable pub arithmetic_next : List Lexeme → Option BinaryOp
arithmetic_next tokens =
    if sign_next (codes "+") tokens then Some binary.Plus
    else (if sign_next (codes "-") tokens then Some binary.Minus
    else (if sign_next (codes "*") tokens then Some binary.Times
    else (if sign_next (codes "%") tokens then Some binary.Modulo
    else None)))

-- the first of two that is there
abbrev pub first_there : {A : Type 0} → Option A → Option A → Option A
first_there None other = other
first_there (Some a) other = Some a

-- the operation with two operands that comes next
unfoldable pub operation_next : List Lexeme → Option BinaryOp
operation_next tokens = first_there (word_next tokens) (first_there (comparison_next tokens) (arithmetic_next tokens))

-- what may stand behind an expression: neither an opening parenthesis nor an operation with two operands
abbrev pub EndsExpr : List Lexeme → Type 0
EndsExpr tokens = (sign_next (codes "(") tokens ≡ false) × (operation_next tokens ≡ None)

-- an expression that stands by itself and is one deep
abbrev pub leaf : Expr → Operand
leaf e = record { expr = e; level = 7; depth = 1 }

-- an operation with one operand
abbrev pub over : UnaryOp → Operand → Operand
over op arg = record { expr = expr.Unary op arg.expr; level = unary_level op; depth = arg.depth + 1 }

-- an operation with two operands
abbrev pub between : BinaryOp → Operand → Operand → Operand
between op left right = record { expr = expr.Binary op left.expr right.expr; level = level_of op; depth = max left.depth right.depth + 1 }

-- a call
abbrev pub calling : List ℕ → Arguments → Operand
calling function arguments = record { expr = expr.Call function arguments.list; level = 7; depth = arguments.depth + 1 }

-- no arguments
abbrev pub no_arguments : Arguments
no_arguments = record { list = args.End; depth = 0 }

-- one more argument in front
abbrev pub with_argument : Operand → Arguments → Arguments
with_argument first rest = record { list = args.More first.expr rest.list; depth = max first.depth rest.depth }

-- a literal without a minus
unfoldable pub read_literal : Reader Literal
read_literal tokens =
    if keyword_next (codes "TRUE") tokens then (read_keyword (codes "TRUE") >> given (literal.Truth true)) tokens
    else (if keyword_next (codes "FALSE") tokens then (read_keyword (codes "FALSE") >> given (literal.Truth false)) tokens
    else (if next_is (λ token. is_quoted_kind token.kind) tokens then (meant text_of >>= λ text. given (literal.Quoted text)) tokens
    else (meant digits_of >>= λ digits. given (literal.Whole false digits)) tokens))

-- an opening parenthesis, if so many more may be open
unfoldable pub read_opening : (nest : ℕ) → Reader (Unit {0})
read_opening nest tokens = if nat_eq nest 0 then None else read_sign (codes "(") tokens

-- an expression in parentheses
unfoldable pub read_nested : (nest : ℕ) (inside : Reader Operand) → Reader Operand
read_nested nest inside = do
  read_opening nest
  e ← inside
  read_sign (codes ")")
  given (record { expr = e.expr; level = 7; depth = e.depth })

-- one more argument behind a comma, if one comes next, and what `more` reads behind it
unfoldable pub read_next : (inside : Reader Operand) (more : Reader Arguments) → Reader Arguments
read_next inside more tokens =
    if sign_next (codes ",") tokens
    then (do
      read_sign (codes ",")
      first ← inside
      rest ← more
      given (with_argument first rest)) tokens
    else given no_arguments tokens

-- so many arguments at most, each behind a comma
unfoldable pub read_more : (inside : Reader Operand) (count : ℕ) → Reader Arguments
read_more inside zero tokens = given no_arguments tokens
read_more inside (suc count) tokens = read_next inside (read_more inside count) tokens

-- one to eight arguments
unfoldable pub read_some : (inside : Reader Operand) → Reader Arguments
read_some inside = do
  first ← inside
  rest ← read_more inside 7
  given (with_argument first rest)

-- the star of count(*), which is as no arguments
unfoldable pub read_star : (function : List ℕ) → Reader Arguments
read_star function tokens =
    if str_eq_ignore_ascii_case function (codes "COUNT") then (read_sign (codes "*") >> given no_arguments) tokens
    else None

-- what stands between the parentheses of a call
unfoldable pub read_arguments : (inside : Reader Operand) (function : List ℕ) → Reader Arguments
read_arguments inside function tokens =
    if sign_next (codes ")") tokens then given no_arguments tokens
    else (if sign_next (codes "*") tokens then read_star function tokens
    else read_some inside tokens)

-- a call, behind its name
unfoldable pub read_call : (nest : ℕ) (inside : Reader Operand) (function : List ℕ) → Reader Operand
read_call nest inside function = do
  read_opening nest
  arguments ← read_arguments inside function
  read_sign (codes ")")
  given (calling function arguments)

-- a call or a column
unfoldable pub read_named : (nest : ℕ) (inside : Reader Operand) → Reader Operand
read_named nest inside = meant name_of >>= λ name tokens.
    if sign_next (codes "(") tokens then read_call nest inside name tokens else given (leaf (expr.Column name)) tokens

-- what stands by itself; `inside` reads in its parentheses, an argument having less room than an expression
unfoldable pub read_atom : (nest : ℕ) (inside : ℕ → Reader Operand) (room : ℕ) → Reader Operand
read_atom nest inside room tokens =
    if sign_next (codes "(") tokens then read_nested nest (inside (room + 1)) tokens
    else (if next_is is_name tokens then read_named nest (inside room) tokens
    else (read_literal >>= λ value. given (leaf (expr.Literal value))) tokens)

-- how an operation with one operand is written
abbrev pub is_unary : UnaryOp → Lexeme → Bool
is_unary unary.Minus = is_sign (codes "-")
is_unary unary.Not = is_keyword (codes "NOT")

-- an operation with one operand, if it binds as tightly as the level says; `deeper` reads the operand
unfoldable pub read_unary : (deeper : ℕ → Reader Operand) (level : ℕ) → UnaryOp → Reader Operand
read_unary deeper level op tokens =
    if nat_le level (unary_level op)
    then (do
      marked (is_unary op)
      arg ← deeper (unary_level op)
      given (over op arg)) tokens
    else None

-- an operand: an operation with one operand, or what stands by itself
unfoldable pub read_operand : (deeper : ℕ → Reader Operand) (nest : ℕ) (inside : ℕ → Reader Operand) (room level : ℕ) → Reader Operand
read_operand deeper nest inside room level tokens =
    if keyword_next (codes "NOT") tokens then read_unary deeper level unary.Not tokens
    else (if sign_next (codes "-") tokens then read_unary deeper level unary.Minus tokens
    else read_atom nest inside room tokens)

-- whether an operation takes what was read as its left operand: the operation binds as tightly as the level says, and the
-- operand as tightly as the operation wants it, and there is room for a deeper tree
unfoldable pub takes : (room level : ℕ) → Operand → BinaryOp → Bool
takes room level left op = nat_le level (level_of op) && (nat_le (left_level op) left.level && nat_le left.depth room)

-- what passes a test
abbrev pub passing : {A : Type 0} → (A → Bool) → Option A → Option A
passing test None = None
passing test (Some a) = if test a then Some a else None

-- the operation that goes on behind a left operand
unfoldable pub onward : (room level : ℕ) → Operand → List Lexeme → Option BinaryOp
onward room level left tokens = passing (takes room level left) (operation_next tokens)

-- the next token is passed over
abbrev pub pass : Reader (Unit {0})
pass tokens = Some (tt, drop 1 tokens)

-- one operation with its right operand, and `more` behind it
abbrev pub read_right : (deeper : ℕ → Reader Operand) (more : Operand → Reader Operand) → Operand → Option BinaryOp → Reader Operand
read_right deeper more left None = given left
read_right deeper more left (Some op) = do
  pass
  right ← deeper (level_of op + 1)
  more (between op left right)

-- the operations that go on behind a left operand, so many at most: each takes what was read so far as its left operand
unfoldable pub climb : (deeper : ℕ → Reader Operand) (room level turns : ℕ) → Operand → Reader Operand
climb deeper room level zero left tokens = given left tokens
climb deeper room level (suc turns) left tokens = read_right deeper (climb deeper room level turns) left (onward room level left tokens) tokens

-- an operand, and the operations that go on behind it
unfoldable pub read_chain : (deeper : ℕ → Reader Operand) (nest : ℕ) (inside : ℕ → Reader Operand) (room level : ℕ) → Reader Operand
read_chain deeper nest inside room level = read_operand deeper nest inside room level >>= climb deeper room level room

-- an expression at most `room` deep that binds as tightly as the level says, `inside` being read in its parentheses
unfoldable pub read_in : (nest : ℕ) (inside : ℕ → Reader Operand) (room level : ℕ) → Reader Operand
read_in nest inside zero level = unreadable
read_in nest inside (suc room) level = read_chain (read_in nest inside room) nest inside room level

-- an expression with at most `nest` open parentheses, at most `room` deep, that binds as tightly as the level says
unfoldable pub read_at : (nest room level : ℕ) → Reader Operand
read_at zero = read_in zero (λ room. unreadable)
read_at (suc nest) = read_in (suc nest) (λ room. read_at nest room 0)

-- an expression inside of one of these parentheses
unfoldable pub read_inside : (nest room : ℕ) → Reader Operand
read_inside zero room = unreadable
read_inside (suc nest) room = read_at nest room 0

-- an expression within the bounds
unfoldable pub read_expr : Reader Expr
read_expr = read_at 128 128 0 >>= λ whole. given whole.expr
