-- What an expression means over the columns of a table: docs/SQL.md, "Expressions".
use Rattle.std.specs.Prelude.{ℕ, pos, Bool, true, false, if◌then◌else◌, nat_lt, List, [], ◌∷◌, map, length, slice_get, Option, None, Some, is_some, Result, Ok, Err}
use Rattle.std.specs.Option.{option_map, option_and_then, unwrap_or}
use Rattle.std.specs.Str.{bytes_eq}
use Rattle.std.specs.Prelude.{codes}
use Rattle.chv_ast.specs.declared.expr.Args.{Args}
use Rattle.chv_ast.specs.declared.expr.Args.TheOpen.{Expr-F, Args-F}
use Rattle.chv_ast.specs.declared.expr.Args.TheFolds.{fold-Expr, fold-Args}
use Rattle.chv_ast.specs.declared.expr.BinaryOp.{BinaryOp}
use Rattle.chv_ast.specs.declared.expr.BinaryOp.TheVariants as binary
use Rattle.chv_ast.specs.declared.expr.Expr.{Expr}
use Rattle.chv_ast.specs.declared.expr.Literal.{Literal}
use Rattle.chv_ast.specs.declared.expr.Literal.TheVariants as literal
use Rattle.chv_ast.specs.declared.expr.UnaryOp.{UnaryOp}
use Rattle.chv_ast.specs.declared.expr.UnaryOp.TheVariants as unary
use Rattle.chv_ast.specs.declared.refusal.Refusal.{Refusal}
use Rattle.chv_ast.specs.declared.refusal.Refusal.TheVariants.{UnknownColumn, UnknownFunction, TypeMismatch, BadLiteral}
use Rattle.chv_types.specs.Aggregates.{agg_of}
use Rattle.chv_types.specs.Names.{place_of}
use Rattle.chv_types.specs.Steps.{and_then, or_refuse}
use Rattle.chv_types.specs.Texts.{whole_number}
use Rattle.chv_types.specs.declared.kind.Kind.{Kind}
use Rattle.chv_types.specs.declared.kind.Kind.TheVariants as kind
use Rattle.chv_types.specs.declared.kind.Scalar.{Scalar}
use Rattle.chv_types.specs.declared.kind.Scalar.TheVariants as scalar
use Rattle.chv_types.specs.declared.table.Column.{Column}
use Rattle.chv_types.specs.declared.value.Value.{Value}
use Rattle.chv_types.specs.declared.value.Value.TheVariants.{Whole, Truth, Text}
use Rattle.chv_expr.specs.Kinds.{class_of, wide, numbers, joined, binary_kind, unary_kind}
use Rattle.chv_expr.specs.Values.{arithmetic, comparison, conjunction, disjunction, negation, choice, widened, text_length}
use Rattle.chv_expr.specs.declared.function.Function.{Function}
use Rattle.chv_expr.specs.declared.function.Function.TheVariants.{Modulo, IntDiv, Length, If, ToUInt64, ToInt64}
use Rattle.chv_expr.specs.declared.kind.Class.{Class}
use Rattle.chv_expr.specs.declared.kind.Class.TheVariants as class
use Rattle.chv_expr.specs.declared.tree.Arithmetic.TheVariants as sum
use Rattle.chv_expr.specs.declared.tree.Comparison.TheVariants as test

-- what an expression means: its kind, and its value over a row; None where a divisor is zero
pub record Term : Type 0 where
  pub kind : Kind
  pub value : List Value → Option Value

-- the value of a place in a row; of a place behind the row it is 0
abbrev pub value_at : ℕ → List Value → Value
value_at place row = unwrap_or (slice_get row place) (Whole (pos 0))

-- a column
abbrev pub column_at : ℕ → Column → Term
column_at place column = record { kind = column.kind; value = λ row. Some (value_at place row) }

-- the column of a name
abbrev pub column_term : List Column → List ℕ → Result Term Refusal
column_term columns name =
    or_refuse UnknownColumn (option_and_then (λ place. option_map (column_at place) (slice_get columns place)) (place_of name (map (λ column. column.name) columns)))

-- the same value over each row
abbrev pub constant : Scalar → Value → Term
constant plain value = record { kind = kind.Plain plain; value = λ row. Some value }

-- a literal: a number of 64 bits without sign, a text of 1,048,576 bytes at most, or a truth
abbrev pub literal_term : Literal → Result Term Refusal
literal_term (literal.Whole false digits) = or_refuse BadLiteral (option_map (λ n. constant scalar.UInt64 (Whole (pos n))) (whole_number digits))
literal_term (literal.Whole true digits) = Err BadLiteral
literal_term (literal.Quoted text) = if nat_lt 1048576 (length text) then Err BadLiteral else Ok (constant scalar.Text (Text text))
literal_term (literal.Truth truth) = Ok (constant scalar.Bool (Truth truth))

-- what an operation with one operand gives
abbrev pub unary_value : UnaryOp → Option Value → Option Value
unary_value unary.Minus a = arithmetic sum.Minus true (Some (Whole (pos 0))) a
unary_value unary.Not a = negation a

-- what an operation with two operands gives, of a kind with a sign or without
abbrev pub binary_value : BinaryOp → Bool → Option Value → Option Value → Option Value
binary_value binary.Or signed a b = disjunction a b
binary_value binary.And signed a b = conjunction a b
binary_value binary.Equal signed a b = comparison test.Equal a b
binary_value binary.Unequal signed a b = comparison test.Unequal a b
binary_value binary.Less signed a b = comparison test.Less a b
binary_value binary.LessEqual signed a b = comparison test.LessEqual a b
binary_value binary.Greater signed a b = comparison test.Greater a b
binary_value binary.GreaterEqual signed a b = comparison test.GreaterEqual a b
binary_value binary.Plus signed a b = arithmetic sum.Plus signed a b
binary_value binary.Minus signed a b = arithmetic sum.Minus signed a b
binary_value binary.Times signed a b = arithmetic sum.Times signed a b
binary_value binary.Modulo signed a b = arithmetic sum.Remainder signed a b

-- a kind of integers has a sign
abbrev pub is_signed : Scalar → Bool
is_signed scalar.UInt64 = false
is_signed other = true

-- an operation with one operand
abbrev pub unary_term : UnaryOp → Term → Option Term
unary_term op a =
    option_map (λ plain. record { kind = kind.Plain plain; value = λ row. unary_value op (a.value row) })
    (option_and_then (unary_kind op) (class_of a.kind))

-- the classes of two terms, where both have one
abbrev pub in_classes : {A : Type 0} → (Class → Class → Option A) → Term → Term → Option A
in_classes f a b = option_and_then (λ x. option_and_then (λ y. f x y) (class_of b.kind)) (class_of a.kind)

-- an operation with two operands
abbrev pub binary_term : BinaryOp → Term → Term → Option Term
binary_term op a b =
    option_map (λ plain. record { kind = kind.Plain plain; value = λ row. binary_value op (is_signed plain) (a.value row) (b.value row) })
    (in_classes (binary_kind op) a b)

-- a number by another one
abbrev pub quotient_term : Term → Term → Option Term
quotient_term a b =
    option_map (λ signed. record { kind = kind.Plain (wide signed); value = λ row. arithmetic sum.Quotient signed (a.value row) (b.value row) })
    (in_classes numbers a b)

-- the length of a text
abbrev pub length_of : Term → Class → Option Term
length_of a class.Text = Some (record { kind = kind.Plain scalar.UInt64; value = λ row. text_length (a.value row) })
length_of a class.Truth = None
length_of a (class.Number signed) = None

-- a number of 64 bits, with a sign or without
abbrev pub widened_of : Bool → Term → Class → Option Term
widened_of signed a (class.Number other) = Some (record { kind = kind.Plain (wide signed); value = λ row. widened signed (a.value row) })
widened_of signed a class.Truth = None
widened_of signed a class.Text = None

-- what is chosen, of a kind: integers have 64 bits
abbrev pub chosen_value : Scalar → Option Value → Option Value
chosen_value scalar.Bool chosen = chosen
chosen_value scalar.Text chosen = chosen
chosen_value integers chosen = widened (is_signed integers) chosen

-- one of two, by a truth
abbrev pub chosen_of : Term → Term → Term → Class → Option Term
chosen_of test a b class.Truth =
    option_map (λ plain. record { kind = kind.Plain plain; value = λ row. chosen_value plain (choice (test.value row) (a.value row) (b.value row)) })
    (in_classes joined a b)
chosen_of test a b class.Text = None
chosen_of test a b (class.Number signed) = None

-- a function over its arguments, where it takes them
abbrev pub applied : Function → List Term → Option Term
applied Modulo (a ∷ b ∷ []) = binary_term binary.Modulo a b
applied IntDiv (a ∷ b ∷ []) = quotient_term a b
applied Length (a ∷ []) = option_and_then (length_of a) (class_of a.kind)
applied If (test ∷ a ∷ b ∷ []) = option_and_then (chosen_of test a b) (class_of test.kind)
applied ToUInt64 (a ∷ []) = option_and_then (widened_of false a) (class_of a.kind)
applied ToInt64 (a ∷ []) = option_and_then (widened_of true a) (class_of a.kind)
applied function other = None

-- the function with a name, which is matched letter by letter
unfoldable pub function_named : List ℕ → Option Function
function_named name =
    if bytes_eq name (codes "modulo") then Some Modulo
    else (if bytes_eq name (codes "intDiv") then Some IntDiv
    else (if bytes_eq name (codes "length") then Some Length
    else (if bytes_eq name (codes "if") then Some If
    else (if bytes_eq name (codes "toUInt64") then Some ToUInt64
    else (if bytes_eq name (codes "toInt64") then Some ToInt64
    else None)))))

-- why a name is that of no function of an expression: it is that of an aggregate function, or of none
abbrev pub no_function : List ℕ → Refusal
no_function name = if is_some (agg_of name) then TypeMismatch else UnknownFunction

-- a call
abbrev pub call_term : List ℕ → List Term → Result Term Refusal
call_term name terms =
    and_then (or_refuse (no_function name) (function_named name)) (λ function. or_refuse TypeMismatch (applied function terms))

-- an expression, where the meanings of its parts stand in their places; arguments come before their operation
abbrev pub expr_step : List Column → Expr-F (Result (List Term) Refusal) (Result Term Refusal) → Result Term Refusal
expr_step columns (Expr-F.Column name) = column_term columns name
expr_step columns (Expr-F.Literal value) = literal_term value
expr_step columns (Expr-F.Unary op arg) = and_then arg (λ a. or_refuse TypeMismatch (unary_term op a))
expr_step columns (Expr-F.Binary op left right) = and_then left (λ a. and_then right (λ b. or_refuse TypeMismatch (binary_term op a b)))
expr_step columns (Expr-F.Call name args) = and_then args (call_term name)

-- arguments, of which the rest's meanings are there
abbrev pub args_step : Args-F (Result (List Term) Refusal) (Result Term Refusal) → Result (List Term) Refusal
args_step Args-F.End = Ok []
args_step (Args-F.More first rest) = and_then first (λ a. and_then rest (λ terms. Ok (a ∷ terms)))

-- what an expression means over columns, or the first refusal in it
unfoldable pub term_of : List Column → Expr → Result Term Refusal
term_of columns = fold-Expr (Result (List Term) Refusal) (Result Term Refusal) args_step (expr_step columns)

-- what arguments mean
unfoldable pub terms_of : List Column → Args → Result (List Term) Refusal
terms_of columns = fold-Args (Result (List Term) Refusal) (Result Term Refusal) args_step (expr_step columns)
