-- The kinds of operations: docs/SQL.md, "Expressions".
use Rattle.std.specs.Prelude.{Bool, true, false, ◌||◌, Option, None, Some}
use Rattle.std.specs.Option.{option_map}
use Rattle.chv_ast.specs.declared.expr.BinaryOp.{BinaryOp}
use Rattle.chv_ast.specs.declared.expr.BinaryOp.TheVariants as binary
use Rattle.chv_ast.specs.declared.expr.UnaryOp.{UnaryOp}
use Rattle.chv_ast.specs.declared.expr.UnaryOp.TheVariants as unary
use Rattle.chv_types.specs.declared.kind.Kind.{Kind}
use Rattle.chv_types.specs.declared.kind.Kind.TheVariants as kind
use Rattle.chv_types.specs.declared.kind.Scalar.{Scalar}
use Rattle.chv_types.specs.declared.kind.Scalar.TheVariants as scalar
use Rattle.chv_expr.specs.declared.kind.Class.{Class}
use Rattle.chv_expr.specs.declared.kind.Class.TheVariants.{Number, Truth, Text}

-- what operations see of a kind of plain values
abbrev pub class_of_scalar : Scalar → Class
class_of_scalar scalar.UInt8 = Number false
class_of_scalar scalar.UInt16 = Number false
class_of_scalar scalar.UInt32 = Number false
class_of_scalar scalar.UInt64 = Number false
class_of_scalar scalar.Int8 = Number true
class_of_scalar scalar.Int16 = Number true
class_of_scalar scalar.Int32 = Number true
class_of_scalar scalar.Int64 = Number true
class_of_scalar scalar.Bool = Truth
class_of_scalar scalar.Text = Text

-- of states operations see nothing
abbrev pub class_of : Kind → Option Class
class_of (kind.Plain plain) = Some (class_of_scalar plain)
class_of (kind.State agg arg) = None

-- the kind of what is calculated
abbrev pub wide : Bool → Scalar
wide false = scalar.UInt64
wide true = scalar.Int64

-- whether what two integers give has a sign: where one of them has
abbrev pub numbers : Class → Class → Option Bool
numbers (Number a) (Number b) = Some (a || b)
numbers (Number a) Truth = None
numbers (Number a) Text = None
numbers Truth other = None
numbers Text other = None

-- the kind of either of two truths
abbrev pub truths : Class → Class → Option Scalar
truths Truth Truth = Some scalar.Bool
truths Truth Text = None
truths Truth (Number b) = None
truths Text other = None
truths (Number a) other = None

-- the kind of either of two integers, two truths or two texts
abbrev pub joined : Class → Class → Option Scalar
joined (Number a) (Number b) = Some (wide (a || b))
joined (Number a) Truth = None
joined (Number a) Text = None
joined Truth Truth = Some scalar.Bool
joined Truth Text = None
joined Truth (Number b) = None
joined Text Text = Some scalar.Text
joined Text Truth = None
joined Text (Number b) = None

-- the kind of a comparison
abbrev pub compared_kind : Class → Class → Option Scalar
compared_kind a b = option_map (λ _. scalar.Bool) (joined a b)

-- the kind of an operation with two operands; a difference has a sign always
abbrev pub binary_kind : BinaryOp → Class → Class → Option Scalar
binary_kind binary.Or a b = truths a b
binary_kind binary.And a b = truths a b
binary_kind binary.Equal a b = compared_kind a b
binary_kind binary.Unequal a b = compared_kind a b
binary_kind binary.Less a b = compared_kind a b
binary_kind binary.LessEqual a b = compared_kind a b
binary_kind binary.Greater a b = compared_kind a b
binary_kind binary.GreaterEqual a b = compared_kind a b
binary_kind binary.Plus a b = option_map wide (numbers a b)
binary_kind binary.Minus a b = option_map (λ _. scalar.Int64) (numbers a b)
binary_kind binary.Times a b = option_map wide (numbers a b)
binary_kind binary.Modulo a b = option_map wide (numbers a b)

-- the kind of an operation with one operand
abbrev pub unary_kind : UnaryOp → Class → Option Scalar
unary_kind unary.Minus (Number a) = Some scalar.Int64
unary_kind unary.Minus Truth = None
unary_kind unary.Minus Text = None
unary_kind unary.Not Truth = Some scalar.Bool
unary_kind unary.Not (Number a) = None
unary_kind unary.Not Text = None
