-- The canonical text of expressions: docs/SQL.md, "Canonical text".
use Rattle.std.specs.Prelude.{ℕ, List, [], ◌∷◌, codes}
use Rattle.chv_ast.specs.declared.expr.UnaryOp.{UnaryOp}
use Rattle.chv_ast.specs.declared.expr.UnaryOp.TheVariants as unary
use Rattle.chv_ast.specs.declared.expr.BinaryOp.{BinaryOp}
use Rattle.chv_ast.specs.declared.expr.BinaryOp.TheVariants as binary
use Rattle.chv_ast.specs.declared.expr.Expr.{Expr}
use Rattle.chv_ast.specs.declared.expr.Args.{Args}
use Rattle.chv_ast.specs.declared.expr.Args.TheOpen.{Expr-F, Args-F}
use Rattle.chv_ast.specs.declared.expr.Args.TheFolds.{fold-Expr, fold-Args}
use Rattle.chv_print.specs.Texts.{◌<>◌, name_text, literal_text, enclosed, listed}

-- an operation with one operand, with what stands between it and the operand
abbrev pub unary_text : UnaryOp → List ℕ
unary_text unary.Minus = codes "-"
unary_text unary.Not = codes "NOT "

-- the sign of an operation with two operands, or its word
abbrev pub binary_text : BinaryOp → List ℕ
binary_text binary.Or = codes "OR"
binary_text binary.And = codes "AND"
binary_text binary.Equal = codes "="
binary_text binary.Unequal = codes "!="
binary_text binary.Less = codes "<"
binary_text binary.LessEqual = codes "<="
binary_text binary.Greater = codes ">"
binary_text binary.GreaterEqual = codes ">="
binary_text binary.Plus = codes "+"
binary_text binary.Minus = codes "-"
binary_text binary.Times = codes "*"
binary_text binary.Modulo = codes "%"

-- an expression, of whose parts the texts stand in their places; the arguments of a call are a list of texts
abbrev pub expr_step : Expr-F (List (List ℕ)) (List ℕ) → List ℕ
expr_step (Expr-F.Column name) = name_text name
expr_step (Expr-F.Literal value) = literal_text value
expr_step (Expr-F.Unary op arg) = codes "(" <> unary_text op <> arg <> codes ")"
expr_step (Expr-F.Binary op left right) = codes "(" <> left <> codes " " <> binary_text op <> codes " " <> right <> codes ")"
expr_step (Expr-F.Call function texts) = name_text function <> enclosed (listed (λ text. text) texts)

-- the texts of arguments, of which the rest's are there
abbrev pub args_step : Args-F (List (List ℕ)) (List ℕ) → List (List ℕ)
args_step Args-F.End = []
args_step (Args-F.More first rest) = first ∷ rest

-- an expression
unfoldable pub expr_text : Expr → List ℕ
expr_text = fold-Expr (List (List ℕ)) (List ℕ) args_step expr_step

-- each argument of a call
unfoldable pub argument_texts : Args → List (List ℕ)
argument_texts = fold-Args (List (List ℕ)) (List ℕ) args_step expr_step
