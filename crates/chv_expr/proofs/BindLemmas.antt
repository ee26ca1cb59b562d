-- An expression is bound where its parts are bound.
use Rattle.std.specs.Prelude.{◌≡◌, List, ◌∷◌, Result, Ok}
use Rattle.std.proofs.Common.{refl, ◌∙◌}
use Rattle.chv_ast.specs.declared.expr.Args.{Args}
use Rattle.chv_ast.specs.declared.expr.Args.TheVariants as args
use Rattle.chv_ast.specs.declared.expr.BinaryOp.{BinaryOp}
use Rattle.chv_ast.specs.declared.expr.Expr.{Expr}
use Rattle.chv_ast.specs.declared.expr.Expr.TheVariants as expr
use Rattle.chv_ast.specs.declared.expr.UnaryOp.{UnaryOp}
use Rattle.chv_ast.specs.declared.refusal.Refusal.TheVariants.{TypeMismatch}
use Rattle.chv_types.specs.Steps.{or_refuse}
use Rattle.chv_types.specs.declared.table.Column.{Column}
use Rattle.chv_expr.specs.Bindings.{AreMeant, Binds, BindsAll}
use Rattle.chv_expr.specs.Terms.{Term, term_of, terms_of, unary_term, binary_term}
use Rattle.chv_expr.specs.declared.arguments.Arguments.{Arguments}
use Rattle.chv_expr.specs.declared.bound.Bound.{Bound}
use Rattle.chv_expr.specs.declared.fault.Untyped.{Untyped}
use Rattle.chv_expr.proofs.TermLaws.{term-Unary, term-Binary, terms-More}

-- an operation behind its operand
pub Binds-Unary : (columns : List Column) (op : UnaryOp) (arg : Expr) (a : Term) (result : Result Bound Untyped)
    → term_of columns arg ≡ Ok a → Binds columns (or_refuse TypeMismatch (unary_term op a)) result → Binds columns (term_of columns (expr.Unary op arg)) result
Binds-Unary columns op arg a result e b = rw (term-Unary columns op arg, e) b

-- an operation behind its operands
pub Binds-Binary : (columns : List Column) (op : BinaryOp) (left right : Expr) (a b : Term) (result : Result Bound Untyped)
    → term_of columns left ≡ Ok a → term_of columns right ≡ Ok b → Binds columns (or_refuse TypeMismatch (binary_term op a b)) result
    → Binds columns (term_of columns (expr.Binary op left right)) result
Binds-Binary columns op left right a b result e f m = rw (term-Binary columns op left right, e, f) m

-- an argument in front of others
pub BindsAll-More : (columns : List Column) (first : Expr) (list : Args) (a : Term) (terms : List Term) (arguments : Arguments)
    → term_of columns first ≡ Ok a → terms_of columns list ≡ Ok terms → AreMeant columns arguments (a ∷ terms)
    → BindsAll columns (terms_of columns (args.More first list)) (Ok arguments)
BindsAll-More columns first list a terms arguments e f m = (a ∷ terms, terms-More columns first list ∙ rw (e, f) refl, m)
