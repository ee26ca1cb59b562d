-- What each form of expression means.
use Rattle.std.specs.Prelude.{ℕ, ◌≡◌, List, [], ◌∷◌, Result, Ok}
use Rattle.std.proofs.Common.{ap, sym, ◌∙◌}
use Rattle.chv_ast.specs.declared.expr.Args.{Args, roll-Args, map-Args}
use Rattle.chv_ast.specs.declared.expr.Args.TheFolds.{fold-roll-Expr, fold-roll-Args}
use Rattle.chv_ast.specs.declared.expr.Args.TheOpen.{Expr-F, Args-F}
use Rattle.chv_ast.specs.declared.expr.Args.TheVariants as args
use Rattle.chv_ast.specs.declared.expr.BinaryOp.{BinaryOp}
use Rattle.chv_ast.specs.declared.expr.Expr.{Expr, roll-Expr, map-Expr}
use Rattle.chv_ast.specs.declared.expr.Expr.TheVariants as expr
use Rattle.chv_ast.specs.declared.expr.Literal.{Literal}
use Rattle.chv_ast.specs.declared.expr.UnaryOp.{UnaryOp}
use Rattle.chv_ast.specs.declared.refusal.Refusal.{Refusal}
use Rattle.chv_ast.specs.declared.refusal.Refusal.TheVariants.{TypeMismatch}
use Rattle.chv_types.specs.Steps.{and_then, or_refuse}
use Rattle.chv_types.specs.declared.table.Column.{Column}
use Rattle.chv_expr.specs.Terms.{Term, expr_step, args_step, term_of, terms_of, column_term, literal_term, unary_term, binary_term, call_term}

-- the meaning of one layer
term_at : (columns : List Column) (layer : Expr-F Args Expr)
    → term_of columns (roll-Expr layer) ≡ expr_step columns (map-Expr Args Expr (Result (List Term) Refusal) (Result Term Refusal) (terms_of columns) (term_of columns) layer)
unfolding term_of terms_of
term_at columns layer = fold-roll-Expr (Result (List Term) Refusal) (Result Term Refusal) args_step (expr_step columns) layer

-- the meanings of one layer of arguments
terms_at : (columns : List Column) (layer : Args-F Args Expr)
    → terms_of columns (roll-Args layer) ≡ args_step (map-Args Args Expr (Result (List Term) Refusal) (Result Term Refusal) (terms_of columns) (term_of columns) layer)
unfolding term_of terms_of
terms_at columns layer = fold-roll-Args (Result (List Term) Refusal) (Result Term Refusal) args_step (expr_step columns) layer

pub term-Column : (columns : List Column) (name : List ℕ) → term_of columns (expr.Column name) ≡ column_term columns name
term-Column columns name = ap (term_of columns) (sym (expr.rolls-Column name)) ∙ term_at columns (Expr-F.Column name)

pub term-Literal : (columns : List Column) (value : Literal) → term_of columns (expr.Literal value) ≡ literal_term value
term-Literal columns value = ap (term_of columns) (sym (expr.rolls-Literal value)) ∙ term_at columns (Expr-F.Literal value)

pub term-Unary : (columns : List Column) (op : UnaryOp) (arg : Expr)
    → term_of columns (expr.Unary op arg) ≡ and_then (term_of columns arg) (λ a. or_refuse TypeMismatch (unary_term op a))
term-Unary columns op arg = ap (term_of columns) (sym (expr.rolls-Unary op arg)) ∙ term_at columns (Expr-F.Unary op arg)

pub term-Binary : (columns : List Column) (op : BinaryOp) (left right : Expr)
    → term_of columns (expr.Binary op left right)
    ≡ and_then (term_of columns left) (λ a. and_then (term_of columns right) (λ b. or_refuse TypeMismatch (binary_term op a b)))
term-Binary columns op left right = ap (term_of columns) (sym (expr.rolls-Binary op left right)) ∙ term_at columns (Expr-F.Binary op left right)

pub term-Call : (columns : List Column) (name : List ℕ) (list : Args)
    → term_of columns (expr.Call name list) ≡ and_then (terms_of columns list) (call_term name)
term-Call columns name list = ap (term_of columns) (sym (expr.rolls-Call name list)) ∙ term_at columns (Expr-F.Call name list)

pub terms-End : (columns : List Column) → terms_of columns args.End ≡ Ok []
terms-End columns = ap (terms_of columns) (sym args.rolls-End) ∙ terms_at columns Args-F.End

pub terms-More : (columns : List Column) (first : Expr) (list : Args)
    → terms_of columns (args.More first list) ≡ and_then (term_of columns first) (λ a. and_then (terms_of columns list) (λ terms. Ok (a ∷ terms)))
terms-More columns first list = ap (terms_of columns) (sym (args.rolls-More first list)) ∙ terms_at columns (Args-F.More first list)

pub ruleset term_laws = (term-Column, term-Literal, term-Unary, term-Binary, term-Call, terms-End, terms-More)
