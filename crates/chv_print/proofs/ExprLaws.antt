-- The canonical text of each form of expression.
use Rattle.std.specs.Prelude.{ℕ, List, [], ◌∷◌, codes, ◌≡◌}
use Rattle.std.proofs.Common.{ap, sym, ◌∙◌}
use Rattle.chv_ast.specs.declared.expr.UnaryOp.{UnaryOp}
use Rattle.chv_ast.specs.declared.expr.BinaryOp.{BinaryOp}
use Rattle.chv_ast.specs.declared.expr.Literal.{Literal}
use Rattle.chv_ast.specs.declared.expr.Expr.{Expr}
use Rattle.chv_ast.specs.declared.expr.Expr.TheVariants as expr
use Rattle.chv_ast.specs.declared.expr.Args.{Args}
use Rattle.chv_ast.specs.declared.expr.Args.TheVariants as args
use Rattle.chv_ast.specs.declared.expr.Args.TheFolds.{fold-roll-Expr, fold-roll-Args}
use Rattle.chv_ast.specs.declared.expr.Args.TheOpen.{Expr-F, Args-F}
use Rattle.chv_ast.specs.declared.expr.Expr.{roll-Expr, map-Expr}
use Rattle.chv_ast.specs.declared.expr.Args.{roll-Args, map-Args}
use Rattle.chv_print.specs.Texts.{◌<>◌, name_text, literal_text, enclosed, listed}
use Rattle.chv_print.specs.ExprTexts.{expr_text, argument_texts, expr_step, args_step, unary_text, binary_text}

-- the text of one layer
text_at : (layer : Expr-F Args Expr) → expr_text (roll-Expr layer) ≡ expr_step (map-Expr Args Expr (List (List ℕ)) (List ℕ) argument_texts expr_text layer)
unfolding expr_text argument_texts
text_at layer = fold-roll-Expr (List (List ℕ)) (List ℕ) args_step expr_step layer

-- the texts of one layer of arguments
texts_at : (layer : Args-F Args Expr) → argument_texts (roll-Args layer) ≡ args_step (map-Args Args Expr (List (List ℕ)) (List ℕ) argument_texts expr_text layer)
unfolding expr_text argument_texts
texts_at layer = fold-roll-Args (List (List ℕ)) (List ℕ) args_step expr_step layer

pub text-Column : (name : List ℕ) → expr_text (expr.Column name) ≡ name_text name
text-Column name = ap expr_text (sym (expr.rolls-Column name)) ∙ text_at (Expr-F.Column name)

pub text-Literal : (value : Literal) → expr_text (expr.Literal value) ≡ literal_text value
text-Literal value = ap expr_text (sym (expr.rolls-Literal value)) ∙ text_at (Expr-F.Literal value)

pub text-Unary : (op : UnaryOp) (arg : Expr) → expr_text (expr.Unary op arg) ≡ codes "(" <> unary_text op <> expr_text arg <> codes ")"
text-Unary op arg = ap expr_text (sym (expr.rolls-Unary op arg)) ∙ text_at (Expr-F.Unary op arg)

pub text-Binary : (op : BinaryOp) (left right : Expr)
    → expr_text (expr.Binary op left right) ≡ codes "(" <> expr_text left <> codes " " <> binary_text op <> codes " " <> expr_text right <> codes ")"
text-Binary op left right = ap expr_text (sym (expr.rolls-Binary op left right)) ∙ text_at (Expr-F.Binary op left right)

pub text-Call : (function : List ℕ) (list : Args)
    → expr_text (expr.Call function list) ≡ name_text function <> enclosed (listed (λ text. text) (argument_texts list))
text-Call function list = ap expr_text (sym (expr.rolls-Call function list)) ∙ text_at (Expr-F.Call function list)

pub texts-End : argument_texts args.End ≡ []
texts-End = ap argument_texts (sym args.rolls-End) ∙ texts_at Args-F.End

pub texts-More : (first : Expr) (list : Args) → argument_texts (args.More first list) ≡ expr_text first ∷ argument_texts list
texts-More first list = ap argument_texts (sym (args.rolls-More first list)) ∙ texts_at (Args-F.More first list)

pub ruleset expr_laws = (text-Column, text-Literal, text-Unary, text-Binary, text-Call, texts-End, texts-More)
