-- What each form of expression uses.
use Rattle.std.specs.Prelude.{ℕ, ◌≡◌, Bool, true, ◌&&◌, List}
use Rattle.std.proofs.Common.{ap, sym, ◌∙◌}
use Rattle.chv_ast.specs.declared.expr.Args.{Args, roll-Args, map-Args}
use Rattle.chv_ast.specs.declared.expr.Args.TheFolds.{fold-roll-Expr, fold-roll-Args}
use Rattle.chv_ast.specs.declared.expr.Args.TheOpen.{Expr-F, Args-F}
use Rattle.chv_ast.specs.declared.expr.Args.TheVariants as args
use Rattle.chv_ast.specs.declared.expr.BinaryOp.{BinaryOp}
use Rattle.chv_ast.specs.declared.expr.Expr.{Expr, roll-Expr, map-Expr}
use Rattle.chv_ast.specs.declared.expr.Expr.TheVariants as expr
use Rattle.chv_ast.specs.declared.expr.Literal.{Literal}
use Rattle.chv_ast.specs.declared.expr.UnaryOp.{UnaryOp}
use Rattle.chv_catalog.specs.declared.table_def.TableDef.{TableDef}
use Rattle.chv_query.specs.MergeBlind.{args_use, expr_uses, is_key, use_key, uses_key}

uses_at : (def : TableDef) (layer : Expr-F Args Expr) → uses_key def (roll-Expr layer) ≡ expr_uses def (map-Expr Args Expr Bool Bool (use_key def) (uses_key def) layer)
unfolding uses_key use_key
uses_at def layer = fold-roll-Expr Bool Bool args_use (expr_uses def) layer

use_at : (def : TableDef) (layer : Args-F Args Expr) → use_key def (roll-Args layer) ≡ args_use (map-Args Args Expr Bool Bool (use_key def) (uses_key def) layer)
unfolding uses_key use_key
use_at def layer = fold-roll-Args Bool Bool args_use (expr_uses def) layer

pub uses-Column : (def : TableDef) (name : List ℕ) → uses_key def (expr.Column name) ≡ is_key def name
uses-Column def name = ap (uses_key def) (sym (expr.rolls-Column name)) ∙ uses_at def (Expr-F.Column name)

pub uses-Literal : (def : TableDef) (value : Literal) → uses_key def (expr.Literal value) ≡ true
uses-Literal def value = ap (uses_key def) (sym (expr.rolls-Literal value)) ∙ uses_at def (Expr-F.Literal value)

pub uses-Unary : (def : TableDef) (op : UnaryOp) (arg : Expr) → uses_key def (expr.Unary op arg) ≡ uses_key def arg
uses-Unary def op arg = ap (uses_key def) (sym (expr.rolls-Unary op arg)) ∙ uses_at def (Expr-F.Unary op arg)

pub uses-Binary : (def : TableDef) (op : BinaryOp) (left right : Expr) → uses_key def (expr.Binary op left right) ≡ (uses_key def left && uses_key def right)
uses-Binary def op left right = ap (uses_key def) (sym (expr.rolls-Binary op left right)) ∙ uses_at def (Expr-F.Binary op left right)

pub uses-Call : (def : TableDef) (name : List ℕ) (list : Args) → uses_key def (expr.Call name list) ≡ use_key def list
uses-Call def name list = ap (uses_key def) (sym (expr.rolls-Call name list)) ∙ uses_at def (Expr-F.Call name list)

pub use-End : (def : TableDef) → use_key def args.End ≡ true
use-End def = ap (use_key def) (sym args.rolls-End) ∙ use_at def Args-F.End

pub use-More : (def : TableDef) (first : Expr) (list : Args) → use_key def (args.More first list) ≡ (uses_key def first && use_key def list)
use-More def first list = ap (use_key def) (sym (args.rolls-More first list)) ∙ use_at def (Args-F.More first list)

pub ruleset use_laws = (uses-Column, uses-Literal, uses-Unary, uses-Binary, uses-Call, use-End, use-More)
