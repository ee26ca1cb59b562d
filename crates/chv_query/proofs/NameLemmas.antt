-- The names of output columns.
use Rattle.std.specs.Prelude.{ℕ, ◌≡◌, List, Option, None, Some}
use Rattle.std.proofs.Common.{ap, sym, ◌∙◌}
use Rattle.chv_ast.specs.declared.expr.Args.{Args}
use Rattle.chv_ast.specs.declared.expr.Args.TheFolds.{fold-roll-Expr}
use Rattle.chv_ast.specs.declared.expr.Args.TheOpen.{Expr-F}
use Rattle.chv_ast.specs.declared.expr.Expr.{Expr, out-Expr, roll-Expr, roll-out-Expr, map-Expr}
use Rattle.chv_ast.specs.declared.expr.Expr.TheVariants as expr
use Rattle.chv_query.specs.Outputs.{column_name, name_step}

-- the name of one layer
named : (layer : Expr-F Args Expr) → column_name (roll-Expr layer) ≡ name_step (map-Expr Args Expr (Unit {0}) (Option (List ℕ)) (λ args. tt) column_name layer)
unfolding column_name
named layer = fold-roll-Expr (Unit {0}) (Option (List ℕ)) (λ args. tt) name_step layer

pub column_name-Column : (name : List ℕ) → column_name (expr.Column name) ≡ Some name
column_name-Column name = ap column_name (sym (expr.rolls-Column name)) ∙ named (Expr-F.Column name)

-- an expression of another form has none
other : (layer : Expr-F Args Expr) → ((name : List ℕ) → roll-Expr layer ≡ expr.Column name → ⊥) → column_name (roll-Expr layer) ≡ None
other (Expr-F.Column name) h = absurd (h name (expr.rolls-Column name))
other (Expr-F.Literal value) h = named (Expr-F.Literal value)
other (Expr-F.Unary op arg) h = named (Expr-F.Unary op arg)
other (Expr-F.Binary op left right) h = named (Expr-F.Binary op left right)
other (Expr-F.Call name args) h = named (Expr-F.Call name args)

pub column_name-other : (e : Expr) → ((name : List ℕ) → e ≡ expr.Column name → ⊥) → column_name e ≡ None
column_name-other e h = rw (← roll-out-Expr e) (other (out-Expr e) (λ name is. h name (sym (roll-out-Expr e) ∙ is)))
