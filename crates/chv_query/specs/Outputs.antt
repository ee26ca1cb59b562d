-- The condition and the output columns of a query, row by row: docs/SQL.md, "SELECT".
use Rattle.std.specs.Prelude.{ℕ, ◌+◌, Bool, true, false, not, List, [], ◌∷◌, ◌++◌, map, Option, None, Some, Result, Ok}
use Rattle.std.specs.Option.{unwrap_or}
use Rattle.chv_ast.specs.declared.expr.Args.TheFolds.{fold-Expr}
use Rattle.chv_ast.specs.declared.expr.Args.TheOpen.{Expr-F}
use Rattle.chv_ast.specs.declared.expr.Expr.{Expr}
use Rattle.chv_ast.specs.declared.refusal.Refusal.{Refusal}
use Rattle.chv_ast.specs.declared.refusal.Refusal.TheVariants.{TypeMismatch}
use Rattle.chv_ast.specs.declared.statement.Item.{Item}
use Rattle.chv_ast.specs.declared.statement.Item.TheVariants as shown
use Rattle.chv_print.specs.ExprTexts.{expr_text}
use Rattle.chv_types.specs.Steps.{and_then, refuse_if}
use Rattle.chv_types.specs.declared.kind.Kind.{Kind}
use Rattle.chv_types.specs.declared.kind.Kind.TheVariants as kind
use Rattle.chv_types.specs.declared.kind.Scalar.TheVariants as scalar
use Rattle.chv_types.specs.declared.table.Column.{Column}
use Rattle.chv_expr.specs.Terms.{Term, column_at, term_of}

-- an output column: its name, and what it means
pub record Output : Type 0 where
  pub name : List ℕ
  pub term : Term

-- a kind is that of truths
abbrev pub is_truth : Kind → Bool
is_truth (kind.Plain scalar.Bool) = true
is_truth (kind.Plain other) = false
is_truth (kind.State agg arg) = false

-- the condition, which has to be a truth
abbrev pub filter_of : List Column → Option Expr → Result (Option Term) Refusal
filter_of columns None = Ok None
filter_of columns (Some condition) =
    and_then (term_of columns condition) (λ term. refuse_if (not (is_truth term.kind)) TypeMismatch (Ok (Some term)))

-- the name of an expression that is one name
abbrev pub name_step : Expr-F (Unit {0}) (Option (List ℕ)) → Option (List ℕ)
name_step (Expr-F.Column name) = Some name
name_step (Expr-F.Literal value) = None
name_step (Expr-F.Unary op arg) = None
name_step (Expr-F.Binary op left right) = None
name_step (Expr-F.Call function args) = None

unfoldable pub column_name : Expr → Option (List ℕ)
column_name = fold-Expr (Unit {0}) (Option (List ℕ)) (λ args. tt) name_step

-- the name of an output column: its alias, or its column's name, or its canonical text
abbrev pub output_name : Option (List ℕ) → Expr → List ℕ
output_name (Some alias) e = alias
output_name None e = unwrap_or (column_name e) (expr_text e)

-- columns as they are, from a place on
abbrev pub columns_from : ℕ → List Column → List Output
columns_from place [] = []
columns_from place (column ∷ columns) = record { name = column.name; term = column_at place column } ∷ columns_from (place + 1) columns

-- the output columns of an item: all columns, or one expression
abbrev pub item_outputs : List Column → Item → Result (List Output) Refusal
item_outputs columns shown.All = Ok (columns_from 0 columns)
item_outputs columns (shown.One e alias) = and_then (term_of columns e) (λ term. Ok (record { name = output_name alias e; term = term } ∷ []))

-- the output columns of items
abbrev pub outputs_of : List Column → List Item → Result (List Output) Refusal
outputs_of columns [] = Ok []
outputs_of columns (item ∷ items) =
    and_then (item_outputs columns item) (λ outputs. and_then (outputs_of columns items) (λ others. Ok (outputs ++ others)))

-- the names and the kinds of output columns
abbrev pub columns_of : List Output → List Column
columns_of outputs = map (λ (output : Output). record { name = output.name; kind = output.term.kind }) outputs
