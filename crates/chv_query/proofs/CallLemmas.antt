-- What an expression calls.
use Rattle.std.proofs.Common.{◌≡◌, ◌∙◌, ℕ, false, pos, List, None, Some, Ok, arith, option_map, ap, sym, refl}
use Rattle.chv_ast.specs.declared.expr.Args.{Args}
use Rattle.chv_ast.specs.declared.expr.Args.TheOpen.{Expr-F}
use Rattle.chv_ast.specs.declared.expr.Expr.{Expr, out-Expr, roll-Expr, roll-out-Expr, out-roll-Expr}
use Rattle.chv_ast.specs.declared.expr.Expr.TheVariants as expr
use Rattle.chv_ast.specs.declared.refusal.Refusal.TheVariants.{TypeMismatch}
use Rattle.chv_expr.proofs.FitLemmas.{fits-small}
use Rattle.chv_expr.proofs.MeansLemmas.{Means-constant}
use Rattle.chv_expr.specs.Bindings.{Means}
use Rattle.chv_expr.specs.Terms.{Term}
use Rattle.chv_expr.specs.declared.bound.Bound.{Bound}
use Rattle.chv_expr.specs.declared.tree.Tree.TheVariants as tree
use Rattle.chv_group.specs.Groups.{takes_states}
use Rattle.chv_query.specs.Bound.{IsCall}
use Rattle.chv_query.specs.Calls.{Called, called_alone, called_on, over_of, wanted, wanted_in}
use Rattle.chv_types.specs.Aggregates.{agg_of}
use Rattle.chv_types.specs.Steps.{or_refuse}
use Rattle.chv_types.specs.declared.aggregate.AggForm.{AggForm}
use Rattle.chv_types.specs.declared.aggregate.AggName.{AggName}
use Rattle.chv_types.specs.declared.aggregate.AggName.TheVariants as agg
use Rattle.chv_types.specs.declared.kind.Kind.TheVariants as kind
use Rattle.chv_types.specs.declared.kind.Scalar.{Scalar}
use Rattle.chv_types.specs.declared.kind.Scalar.TheVariants as scalar
use Rattle.chv_types.specs.declared.table.Column.{Column}
use Rattle.chv_types.specs.declared.value.Value.TheVariants.{Whole}

-- what one layer calls
layer_wanted : (layer : Expr-F Args Expr) → wanted (roll-Expr layer) ≡ wanted_in layer
unfolding wanted
layer_wanted layer = ap wanted_in (out-roll-Expr layer)

pub wanted-Call : (name : List ℕ) (args : Args)
    → wanted (expr.Call name args) ≡ option_map (λ named. record { agg = named.0; form = named.1; args = args }) (agg_of name)
wanted-Call name args = ap wanted (sym (expr.rolls-Call name args)) ∙ layer_wanted (Expr-F.Call name args)

-- an expression of another form calls nothing
other : (layer : Expr-F Args Expr) → ((name : List ℕ) (args : Args) → roll-Expr layer ≡ expr.Call name args → ⊥) → wanted (roll-Expr layer) ≡ None
other (Expr-F.Column name) h = layer_wanted (Expr-F.Column name)
other (Expr-F.Literal value) h = layer_wanted (Expr-F.Literal value)
other (Expr-F.Unary op arg) h = layer_wanted (Expr-F.Unary op arg)
other (Expr-F.Binary op left right) h = layer_wanted (Expr-F.Binary op left right)
other (Expr-F.Call name args) h = absurd (h name args (expr.rolls-Call name args))

pub wanted-other : (e : Expr) → ((name : List ℕ) (args : Args) → e ≡ expr.Call name args → ⊥) → wanted e ≡ None
wanted-other e h = rw (← roll-out-Expr e) (other (out-Expr e) (λ name args is. h name args (sym (roll-out-Expr e) ∙ is)))

-- a call on a bound argument
pub called_on-bound : (columns : List Column) (name : AggName) (form : AggForm) (arg : Bound) (term : Term) (plain : Scalar)
    → over_of name form arg.kind ≡ Some plain → Means columns arg term
    → (called : Called) × (or_refuse TypeMismatch (called_on name form term) ≡ Ok called)
    × IsCall columns (record { call = record { agg = name; arg = plain; form = form }; arg = arg }) called
called_on-bound columns name form arg term plain over means = (
  record { call = record { agg = name; arg = plain; form = form }; arg = term },
  rw (← means.kind, over) refl,
  record { call = refl; means = means },
)

-- a count of rows
pub called_alone-bound : (columns : List Column) (form : AggForm) (arg : Bound) → takes_states form ≡ false → arg.kind ≡ kind.Plain scalar.UInt64
    → arg.tree ≡ tree.Constant (Whole (pos 0)) → (called : Called) × (or_refuse TypeMismatch (called_alone agg.Count form) ≡ Ok called)
    × IsCall columns (record { call = record { agg = agg.Count; arg = scalar.UInt64; form = form }; arg = arg }) called
called_alone-bound columns form arg values is constant =
    rw values (_, refl, record { call = refl; means = Means-constant columns scalar.UInt64 (Whole (pos 0)) arg (fits-small 0 (omega arith)) is constant })
