-- Calls of aggregate functions: docs/SQL.md, "Aggregate functions".
use Rattle.std.specs.Prelude.{pos, Bool, true, false, ◌&&◌, if◌then◌else◌, List, [], ◌∷◌, Option, None, Some, Result}
use Rattle.std.specs.Option.{option_map, unwrap_or}
use Rattle.chv_ast.specs.declared.expr.Args.{Args}
use Rattle.chv_ast.specs.declared.expr.Args.TheOpen.{Expr-F}
use Rattle.chv_ast.specs.declared.expr.Expr.{Expr, out-Expr}
use Rattle.chv_ast.specs.declared.refusal.Refusal.{Refusal}
use Rattle.chv_ast.specs.declared.refusal.Refusal.TheVariants.{TypeMismatch}
use Rattle.chv_expr.specs.Terms.{Term, constant, terms_of}
use Rattle.chv_group.specs.Groups.{gives_state, takes_states}
use Rattle.chv_group.specs.declared.call.AggCall.{AggCall}
use Rattle.chv_types.specs.Aggregates.{agg_of, result_of}
use Rattle.chv_types.specs.Steps.{and_then, or_refuse}
use Rattle.chv_types.specs.declared.aggregate.AggForm.{AggForm}
use Rattle.chv_types.specs.declared.aggregate.AggName.{AggName}
use Rattle.chv_types.specs.declared.aggregate.AggName.TheVariants as agg
use Rattle.chv_types.specs.declared.kind.Kind.{Kind}
use Rattle.chv_types.specs.declared.kind.Kind.TheVariants as kind
use Rattle.chv_types.specs.declared.kind.Scalar.{Scalar}
use Rattle.chv_types.specs.declared.kind.Scalar.TheVariants as scalar
use Rattle.chv_types.specs.declared.table.Column.{Column}
use Rattle.chv_types.specs.declared.value.Value.TheVariants.{Whole}

-- an aggregate function in a form, and the arguments that it is called with
pub record Wanted : Type 0 where
  pub agg : AggName
  pub form : AggForm
  pub args : Args

-- what is called, where the outermost of an expression is a call of an aggregate function
abbrev pub wanted_in : Expr-F Args Expr → Option Wanted
wanted_in (Expr-F.Column name) = None
wanted_in (Expr-F.Literal value) = None
wanted_in (Expr-F.Unary op arg) = None
wanted_in (Expr-F.Binary op left right) = None
wanted_in (Expr-F.Call name args) = option_map (λ named. record { agg = named.0; form = named.1; args = args }) (agg_of name)

-- what an expression calls that is a call of an aggregate function
unfoldable pub wanted : Expr → Option Wanted
wanted e = wanted_in (out-Expr e)

-- a call over the rows of a group, and what its argument is on a row
pub record Called : Type 0 where
  pub call : AggCall
  pub arg : Term

-- both are the same function
abbrev pub same_function : AggName → AggName → Bool
same_function agg.Count agg.Count = true
same_function agg.Sum agg.Sum = true
same_function agg.Min agg.Min = true
same_function agg.Max agg.Max = true
same_function agg.UniqExact agg.UniqExact = true
same_function a b = false

-- the kind of the values that a function is over, where it takes values of this kind; a count takes none
abbrev pub values_of : AggName → Scalar → Option Scalar
values_of agg.Count plain = None
values_of agg.Sum plain = option_map (λ _. plain) (result_of agg.Sum plain)
values_of agg.Min plain = Some plain
values_of agg.Max plain = Some plain
values_of agg.UniqExact plain = Some plain

-- the kind of the values that a call is over, by the kind of its argument: values, or states of the same function
abbrev pub over_of : AggName → AggForm → Kind → Option Scalar
over_of name form (kind.Plain plain) = if takes_states form then None else values_of name plain
over_of name form (kind.State other plain) = if takes_states form && same_function name other then Some plain else None

-- a call on one argument
abbrev pub called_on : AggName → AggForm → Term → Option Called
called_on name form term = option_map (λ plain. record { call = record { agg = name; arg = plain; form = form }; arg = term }) (over_of name form term.kind)

-- a call without an argument: a count of rows, as if each had the number 0
abbrev pub called_alone : AggName → AggForm → Option Called
called_alone agg.Count form =
    if takes_states form then None
    else Some (record { call = record { agg = agg.Count; arg = scalar.UInt64; form = form }; arg = constant scalar.UInt64 (Whole (pos 0)) })
called_alone agg.Sum form = None
called_alone agg.Min form = None
called_alone agg.Max form = None
called_alone agg.UniqExact form = None

-- a call on arguments, where it takes them
abbrev pub called_with : AggName → AggForm → List Term → Option Called
called_with name form [] = called_alone name form
called_with name form (term ∷ []) = called_on name form term
called_with name form (term ∷ (next ∷ terms)) = None

-- a call: its arguments come before it
abbrev pub call_of : List Column → Wanted → Result Called Refusal
call_of columns wanted = and_then (terms_of columns wanted.args) (λ terms. or_refuse TypeMismatch (called_with wanted.agg wanted.form terms))

-- the kind of what a call gives
abbrev pub call_kind : AggCall → Kind
call_kind call =
    if gives_state call.form then kind.State call.agg call.arg else kind.Plain (unwrap_or (result_of call.agg call.arg) call.arg)
