-- What is bound: expressions whose names are places.
use Rattle.std.specs.Prelude.{◌≡◌, List, [], ◌∷◌, map, Option, None, Some, IfSome, Result, Ok, Err}
use Rattle.chv_ast.specs.declared.refusal.Refusal.{Refusal}
use Rattle.chv_ast.specs.declared.refusal.Refusal.TheVariants as refusal
use Rattle.chv_types.specs.Fits.{Fits, FitAll}
use Rattle.chv_types.specs.Values.{seen_value}
use Rattle.chv_types.specs.declared.kind.Kind.{Kind}
use Rattle.chv_types.specs.declared.seen.Seen.{Seen}
use Rattle.chv_types.specs.declared.table.Column.{Column}
use Rattle.chv_types.specs.declared.value.Value.{Value}
use Rattle.chv_expr.specs.Terms.{Term, value_at}
use Rattle.chv_expr.specs.Values.{arithmetic, comparison, conjunction, disjunction, negation, choice, widened, text_length}
use Rattle.chv_expr.specs.declared.arguments.Arguments.{Arguments}
use Rattle.chv_expr.specs.declared.arguments.Arguments.TheVariants as arguments
use Rattle.chv_expr.specs.declared.bound.Bound.{Bound}
use Rattle.chv_expr.specs.declared.fault.Untyped.{Untyped}
use Rattle.chv_expr.specs.declared.fault.Untyped.TheVariants.{UnknownColumn, UnknownFunction, TypeMismatch, BadLiteral, NoMemory}
use Rattle.chv_expr.specs.declared.fault.ZeroDivisor.{ZeroDivisor}
use Rattle.chv_expr.specs.declared.tree.Tree.{Tree}
use Rattle.chv_expr.specs.declared.tree.Tree.TheOpen.{Tree-F}
use Rattle.chv_expr.specs.declared.tree.Tree.TheFolds.{fold-Tree}

-- the value of a tree over a row, where those of its parts stand in their places
abbrev pub tree_step : Tree-F (List Value → Option Value) → List Value → Option Value
tree_step (Tree-F.Column place) row = Some (value_at place row)
tree_step (Tree-F.Constant value) row = Some value
tree_step (Tree-F.Not arg) row = negation (arg row)
tree_step (Tree-F.And left right) row = conjunction (left row) (right row)
tree_step (Tree-F.Or left right) row = disjunction (left row) (right row)
tree_step (Tree-F.Compare test left right) row = comparison test (left row) (right row)
tree_step (Tree-F.Calculate operation signed left right) row = arithmetic operation signed (left row) (right row)
tree_step (Tree-F.Widen signed arg) row = widened signed (arg row)
tree_step (Tree-F.Length arg) row = text_length (arg row)
tree_step (Tree-F.If test left right) row = choice (test row) (left row) (right row)

-- the value of a tree over a row; None where a divisor is zero
unfoldable pub tree_value : Tree → List Value → Option Value
tree_value = fold-Tree (List Value → Option Value) tree_step

-- the value that an answer holds
abbrev pub value_in : Result Seen ZeroDivisor → Option Value
value_in (Ok seen) = Some (seen_value seen)
value_in (Err divisor) = None

-- the value of a bound expression over a row
abbrev pub meaning : Bound → List Value → Option Value
meaning bound row = tree_value bound.tree row

-- the kinds of columns
abbrev pub kinds_of : List Column → List Kind
kinds_of columns = map (λ column. column.kind) columns

-- a bound expression has a term's kind and its value over each row; and over rows of the columns' kinds the value is of its kind
pub record Means (columns : List Column) (bound : Bound) (term : Term) : Type 0 where
  pub kind : bound.kind ≡ term.kind
  pub same : (row : List Value) → meaning bound row ≡ term.value row
  pub fits : (row : List Value) → FitAll (kinds_of columns) row → IfSome (term.value row) (Fits term.kind)

-- the refusal that a fault is, where it is one
abbrev pub refusal_of : Untyped → Option Refusal
refusal_of UnknownColumn = Some refusal.UnknownColumn
refusal_of UnknownFunction = Some refusal.UnknownFunction
refusal_of TypeMismatch = Some refusal.TypeMismatch
refusal_of BadLiteral = Some refusal.BadLiteral
refusal_of NoMemory = None

-- a fault is the refusal that a definition gives, or want of memory
abbrev pub Refuses : {A : Type 0} → Result A Refusal → Untyped → Type 0
Refuses outcome fault = (refusal : Refusal) → refusal_of fault ≡ Some refusal → outcome ≡ Err refusal

-- an expression is bound: it means what a definition gives, or is refused as the definition says, or there is no memory
abbrev pub Binds : List Column → Result Term Refusal → Result Bound Untyped → Type 0
Binds columns outcome (Ok bound) = (term : Term) × (outcome ≡ Ok term) × Means columns bound term
Binds columns outcome (Err fault) = Refuses outcome fault

-- bound arguments mean these terms; of more than three nothing is kept
abbrev pub AreMeant : List Column → Arguments → List Term → Type 0
AreMeant columns arguments.None [] = Unit {0}
AreMeant columns (arguments.One a) (x ∷ []) = Means columns a x
AreMeant columns (arguments.Two a b) (x ∷ y ∷ []) = Means columns a x × Means columns b y
AreMeant columns (arguments.Three a b c) (x ∷ y ∷ z ∷ []) = Means columns a x × Means columns b y × Means columns c z
AreMeant columns arguments.More (x ∷ y ∷ z ∷ more ∷ terms) = Unit {0}
AreMeant columns other terms = ⊥

-- arguments are bound: each means what a definition gives, or the first that is refused is told
abbrev pub BindsAll : List Column → Result (List Term) Refusal → Result Arguments Untyped → Type 0
BindsAll columns outcome (Ok arguments) = (terms : List Term) × (outcome ≡ Ok terms) × AreMeant columns arguments terms
BindsAll columns outcome (Err fault) = Refuses outcome fault
