-- Queries whose names are places.
use Rattle.std.specs.Prelude.{ℕ, ◌≡◌, List, [], ◌∷◌, map, drop, slice_get, Option, None, Some, IfSome, Result, Ok, Err}
use Rattle.std.specs.List.{All}
use Rattle.std.specs.Option.{option_map}
use Rattle.chv_ast.specs.declared.refusal.Refusal.{Refusal}
use Rattle.chv_catalog.specs.declared.fault.StatementFault.{StatementFault}
use Rattle.chv_catalog.specs.declared.fault.StatementFault.TheVariants.{Refused, NoMemory}
use Rattle.chv_catalog.specs.Schemas.{kinds_of}
use Rattle.chv_types.specs.Fits.{FitAll}
use Rattle.chv_types.specs.declared.kind.Kind.{Kind}
use Rattle.chv_types.specs.declared.table.Column.{Column}
use Rattle.chv_types.specs.declared.value.Value.{Value}
use Rattle.chv_expr.specs.Bindings.{meaning, Means}
use Rattle.chv_expr.specs.Terms.{Term, value_at}
use Rattle.chv_expr.specs.declared.bound.Bound.{Bound}
use Rattle.chv_group.specs.Groups.{TakesArguments}
use Rattle.chv_print.specs.ExprTexts.{expr_text}
use Rattle.chv_query.specs.Calls.{Called}
use Rattle.chv_query.specs.Keys.{Key}
use Rattle.chv_query.specs.Outputs.{Output, columns_of}
use Rattle.chv_query.specs.Queries.{Asked, made_of}
use Rattle.chv_query.specs.Results.{outcome, results, shaped, first_division_in}
use Rattle.chv_query.specs.Shapes.{Cells, Shape}
use Rattle.chv_query.specs.declared.calls.BoundCall.{BoundCall}
use Rattle.chv_query.specs.declared.cells.BoundCells.{BoundCells}
use Rattle.chv_query.specs.declared.groups.Groups.{Groups}
use Rattle.chv_query.specs.declared.keys.Keys.{Keys}
use Rattle.chv_query.specs.declared.output.Outputs.{Outputs}
use Rattle.chv_query.specs.declared.shape.BoundShape.{BoundShape}
use Rattle.chv_query.specs.declared.query.Query.{Query}

-- what a bound expression means
abbrev pub term_in : Bound → Term
term_in bound = record { kind = bound.kind; value = meaning bound }

-- what a bound query evaluates on a row that passes
abbrev pub made_by : Query → List Value → Option (List (List Value))
made_by query = outcome (option_map term_in query.filter) (map term_in query.terms)

-- the rows of a bound query over the rows of its table
abbrev pub run : Query → List (List Value) → List (List Value)
run query rows = shaped query.grouping (results (made_by query) rows)

-- the first of these rows on which a bound query divides by zero
abbrev pub first_division : Query → List (List Value) → Option ℕ
first_division query = first_division_in (made_by query)

-- a bound expression is the column of a place
abbrev pub IsColumn : ℕ → Bound → Type 0
IsColumn place bound = (row : List Value) → meaning bound row ≡ Some (value_at place row)

-- bound expressions are the columns of a row, from the first on
abbrev pub AreColumns : List Bound → Type 0
AreColumns bounds = (place : ℕ) (bound : Bound) → slice_get bounds place ≡ Some bound → IsColumn place bound

-- a call answers as a definition: what is answered stands so to what the definition gives, a refusal is the definition's, and
-- there is no memory for anything else
abbrev pub AnswersAs : {A B : Type 0} → (A → B → Type 0) → Result B Refusal → Result A StatementFault → Type 0
AnswersAs {B = B} Is outcome (Ok answer) = (given : B) × (outcome ≡ Ok given) × Is answer given
AnswersAs Is outcome (Err (Refused refusal)) = outcome ≡ Err refusal
AnswersAs Is outcome (Err NoMemory) = Unit {0}

-- a bound condition is the one of a definition, where there is one, and a truth
abbrev pub IsFilter : List Column → Option Bound → Option Term → Type 0
IsFilter columns None None = Unit {0}
IsFilter columns (Some bound) (Some term) = Means columns bound term
IsFilter columns bound term = ⊥

-- bound expressions mean these terms, one for one
abbrev pub AllMean : List Column → List Bound → List Term → Type 0
AllMean columns [] [] = Unit {0}
AllMean columns (bound ∷ bounds) (term ∷ terms) = Means columns bound term × AllMean columns bounds terms
AllMean columns bounds terms = ⊥

-- bound output columns are these: by name and kind, and by what they mean
pub record AreOutputs (columns : List Column) (bound : Outputs) (outputs : List Output) : Type 0 where
  pub named : bound.columns ≡ columns_of outputs
  pub mean : AllMean columns bound.bounds (map (λ (output : Output). output.term) outputs)

-- bound keys are these: by what they mean, and by their canonical texts
pub record AreKeys (source : List Column) (bound : Keys) (keys : List Key) : Type 0 where
  pub mean : AllMean source bound.bounds (map (λ (key : Key). key.term) keys)
  pub texts : bound.texts ≡ map (λ (key : Key). expr_text key.tree) keys

-- a place and a kind are those of a key
abbrev pub IsKeyShown : ℕ × Kind → ℕ × Key → Type 0
IsKeyShown found shown = (found.0 ≡ shown.0) × (found.1 ≡ shown.1.term.kind)

-- a bound call is this one
pub record IsCall (source : List Column) (bound : BoundCall) (called : Called) : Type 0 where
  pub call : bound.call ≡ called.call
  pub means : Means source bound.arg called.arg

-- bound cells are these
pub record AreCells (source : List Column) (bound : BoundCells) (cells : Cells) : Type 0 where
  pub calls : bound.calls ≡ cells.calls
  pub mean : AllMean source bound.args cells.args
  pub columns : bound.columns ≡ cells.columns
  pub places : bound.places ≡ cells.places

-- a bound shape is this one
pub record IsShape (source : List Column) (bound : BoundShape) (shape : Shape) : Type 0 where
  pub mean : AllMean source bound.terms shape.terms
  pub grouping : bound.grouping ≡ shape.grouping
  pub columns : bound.columns ≡ shape.columns

-- what is evaluated on a row is what the calls of groups take
abbrev pub TakesValues : Option Groups → List Value → Type 0
TakesValues None values = Unit {0}
TakesValues (Some groups) values = TakesArguments groups.calls (drop groups.keys values)

-- what a bound query evaluates on a row is what its calls take
abbrev pub TakesRow : Query → List Value → Type 0
TakesRow query row = IfSome (made_by query row) (All (TakesValues query.grouping))

-- a bound query is what is asked: of the same table and engine, with the same grouping, columns, order and bound on rows; it sees
-- merges where that does; it makes of each row the same; and of a row of the table's kinds rows of the terms' kinds, which its calls take, and which are the columns'
-- kinds where it does not group
pub record IsQuery (query : Query) (asked : Asked) : Type 0 where
  pub table : query.table ≡ asked.table
  pub engine : query.engine ≡ asked.def.engine
  pub columns : query.columns ≡ asked.columns
  pub grouping : query.grouping ≡ asked.grouping
  pub order : query.order ≡ asked.order
  pub limit : query.limit ≡ asked.limit
  pub blind : query.blind ≡ asked.blind
  pub same : (row : List Value) → made_by query row ≡ made_of asked row
  pub fits : (row : List Value) → FitAll (kinds_of asked.def) row
      → IfSome (made_of asked row) (All (FitAll (map (λ (term : Term). term.kind) asked.terms)))
  pub takes : (row : List Value) → FitAll (kinds_of asked.def) row → TakesRow query row
  pub single : asked.grouping ≡ None → map (λ (column : Column). column.kind) query.columns ≡ map (λ (term : Term). term.kind) asked.terms
