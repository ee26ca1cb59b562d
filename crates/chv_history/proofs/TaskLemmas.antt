-- What a task comes from.
use Rattle.std.proofs.Common.{◌≡◌, ℕ, Bool, true, false, not, Option, None, Some, Result, Ok, Err, IfOk, refl, ap}
use Rattle.chv_ast.specs.declared.refusal.Refusal.{Refusal}
use Rattle.chv_ast.specs.declared.refusal.Refusal.TheVariants.{LimitPassed, NotBuilt}
use Rattle.chv_ast.specs.declared.statement.CreateTable.{CreateTable}
use Rattle.chv_ast.specs.declared.statement.CreateView.{CreateView}
use Rattle.chv_ast.specs.declared.statement.Insert.{Insert}
use Rattle.chv_ast.specs.declared.statement.Select.{Select}
use Rattle.chv_ast.specs.declared.statement.Statement.{Statement}
use Rattle.chv_ast.specs.declared.statement.Statement.TheVariants as statement
use Rattle.chv_catalog.specs.Schemas.{Catalog}
use Rattle.chv_catalog.specs.declared.definition.Definition.TheVariants.{Table, View}
use Rattle.chv_catalog.specs.declared.table_def.TableDef.{TableDef}
use Rattle.chv_catalog.specs.declared.view_def.ViewDef.{ViewDef}
use Rattle.chv_query.proofs.QueryLemmas.{asked_select-asked}
use Rattle.chv_query.specs.Accepted.{Accepted, Defines}
use Rattle.chv_query.specs.Definitions.{defined}
use Rattle.chv_query.specs.Tables.{table_of}
use Rattle.chv_query.specs.Plans.{planned}
use Rattle.chv_query.specs.Queries.{Asked, asked, asked_select}
use Rattle.chv_query.specs.Views.{defined_view}
use Rattle.chv_types.specs.Steps.{and_then, refuse_if}
use Rattle.chv_history.specs.Built.{is_built}
use Rattle.chv_history.specs.Events.{Plan}
use Rattle.chv_history.specs.Tasks.{Task, Bring, Make, TellParts, TellRows, built_task, has_room, task_of}

-- a fact of each task holds of the one of a statement: of what the statement makes; of blocks that it brings, for which there is
-- room; of a query whose rows it tells; and of a table whose parts it tells
module _ (catalog : Catalog) (entries : ℕ → ℕ) (Holds : Task → Type 0)
    (rows : (select : Select) (query : Asked) → asked catalog select ≡ Ok query → Holds (TellRows query)) (parts : (table : ℕ) (def : TableDef) → Holds (TellParts table def)) where
  abbrev Makes : Accepted → Type 0
  Makes accepted = Defines catalog accepted.statement accepted.definition → Holds (Make accepted)

  abbrev Brings : Insert → Type 0
  Brings brought = (plan : Plan) → planned catalog brought ≡ Ok plan → has_room plan entries ≡ true → Holds (Bring plan)

  abbrev MakesOf : Statement → Type 0
  MakesOf s = (accepted : Accepted) → s ≡ accepted.statement → Makes accepted

  abbrev BringsOf : Statement → Type 0
  BringsOf s = (brought : Insert) → s ≡ statement.Insert brought → Brings brought

  table_by : (made : CreateTable) (def : Result TableDef Refusal) → defined catalog made ≡ def → MakesOf (statement.CreateTable made)
      → IfOk (and_then def (λ d. Ok (Make (record { statement = statement.CreateTable made; definition = Table d })))) Holds
  table_by made (Ok def) defines make = make (record { statement = statement.CreateTable made; definition = Table def }) refl defines
  table_by made (Err refuses) defines make = tt

  view_by : (made : CreateView) (def : Result ViewDef Refusal) → defined_view catalog made ≡ def → MakesOf (statement.CreateView made)
      → IfOk (and_then def (λ d. Ok (Make (record { statement = statement.CreateView made; definition = View d })))) Holds
  view_by made (Ok def) defines make = make (record { statement = statement.CreateView made; definition = View def }) refl defines
  view_by made (Err refuses) defines make = tt

  room_by : (room : Bool) (brought : Insert) (plan : Plan) → has_room plan entries ≡ room → planned catalog brought ≡ Ok plan → Brings brought → IfOk (refuse_if (not room) LimitPassed (Ok (Bring plan))) Holds
  room_by true brought plan room brings bring = bring plan brings room
  room_by false brought plan room brings bring = tt

  brought_by : (brought : Insert) (plan : Result Plan Refusal) → planned catalog brought ≡ plan → Brings brought → IfOk (and_then plan (λ p. refuse_if (not (has_room p entries)) LimitPassed (Ok (Bring p)))) Holds
  brought_by brought (Ok plan) brings bring = room_by (has_room plan entries) brought plan refl brings bring
  brought_by brought (Err refuses) brings bring = tt

  rows_by : (select : Select) (query : Result Asked Refusal) → asked_select catalog select ≡ query → IfOk (and_then query (λ q. Ok (TellRows q))) Holds
  rows_by select (Ok query) asks = rows select query (asked_select-asked catalog select query asks)
  rows_by select (Err refuses) asks = tt

  parts_by : (found : Result (ℕ × TableDef) Refusal) → IfOk (and_then found (λ f. Ok (TellParts f.0 f.1))) Holds
  parts_by (Ok found) = parts found.0 found.1
  parts_by (Err refuses) = tt

  built_by : (s : Statement) → MakesOf s → BringsOf s → IfOk (built_task catalog entries s) Holds
  built_by (statement.CreateTable made) make bring = table_by made (defined catalog made) refl make
  built_by (statement.CreateView made) make bring = view_by made (defined_view catalog made) refl make
  built_by (statement.Insert brought) make bring = brought_by brought (planned catalog brought) refl (bring brought refl)
  built_by (statement.Query select) make bring = rows_by select (asked_select catalog select) refl
  built_by (statement.ShowParts parts) make bring = parts_by (table_of catalog parts.table)
  built_by (statement.Optimize parts) make bring = tt
  built_by statement.FlushQueue make bring = tt

  checked_by : (b : Bool) (s : Statement) → MakesOf s → BringsOf s → IfOk (refuse_if (not b) NotBuilt (built_task catalog entries s)) Holds
  checked_by true s make bring = built_by s make bring
  checked_by false s make bring = tt

  pub task_holds : (s : Option Statement)
      → ((accepted : Accepted) → s ≡ Some accepted.statement → Makes accepted) → ((brought : Insert) → s ≡ Some (statement.Insert brought) → Brings brought)
      → IfOk (task_of catalog entries s) Holds
  task_holds None make bring = tt
  task_holds (Some s) make bring = checked_by (is_built s) s (λ accepted is. make accepted (ap Some is)) (λ brought is. bring brought (ap Some is))
