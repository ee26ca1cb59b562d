-- What a statement has a store do, or the first check that refuses it.
use Rattle.std.specs.Prelude.{ℕ, ◌+◌, Bool, not, length, Option, None, Some, Result, Ok, Err, nat_eq, nat_lt}
use Rattle.std.specs.List.{filter, list_all}
use Rattle.chv_ast.specs.declared.refusal.Refusal.{Refusal}
use Rattle.chv_ast.specs.declared.refusal.Refusal.TheVariants.{Syntax, LimitPassed, NotBuilt}
use Rattle.chv_ast.specs.declared.statement.Statement.{Statement}
use Rattle.chv_ast.specs.declared.statement.Statement.TheVariants as statement
use Rattle.chv_catalog.specs.Schemas.{Catalog}
use Rattle.chv_catalog.specs.declared.table_def.TableDef.{TableDef}
use Rattle.chv_commit.specs.Replays.{MAX_ENTRIES}
use Rattle.chv_catalog.specs.declared.definition.Definition.TheVariants.{Table, View}
use Rattle.chv_query.specs.Accepted.{Accepted}
use Rattle.chv_query.specs.Definitions.{defined}
use Rattle.chv_query.specs.Tables.{table_of}
use Rattle.chv_query.specs.Plans.{Delivery, planned}
use Rattle.chv_query.specs.Queries.{Asked, asked_select}
use Rattle.chv_query.specs.Views.{defined_view}
use Rattle.chv_types.specs.Steps.{and_then, refuse_if}
use Rattle.chv_history.specs.Built.{is_built}
use Rattle.chv_history.specs.Events.{Plan}

-- what a store does: it makes a table or a view; it brings blocks; it tells the rows of a query, or the parts of the table of
-- this number and this definition
pub data Task : Type 0 where
  Make : Accepted → Task
  Bring : Plan → Task
  TellRows : Asked → Task
  TellParts : ℕ → TableDef → Task

-- how many deliveries go to a table
abbrev pub deliveries_to : ℕ → Plan → ℕ
deliveries_to table plan = length (filter (λ (delivery : Delivery). nat_eq delivery.table table) plan)

-- each table, which has so many entries, has room for its deliveries
abbrev pub has_room : Plan → (ℕ → ℕ) → Bool
has_room plan entries =
    list_all (λ (delivery : Delivery). not (nat_lt MAX_ENTRIES (entries delivery.table + deliveries_to delivery.table plan))) plan

-- the task of a statement that is built, beside what is defined, of which each table has so many entries
abbrev pub built_task : Catalog → (ℕ → ℕ) → Statement → Result Task Refusal
built_task catalog entries (statement.CreateTable made) =
    and_then (defined catalog made) (λ def. Ok (Make (record { statement = statement.CreateTable made; definition = Table def })))
built_task catalog entries (statement.CreateView made) =
    and_then (defined_view catalog made) (λ def. Ok (Make (record { statement = statement.CreateView made; definition = View def })))
built_task catalog entries (statement.Insert brought) =
    and_then (planned catalog brought) (λ plan. refuse_if (not (has_room plan entries)) LimitPassed (Ok (Bring plan)))
built_task catalog entries (statement.Query select) = and_then (asked_select catalog select) (λ query. Ok (TellRows query))
built_task catalog entries (statement.ShowParts asked) = and_then (table_of catalog asked.table) (λ found. Ok (TellParts found.0 found.1))
built_task catalog entries other = Err NotBuilt

-- the task of a statement
abbrev pub statement_task : Catalog → (ℕ → ℕ) → Statement → Result Task Refusal
statement_task catalog entries asked = refuse_if (not (is_built asked)) NotBuilt (built_task catalog entries asked)

-- the task of a statement, and of a text that is none
abbrev pub task_of : Catalog → (ℕ → ℕ) → Option Statement → Result Task Refusal
task_of catalog entries None = Err Syntax
task_of catalog entries (Some asked) = statement_task catalog entries asked
