-- What a statement asks for: whether it brings anything, and what does not depend on the numbers of entries.
use Rattle.std.proofs.Common.{◌≡◌, ℕ, Bool, true, false, not, List, [], Option, None, Some, Result, Ok, Err, refl}
use Rattle.chv_ast.specs.declared.refusal.Refusal.{Refusal}
use Rattle.chv_ast.specs.declared.refusal.Refusal.TheVariants.{LimitPassed, NotBuilt}
use Rattle.chv_ast.specs.declared.statement.Insert.{Insert}
use Rattle.chv_ast.specs.declared.statement.Statement.{Statement}
use Rattle.chv_ast.specs.declared.statement.Statement.TheVariants as statement
use Rattle.chv_catalog.proofs.StepLemmas.{and_then-Ok, refuse_if-Ok}
use Rattle.chv_catalog.specs.Schemas.{Catalog}
use Rattle.chv_query.specs.Definitions.{defined}
use Rattle.chv_query.specs.Plans.{planned}
use Rattle.chv_query.specs.Queries.{Asked, asked_select}
use Rattle.chv_query.specs.Tables.{table_of}
use Rattle.chv_query.specs.Views.{defined_view}
use Rattle.chv_types.specs.Steps.{and_then, refuse_if}
use Rattle.chv_history.specs.Built.{is_built}
use Rattle.chv_history.specs.Histories.{History}
use Rattle.chv_history.specs.Kept.{Kept, kept_task}
use Rattle.chv_history.specs.KeptTurns.{kept_taken}
use Rattle.chv_history.specs.Machine.{Client as Work, behind_answer, taken_events}
use Rattle.chv_history.specs.Runs.{answer_events}
use Rattle.chv_history.specs.Tasks.{Task, Bring, Make, TellParts, TellRows, built_task, has_room, task_of}
use Rattle.chv_history.proofs.TurnLemmas.{BringsNothing}
use Rattle.chv_flight.specs.Takes.{plan_in}

-- no INSERT
abbrev pub IsNoInsert : Option Statement → Type 0
IsNoInsert asks = (brought : Insert) → asks ≡ Some (statement.Insert brought) → ⊥

-- an INSERT asks for no rows
insert_tells_none : (catalog : Catalog) (entries : ℕ → ℕ) (brought : Insert) (query : Asked) → task_of catalog entries (Some (statement.Insert brought)) ≡ Ok (TellRows query) → ⊥
insert_tells_none catalog entries brought query is =
    let built = refuse_if-Ok (not (is_built (statement.Insert brought))) NotBuilt (built_task catalog entries (statement.Insert brought)) (TellRows query) is in
    let plan = and_then-Ok (planned catalog brought) (λ plan. refuse_if (not (has_room plan entries)) LimitPassed (Ok (Bring plan))) (TellRows query) built.1 in
    let room = refuse_if-Ok (not (has_room plan.0 entries)) LimitPassed (Ok (Bring plan.0)) (TellRows query) plan.2 in
    absurd (cc room.1)

-- of a query the numbers of entries play no part
pub tells_same : (catalog : Catalog) (one two : ℕ → ℕ) (asks : Option Statement) (query : Asked) → task_of catalog one asks ≡ Ok (TellRows query) → task_of catalog two asks ≡ Ok (TellRows query)
tells_same catalog one two None query is = is
tells_same catalog one two (Some (statement.CreateTable made)) query is = is
tells_same catalog one two (Some (statement.CreateView made)) query is = is
tells_same catalog one two (Some (statement.Insert brought)) query is = absurd (insert_tells_none catalog one brought query is)
tells_same catalog one two (Some (statement.Query select)) query is = is
tells_same catalog one two (Some (statement.ShowParts parts)) query is = is
tells_same catalog one two (Some (statement.Optimize all)) query is = is
tells_same catalog one two (Some statement.FlushQueue) query is = is

-- nor do they of any statement but an INSERT
pub plain_same : (catalog : Catalog) (one two : ℕ → ℕ) (asks : Option Statement) → IsNoInsert asks → task_of catalog one asks ≡ task_of catalog two asks
plain_same catalog one two None none = refl
plain_same catalog one two (Some (statement.CreateTable made)) none = refl
plain_same catalog one two (Some (statement.CreateView made)) none = refl
plain_same catalog one two (Some (statement.Insert brought)) none = absurd (none brought refl)
plain_same catalog one two (Some (statement.Query select)) none = refl
plain_same catalog one two (Some (statement.ShowParts parts)) none = refl
plain_same catalog one two (Some (statement.Optimize all)) none = refl
plain_same catalog one two (Some statement.FlushQueue) none = refl

nothing_if : (bad : Bool) (refusal : Refusal) (task : Result Task Refusal) → BringsNothing task → BringsNothing (refuse_if bad refusal task)
nothing_if true refusal task nothing = tt
nothing_if false refusal task nothing = nothing

nothing_then : {A : Type 0} (r : Result A Refusal) (rest : A → Result Task Refusal) → ((a : A) → BringsNothing (rest a)) → BringsNothing (and_then r rest)
nothing_then (Ok a) rest nothing = nothing a
nothing_then (Err refusal) rest nothing = tt

nothing_built : (catalog : Catalog) (entries : ℕ → ℕ) (asks : Statement) → IsNoInsert (Some asks) → BringsNothing (built_task catalog entries asks)
nothing_built catalog entries (statement.CreateTable made) none = nothing_then (defined catalog made) _ (λ def. tt)
nothing_built catalog entries (statement.CreateView made) none = nothing_then (defined_view catalog made) _ (λ def. tt)
nothing_built catalog entries (statement.Insert brought) none = absurd (none brought refl)
nothing_built catalog entries (statement.Query select) none = nothing_then (asked_select catalog select) (λ query. Ok (TellRows query)) (λ query. tt)
nothing_built catalog entries (statement.ShowParts parts) none = nothing_then (table_of catalog parts.table) (λ found. Ok (TellParts found.0 found.1)) (λ found. tt)
nothing_built catalog entries (statement.Optimize all) none = tt
nothing_built catalog entries statement.FlushQueue none = tt

-- each statement but an INSERT brings nothing
pub plain_nothing : (catalog : Catalog) (entries : ℕ → ℕ) (asks : Option Statement) → IsNoInsert asks → BringsNothing (task_of catalog entries asks)
plain_nothing catalog entries None none = tt
plain_nothing catalog entries (Some asks) none = nothing_if (not (is_built asks)) NotBuilt (built_task catalog entries asks) (nothing_built catalog entries asks none)

-- an answer that brings nothing
pub events_alone : (client : ℕ) (task : Result Task Refusal) (history : History) → BringsNothing task → taken_events client task history ≡ answer_events client task history
events_alone client (Ok (Make accepted)) history nothing = refl
events_alone client (Ok (Bring plan)) history nothing = absurd nothing
events_alone client (Ok (TellRows query)) history nothing = refl
events_alone client (Ok (TellParts table def)) history nothing = refl
events_alone client (Err refuses) history nothing = refl

pub kept_alone : (task : Result Task Refusal) (kept : Kept) → BringsNothing task → kept_taken task kept ≡ kept_task task kept
kept_alone (Ok (Make accepted)) kept nothing = refl
kept_alone (Ok (Bring plan)) kept nothing = absurd nothing
kept_alone (Ok (TellRows query)) kept nothing = refl
kept_alone (Ok (TellParts table def)) kept nothing = refl
kept_alone (Err refuses) kept nothing = refl

pub plan_alone : (task : Result Task Refusal) → BringsNothing task → plan_in task ≡ []
plan_alone (Ok (Make accepted)) nothing = refl
plan_alone (Ok (Bring plan)) nothing = absurd nothing
plan_alone (Ok (TellRows query)) nothing = refl
plan_alone (Ok (TellParts table def)) nothing = refl
plan_alone (Err refuses) nothing = refl

-- what a client has to do behind an answer: what it asks for, and the deliveries that are planned
pub record Behind (asks : List (Option Statement)) (task : Result Task Refusal) : Type 0 where
  pub asks_are : (behind_answer asks task).asks ≡ asks
  pub plan_is : (behind_answer asks task).plan ≡ plan_in task
  pub left_are : (behind_answer asks task).left ≡ plan_in task
  pub none_written : (behind_answer asks task).written ≡ 0

pub behind_is : (asks : List (Option Statement)) (task : Result Task Refusal) → Behind asks task
behind_is asks (Ok (Make accepted)) = record { asks_are = refl; plan_is = refl; left_are = refl; none_written = refl }
behind_is asks (Ok (Bring plan)) = record { asks_are = refl; plan_is = refl; left_are = refl; none_written = refl }
behind_is asks (Ok (TellRows query)) = record { asks_are = refl; plan_is = refl; left_are = refl; none_written = refl }
behind_is asks (Ok (TellParts table def)) = record { asks_are = refl; plan_is = refl; left_are = refl; none_written = refl }
behind_is asks (Err refuses) = record { asks_are = refl; plan_is = refl; left_are = refl; none_written = refl }
