-- The views of a history fill tables that stand, as it goes on.
use Rattle.std.proofs.Common.{◌≡◌, ℕ, Option, Result, Ok, Err, IfOk, List, [], ◌∷◌, ◌++◌, map, refl, sym, subst}
use Rattle.chv_ast.specs.declared.refusal.Refusal.{Refusal}
use Rattle.chv_ast.specs.declared.statement.Statement.{Statement}
use Rattle.chv_catalog.specs.Schemas.{Catalog}
use Rattle.chv_query.specs.Accepted.{Accepted, Defines, catalog_of}
use Rattle.chv_query.proofs.AcceptedLemmas.{catalog_of-push}
use Rattle.chv_history.specs.Events.{Event, Plan, Moment, behind, happen}
use Rattle.chv_history.specs.Histories.{History, with_accepted}
use Rattle.chv_history.specs.Kept.{Kept, entries_kept, kept_answer, kept_delivery, kept_plan, kept_task}
use Rattle.chv_history.specs.Runs.{answer_events, delivery_event, entries_in, request_events, task_events}
use Rattle.chv_history.specs.Script.{Request}
use Rattle.chv_history.specs.Tasks.{Task, Bring, Make, TellParts, TellRows, task_of}
use Rattle.chv_history.proofs.CommitLemmas.{schema-with_commit}
use Rattle.chv_history.proofs.LookupLemmas.{AreFilling, filling-more}
use Rattle.chv_history.proofs.TaskLemmas.{task_holds}
use Rattle.chv_history.proofs.WhileLemmas.{While, while_last, while-append}

-- the views of a moment's history do
abbrev pub Filling : List Event → Moment → Type 0
Filling done m = AreFilling (catalog_of m.history.schema)

-- a statement is accepted
filling_accepted : (accepted : Accepted) (history : History) → Defines (catalog_of history.schema) accepted.statement accepted.definition → AreFilling (catalog_of history.schema)
    → AreFilling (catalog_of (with_accepted accepted history).schema)
filling_accepted accepted history defines filling =
    subst AreFilling (sym (catalog_of-push history.schema accepted)) (filling-more accepted.definition (catalog_of history.schema) accepted.statement defines filling)

-- deliveries are made one after the other
filling_deliveries : (plan : Plan) (done : List Event) (m : Moment) → Filling done m → While Filling done (map delivery_event plan) m
filling_deliveries [] done m filling = filling
filling_deliveries (d ∷ plan) done m filling = (
  filling,
  filling_deliveries plan (done ++ delivery_event d ∷ []) (happen (delivery_event d) m)
      (subst (λ (s : List Accepted). AreFilling (catalog_of s)) (sym (schema-with_commit d.table (d.entry ∷ []) m.history)) filling),
)

-- what a task makes is defined
abbrev TaskDefines : Catalog → Task → Type 0
TaskDefines catalog (Make accepted) = Defines catalog accepted.statement accepted.definition
TaskDefines catalog (Bring plan) = Unit {0}
TaskDefines catalog (TellRows query) = Unit {0}
TaskDefines catalog (TellParts table def) = Unit {0}

task_defines : (catalog : Catalog) (entries : ℕ → ℕ) (asked : Option Statement) → IfOk (task_of catalog entries asked) (TaskDefines catalog)
task_defines catalog entries asked = task_holds catalog entries (TaskDefines catalog) (λ select query asks. tt) (λ table def. tt) asked (λ accepted is defines. defines) (λ brought is plan brings room. tt)

-- so it is of what is held, whatever the files hold
filling_plan : (plan : Plan) (kept : Kept) → (kept_plan plan kept).catalog ≡ kept.catalog
filling_plan [] kept = refl
filling_plan (d ∷ plan) kept = filling_plan plan (kept_delivery d kept)

filling_held : (task : Result Task Refusal) (kept : Kept) → IfOk task (TaskDefines kept.catalog) → AreFilling kept.catalog → AreFilling (kept_task task kept).catalog
filling_held (Ok (Make accepted)) kept defines filling = filling-more accepted.definition kept.catalog accepted.statement defines filling
filling_held (Ok (Bring plan)) kept defines filling = subst AreFilling (sym (filling_plan plan kept)) filling
filling_held (Ok (TellRows query)) kept defines filling = filling
filling_held (Ok (TellParts table def)) kept defines filling = filling
filling_held (Err refuses) kept defines filling = filling

pub filling_kept : (request : Request) (kept : Kept) → AreFilling kept.catalog → AreFilling (kept_task (kept_answer request kept) kept).catalog
filling_kept request kept filling = filling_held (kept_answer request kept) kept (task_defines kept.catalog (entries_kept kept) request.statement) filling

-- and while a task is done
filling_task : (client : ℕ) (task : Task) (done : List Event) (m : Moment) → TaskDefines (catalog_of m.history.schema) task → Filling done m → While Filling done (task_events client task m.history) m
filling_task client (Make accepted) done m defines filling =
    let made = filling_accepted accepted m.history defines filling in
    (filling, (made, made))
filling_task client (Bring plan) done m defines filling =
    let events = map delivery_event plan in
    let made = filling_deliveries plan done m filling in
    let last : AreFilling (catalog_of (behind events m).history.schema) = while_last Filling events done m made in
    while-append Filling events _ done m made (last, last)
filling_task client (TellRows query) done m defines filling = (filling, filling)
filling_task client (TellParts table def) done m defines filling = (filling, filling)

filling_answer : (client : ℕ) (task : Result Task Refusal) (done : List Event) (m : Moment) → IfOk task (TaskDefines (catalog_of m.history.schema)) → Filling done m → While Filling done (answer_events client task m.history) m
filling_answer client (Ok task) done m defines filling = filling_task client task done m defines filling
filling_answer client (Err refuses) done m defines filling = (filling, filling)

-- so it is while a request is answered
pub filling_request : (request : Request) (done : List Event) (m : Moment) → Filling done m → While Filling done (request_events request m.history) m
filling_request request done m filling =
    filling_answer request.client (task_of (catalog_of m.history.schema) (entries_in m.history) request.statement) done m (task_defines (catalog_of m.history.schema) (entries_in m.history) request.statement) filling
