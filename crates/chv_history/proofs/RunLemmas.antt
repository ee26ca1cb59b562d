-- A history stays lawful in a run.
use Rattle.std.proofs.Common.{◌≡◌, ◌≢◌, inl, inr, ℕ, suc, ◌+◌, ◌≤◌, Bool, true, false, not, cond, nat_eq, nat_lt, List, [], ◌∷◌, ◌++◌, length, map, Result, Ok, Err, IfOk, All, refl, sym, ap, subst, arith}
use Rattle.std.specs.List.{filter, list_all}
use Rattle.std.proofs.lemmas.Bool.{and_parts, cases_eq, eq-eqb, ltb-false, ne_eqb, not-true}
use Rattle.std.proofs.lemmas.List.Elements.{All-cons, All-head, All-nil, All-tail, All-weaker}
use Rattle.chv_ast.specs.declared.refusal.Refusal.{Refusal}
use Rattle.chv_ast.specs.declared.statement.Insert.{Insert}
use Rattle.chv_commit.specs.Replays.{MAX_ENTRIES}
use Rattle.chv_query.specs.Accepted.{Accepted, IsAccepted, catalog_of}
use Rattle.chv_query.specs.Plans.{Delivery, planned}
use Rattle.chv_query.proofs.ArrivalLemmas.{ArrivesIn, planned-arrives}
use Rattle.chv_history.specs.Events.{Event, Plan, Moment, behind, happen}
use Rattle.chv_history.specs.Histories.{History, IsLawful}
use Rattle.chv_history.specs.Runs.{answer_events, delivered, delivery_event, entries_in, request_events, run_events, task_events}
use Rattle.chv_history.specs.Script.{Request, AreFormed, IsFormed}
use Rattle.chv_history.specs.Tasks.{Task, Bring, Make, TellParts, TellRows, deliveries_to, has_room, task_of}
use Rattle.chv_history.proofs.CommitLemmas.{arrivals-other, is_skipped, schema-with_commit, written_in-new, written_in-skipped}
use Rattle.chv_history.proofs.EntryLemmas.{entries_in-commit}
use Rattle.chv_history.proofs.LawfulLemmas.{MayArrive, lawful_accepted, lawful_arrived}
use Rattle.chv_history.proofs.TaskLemmas.{task_holds}
use Rattle.chv_history.proofs.WhileLemmas.{While, while_behind, while_last, while_run, while-append}

abbrev pub Lawful : List Event → Moment → Type 0
Lawful done m = IsLawful m.history

-- a delivery's table has room for those of a plan that go there
pub record Fits (plan : Plan) (history : History) (d : Delivery) : Type 0 where
  pub room : entries_in history d.table + deliveries_to d.table plan ≤ MAX_ENTRIES

-- one delivery more is counted where it goes to the table
pub deliveries_here : (table : ℕ) (d : Delivery) (plan : Plan) → d.table ≡ table → deliveries_to table (d ∷ plan) ≡ suc (deliveries_to table plan)
deliveries_here table d plan same =
    let kept = filter (λ (other : Delivery). nat_eq other.table table) plan in
    ap (λ (b : Bool). length (cond b (d ∷ kept) kept)) (eq-eqb d.table table same)

pub deliveries_other : (table : ℕ) (d : Delivery) (plan : Plan) → d.table ≢ table → deliveries_to table (d ∷ plan) ≡ deliveries_to table plan
deliveries_other table d plan other =
    let kept = filter (λ (e : Delivery). nat_eq e.table table) plan in
    ap (λ (b : Bool). length (cond b (d ∷ kept) kept)) (ne_eqb d.table table other)

-- a delivery adds one entry at most
pub one_more : (d : Delivery) (history : History) → entries_in (delivered d history) d.table ≤ entries_in history d.table + 1
one_more d history =
    let more = entries_in-commit d.table (d.entry ∷ []) history in
    elim (is_skipped d.table d.entry history) as (λ (b : Bool). is_skipped d.table d.entry history ≡ b → entries_in (delivered d history) d.table ≤ entries_in history d.table + 1) [
      | true ↦ λ skipped. omega (arith, more, ap length (written_in-skipped d.table d.entry history skipped))
      | false ↦ λ new. omega (arith, more, ap length (written_in-new d.table d.entry history new))
    ] refl

-- so the others still have room behind it
fits_behind : (d : Delivery) (plan : Plan) (history : History) (e : Delivery) → Fits (d ∷ plan) history e → Fits plan (delivered d history) e
fits_behind d plan history e fits = elim (cases_eq d.table e.table) as (λ _. Fits plan (delivered d history) e) [
  | inl same ↦
      let more : entries_in (delivered d history) e.table ≤ entries_in history e.table + 1 = subst (λ (n : ℕ). entries_in (delivered d history) n ≤ entries_in history n + 1) same (one_more d history) in
      record { room = omega (arith, more, fits.room, deliveries_here e.table d plan same) }
  | inr other ↦
      let still : entries_in (delivered d history) e.table ≡ entries_in history e.table = ap length (arrivals-other d.table e.table (d.entry ∷ []) history (λ same. other (sym same))) in
      record { room = omega (arith, still, fits.room, deliveries_other e.table d plan other) }
]

-- a plan whose deliveries arrive in tables that have room
pub record MayBring (history : History) (plan : Plan) : Type 0 where
  pub arrive : All (ArrivesIn (catalog_of history.schema)) plan
  pub fit : All (Fits plan history) plan

module _ (d : Delivery) (plan : Plan) (history : History) (may : MayBring history (d ∷ plan)) where
  pub may_first : MayArrive history d.table d.entry
  may_first =
      let arrives = All-head (ArrivesIn (catalog_of history.schema)) d plan may.arrive in
      let fits = All-head (Fits (d ∷ plan) history) d plan may.fit in
      record {
        numbered = arrives.numbered;
        def = arrives.def;
        stands = arrives.stands;
        is = arrives.arrives;
        room = omega (arith, fits.room, deliveries_here d.table d plan refl);
      }

  pub may_rest : MayBring (delivered d history) plan
  may_rest = record {
    arrive = subst (λ (s : List Accepted). All (ArrivesIn (catalog_of s)) plan) (sym (schema-with_commit d.table (d.entry ∷ []) history)) (All-tail (ArrivesIn (catalog_of history.schema)) d plan may.arrive);
    fit = All-weaker (Fits (d ∷ plan) history) (Fits plan (delivered d history)) (fits_behind d plan history) plan (All-tail (Fits (d ∷ plan) history) d plan may.fit);
  }

-- deliveries are made one after the other
pub lawful_deliveries : (plan : Plan) (done : List Event) (m : Moment) → IsLawful m.history → MayBring m.history plan → While Lawful done (map delivery_event plan) m
lawful_deliveries [] done m lawful may = lawful
lawful_deliveries (d ∷ plan) done m lawful may = (
  lawful,
  lawful_deliveries plan (done ++ delivery_event d ∷ []) (happen (delivery_event d) m) (lawful_arrived m.history d.table d.entry lawful (may_first d plan m.history may)) (may_rest d plan m.history may),
)

-- there is room for each delivery of a plan that has room
all_true : (p : Delivery → Bool) (plan : Plan) → list_all p plan ≡ true → All (λ (d : Delivery). p d ≡ true) plan
all_true p [] all = All-nil (λ (d : Delivery). p d ≡ true)
all_true p (d ∷ plan) all =
    let both : (p d ≡ true) × (list_all p plan ≡ true) = and_parts (p d) (list_all p plan) all in
    All-cons (λ (e : Delivery). p e ≡ true) d plan both.0 (all_true p plan both.1)

pub all_fit : (plan : Plan) (history : History) → has_room plan (entries_in history) ≡ true → All (Fits plan history) plan
all_fit plan history room =
    let fits : Delivery → Bool = λ (d : Delivery). not (nat_lt MAX_ENTRIES (entries_in history d.table + deliveries_to d.table plan)) in
    All-weaker (λ (d : Delivery). fits d ≡ true) (Fits plan history)
    (λ d is. record { room = ltb-false MAX_ENTRIES (entries_in history d.table + deliveries_to d.table plan) (not-true (nat_lt MAX_ENTRIES (entries_in history d.table + deliveries_to d.table plan)) is) })
    plan (all_true fits plan room)

-- a plan is one that the history's tables may have
pub may_bring : (asked : Insert) (plan : Plan) (history : History) → IsLawful history → planned (catalog_of history.schema) asked ≡ Ok plan → has_room plan (entries_in history) ≡ true → MayBring history plan
may_bring asked plan history lawful brings room =
    record { arrive = planned-arrives history.schema lawful.schema asked plan brings; fit = all_fit plan history room }

-- a task that keeps a history lawful
abbrev pub TaskSound : History → Task → Type 0
TaskSound history (Make accepted) = IsAccepted (catalog_of history.schema) accepted
TaskSound history (Bring plan) = MayBring history plan
TaskSound history (TellRows query) = Unit {0}
TaskSound history (TellParts table def) = Unit {0}

pub sound_task : (request : Request) (history : History) → IsLawful history → IsFormed request → IfOk (task_of (catalog_of history.schema) (entries_in history) request.statement) (TaskSound history)
sound_task request history lawful formed =
    task_holds (catalog_of history.schema) (entries_in history) (TaskSound history) (λ select query asks. tt) (λ table def. tt) request.statement
    (λ accepted is defines. record { formed = formed accepted.statement is; defines = defines })
    (λ brought is plan brings room. may_bring brought plan history lawful brings room)

lawful_task : (client : ℕ) (task : Task) (done : List Event) (m : Moment) → TaskSound m.history task → IsLawful m.history → While Lawful done (task_events client task m.history) m
lawful_task client (Make accepted) done m sound lawful =
    let made = lawful_accepted accepted m.history lawful sound in
    (lawful, (made, made))
lawful_task client (Bring plan) done m sound lawful =
    let events = map delivery_event plan in
    let made = lawful_deliveries plan done m lawful sound in
    let last : IsLawful (behind events m).history = while_last Lawful events done m made in
    while-append Lawful events _ done m made (last, last)
lawful_task client (TellRows query) done m sound lawful = (lawful, lawful)
lawful_task client (TellParts table def) done m sound lawful = (lawful, lawful)

pub lawful_answer : (client : ℕ) (task : Result Task Refusal) (done : List Event) (m : Moment) → IfOk task (TaskSound m.history) → IsLawful m.history → While Lawful done (answer_events client task m.history) m
lawful_answer client (Ok task) done m sound lawful = lawful_task client task done m sound lawful
lawful_answer client (Err refuses) done m sound lawful = (lawful, lawful)

pub lawful_request : (request : Request) (done : List Event) (m : Moment) → IsFormed request → IsLawful m.history → While Lawful done (request_events request m.history) m
lawful_request request done m formed lawful =
    lawful_answer request.client (task_of (catalog_of m.history.schema) (entries_in m.history) request.statement) done m (sound_task request m.history lawful formed) lawful

-- a history stays lawful as requests are answered
pub lawful_behind : (requests : List Request) (m : Moment) (done left : List Event) → IsLawful m.history → AreFormed requests → run_events requests m ≡ done ++ left → IsLawful (behind done m).history
lawful_behind requests m done left lawful formed split =
    while_behind Lawful requests m done left (while_run Lawful IsFormed (λ request before n asks holds. lawful_request request before n asks holds) requests [] m formed lawful) split
