-- A history stays lawful in turns, since there is room for the deliveries that all clients have left.
use Rattle.std.proofs.Common.{◌≡◌, inl, inr, ℕ, ◌+◌, ◌≤◌, Bool, true, not, nat_lt, List, [], ◌∷◌, ◌++◌, length, Option, Some, Result, Ok, Err, IfOk, All, slice_get, refl, sym, ap, subst, arith}
use Rattle.std.specs.List.{list_all}
use Rattle.std.proofs.lemmas.Bool.{and_parts, cases_eq, ltb-false, not-true}
use Rattle.chv_ast.specs.declared.refusal.Refusal.{Refusal}
use Rattle.chv_ast.specs.declared.statement.Statement.{Statement}
use Rattle.chv_catalog.specs.declared.definition.Definition.{Definition}
use Rattle.chv_catalog.specs.declared.definition.Definition.TheVariants.{Table, View}
use Rattle.chv_commit.specs.Replays.{MAX_ENTRIES}
use Rattle.chv_query.specs.Accepted.{catalog_of, tables_of}
use Rattle.chv_query.specs.Arrivals.{Arrival}
use Rattle.chv_query.specs.Plans.{Delivery}
use Rattle.chv_query.proofs.ArrivalLemmas.{ArrivesIn}
use Rattle.chv_history.specs.Acknowledged.{AreApart, IsWhole, SameTokenSameBlock}
use Rattle.chv_history.specs.Events.{Event, Plan, Moment, begins, behind, happen}
use Rattle.chv_history.specs.Histories.{History, IsLawful, with_accepted, with_none}
use Rattle.chv_history.specs.Machine.{Turn, Client, Control, act_control, act_events, answer_in, asking, deliveries_left, end_events, with_planned, written_by}
use Rattle.chv_history.specs.Runs.{answer_events, delivered, delivery_event, entries_in}
use Rattle.chv_history.specs.Tasks.{Task, Bring, Make, TellParts, TellRows, deliveries_to, has_room, task_of}
use Rattle.chv_history.proofs.ArrivingLemmas.{put_at-other, put_at-same}
use Rattle.chv_history.proofs.CommitLemmas.{arrivals-other}
use Rattle.chv_history.proofs.LawfulLemmas.{MayArrive, lawful_arrived}
use Rattle.chv_history.proofs.MadeLemmas.{AreGoing, AreMade, TaskAllowed, allowed_ask, at_client, made_arriving, made_brought, made_held, made_kept}
use Rattle.chv_history.proofs.RunLemmas.{Lawful, TaskSound, deliveries_here, deliveries_other, lawful_answer, one_more}
use Rattle.chv_history.proofs.TaskLemmas.{task_holds}
use Rattle.chv_history.proofs.TurnLemmas.{BringsNothing, behind_made, bringing, deliveries_left-set, turn_cases, with_client}
use Rattle.chv_history.proofs.TurnWhileLemmas.{AreKept, Through, kept_under, through-none}
use Rattle.chv_history.proofs.UnderWayLemmas.{under_way-first}
use Rattle.chv_history.proofs.WhileLemmas.{While}
use Rattle.chv_history.proofs.WholeLemmas.{whole_behind}

-- each table to which deliveries are left has room for all of them
abbrev pub HasRoom : History → Control → Type 0
HasRoom history control = (table : ℕ) → 1 ≤ deliveries_to table (deliveries_left control) → with_planned (entries_in history) control table ≤ MAX_ENTRIES

abbrev pub Roomy : List Event → Moment → Control → Type 0
Roomy done m control = HasRoom m.history control

-- where no more is left, and no more has arrived, there is room still
room_less : (old new : History) (before after : Control) → ((table : ℕ) → deliveries_to table (deliveries_left after) ≡ deliveries_to table (deliveries_left before)) → ((table : ℕ) → entries_in new table ≤ entries_in old table)
    → HasRoom old before → HasRoom new after
room_less old new before after same less room table some =
    let is = same table in
    omega (arith, is, less table, room table (omega (arith, some, is)))

-- a client has none left, and goes on with none
none_left : (control : Control) (client : ℕ) (old new : Client) → slice_get control.clients client ≡ Some old → old.left ≡ [] → new.left ≡ [] → (table : ℕ) → deliveries_to table (deliveries_left (with_client control client new)) ≡ deliveries_to table (deliveries_left control)
none_left control client old new at none_old none_new table =
    omega (arith, deliveries_left-set table control client old new at, ap (deliveries_to table) none_old, ap (deliveries_to table) none_new)

-- a plan has room in its tables
room_for : (all : Plan) (entries : ℕ → ℕ) (table : ℕ) (plan : Plan) → list_all (λ (d : Delivery). not (nat_lt MAX_ENTRIES (entries d.table + deliveries_to d.table all))) plan ≡ true → 1 ≤ deliveries_to table plan
    → entries table + deliveries_to table all ≤ MAX_ENTRIES
room_for all entries table [] fit some = absurd (omega (arith, some))
room_for all entries table (d ∷ plan) fit some =
    let fits : Delivery → Bool = λ (e : Delivery). not (nat_lt MAX_ENTRIES (entries e.table + deliveries_to e.table all)) in
    let both : (fits d ≡ true) × (list_all fits plan ≡ true) = and_parts (fits d) (list_all fits plan) fit in
    elim (cases_eq d.table table) as (λ _. entries table + deliveries_to table all ≤ MAX_ENTRIES) [
      | inl same ↦
          let here = entries d.table + deliveries_to d.table all in
          subst (λ (n : ℕ). entries n + deliveries_to n all ≤ MAX_ENTRIES) same (ltb-false MAX_ENTRIES here (not-true (nat_lt MAX_ENTRIES here) both.0))
      | inr other ↦ room_for all entries table plan both.1 (omega (arith, some, deliveries_other table d plan other))
    ]

-- an insert is planned, for which there is room beside all that is left
pub room_planned : (history : History) (control : Control) (client : ℕ) (work : Client) (asks : List (Option Statement)) (plan : Plan) → slice_get control.clients client ≡ Some work → work.left ≡ []
    → has_room plan (with_planned (entries_in history) control) ≡ true → HasRoom history control → HasRoom history (with_client control client (bringing asks plan))
room_planned history control client work asks plan at none fit room table some =
    let more = deliveries_left-set table control client work (bringing asks plan) at in
    let before = ap (deliveries_to table) none in
    elim (cases_eq (deliveries_to table plan) 0) as (λ _. with_planned (entries_in history) (with_client control client (bringing asks plan)) table ≤ MAX_ENTRIES) [
      | inl nothing ↦ omega (arith, more, before, nothing, room table (omega (arith, some, more, before, nothing)))
      | inr others ↦ omega (arith, more, before, room_for plan (with_planned (entries_in history) control) table plan fit (omega (arith, others)))
    ]

-- a delivery is made
pub room_made : (history : History) (control : Control) (client : ℕ) (work new : Client) (d : Delivery) (left : Plan) → slice_get control.clients client ≡ Some work → work.left ≡ d ∷ left → new.left ≡ left
    → HasRoom history control → HasRoom (delivered d history) (with_client control client new)
room_made history control client work new d left at is new_is room table some =
    let more = deliveries_left-set table control client work new at in
    let before = ap (deliveries_to table) is in
    let after = ap (deliveries_to table) new_is in
    elim (cases_eq d.table table) as (λ _. with_planned (entries_in (delivered d history)) (with_client control client new) table ≤ MAX_ENTRIES) [
      | inl same ↦
          let one : entries_in (delivered d history) table ≤ entries_in history table + 1 = subst (λ (n : ℕ). entries_in (delivered d history) n ≤ entries_in history n + 1) same (one_more d history) in
          let here = deliveries_here table d left same in
          omega (arith, one, more, before, after, here, room table (omega (arith, some, more, before, after, here)))
      | inr other ↦
          let still : entries_in (delivered d history) table ≡ entries_in history table = ap length (arrivals-other d.table table (d.entry ∷ []) history (λ same. other (sym same))) in
          let here = deliveries_other table d left other in
          omega (arith, still, more, before, after, here, room table (omega (arith, some, more, before, after, here)))
    ]

-- a new table has no entries, and every other one has as many as before
entries_defined : (definition : Definition) (number table : ℕ) (each : ℕ → List Arrival) → length (with_none definition number each table) ≤ length (each table)
entries_defined (Table def) number table each = elim (cases_eq table number) as (λ _. length (with_none (Table def) number each table) ≤ length (each table)) [
  | inl same ↦ omega (arith, ap length (ap (with_none (Table def) number each) same), ap length (put_at-same number [] each))
  | inr other ↦ omega (arith, ap length (put_at-other number table [] each other))
]
entries_defined (View def) number table each = omega arith

-- an answer that brings nothing leaves room
room_answered : (client : ℕ) (task : Result Task Refusal) (m : Moment) (control after : Control) → BringsNothing task → ((table : ℕ) → deliveries_to table (deliveries_left after) ≡ deliveries_to table (deliveries_left control))
    → HasRoom m.history control → HasRoom (behind (answer_events client task m.history) m).history after
room_answered client (Ok (Make accepted)) m control after nothing same room =
    room_less m.history (with_accepted accepted m.history) control after same (λ table. entries_defined accepted.definition (length (tables_of m.history.schema) + 1) table m.history.arrivals) room
room_answered client (Ok (Bring plan)) m control after nothing same room = absurd nothing
room_answered client (Ok (TellRows query)) m control after nothing same room = room_less m.history m.history control after same (λ table. omega arith) room
room_answered client (Ok (TellParts table def)) m control after nothing same room = room_less m.history m.history control after same (λ number. omega arith) room
room_answered client (Err refuses) m control after nothing same room = room_less m.history m.history control after same (λ table. omega arith) room

-- what is planned has room
abbrev TaskFits : (ℕ → ℕ) → Task → Type 0
TaskFits entries (Make accepted) = Unit {0}
TaskFits entries (Bring plan) = has_room plan entries ≡ true
TaskFits entries (TellRows query) = Unit {0}
TaskFits entries (TellParts table def) = Unit {0}

pub fits_task : (asked : Option Statement) (entries : ℕ → ℕ) (history : History) → IfOk (task_of (catalog_of history.schema) entries asked) (TaskFits entries)
fits_task asked entries history =
    task_holds (catalog_of history.schema) entries (TaskFits entries) (λ select query asks. tt) (λ table def. tt) asked (λ accepted is defines. tt) (λ brought is plan brings room. room)

-- a task that brings nothing keeps a history lawful
sound_by : (task : Result Task Refusal) (history : History) → IfOk task (TaskAllowed history) → BringsNothing task → IfOk task (TaskSound history)
sound_by (Ok (Make accepted)) history allowed nothing = allowed
sound_by (Ok (Bring plan)) history allowed nothing = absurd nothing
sound_by (Ok (TellRows query)) history allowed nothing = tt
sound_by (Ok (TellParts table def)) history allowed nothing = tt
sound_by (Err refuses) history allowed nothing = tt

-- behind a delivery
lawful_end : (client : ℕ) (plan : Plan) (written : ℕ) (left : Plan) (done : List Event) (m : Moment) (control : Control) → IsLawful m.history → HasRoom m.history control
    → While Lawful done (end_events client plan written left) m × HasRoom (behind (end_events client plan written left) m).history control
lawful_end client plan written [] done m control lawful room = ((lawful, lawful), room)
lawful_end client plan written (next ∷ left) done m control lawful room = (lawful, room)

-- of a turn
module _ (done : List Event) (m : Moment) (control : Control) (made : AreMade done m) (going : AreGoing done m control) (lawful : IsLawful m.history) (room : HasRoom m.history control) where
  abbrev Stays : List Event → Control → Type 0
  Stays = Through Lawful Roomy done m

  stays_plans : (client : ℕ) (work : Client) (asked : Option Statement) (asks : List (Option Statement)) (plan : Plan) → slice_get control.clients client ≡ Some work → work.left ≡ [] → work.asks ≡ asked ∷ asks
      → answer_in m.history control asked ≡ Ok (Bring plan) → Stays [] (with_client control client (bringing asks plan))
  stays_plans client work asked asks plan at none asks_are is =
      let entries = with_planned (entries_in m.history) control in
      let fit : has_room plan entries ≡ true = subst (λ (task : Result Task Refusal). IfOk task (TaskFits entries)) is (fits_task asked entries m.history) in
      (lawful, room_planned m.history control client work asks plan at none fit room)

  stays_answers : (client : ℕ) (work : Client) (asked : Option Statement) (asks : List (Option Statement)) (task : Result Task Refusal) → slice_get control.clients client ≡ Some work → work.left ≡ [] → work.asks ≡ asked ∷ asks
      → answer_in m.history control asked ≡ task → BringsNothing task → Stays (answer_events client task m.history) (with_client control client (asking asks))
  stays_answers client work asked asks task at none asks_are is nothing =
      let allowed : IfOk task (TaskAllowed m.history) =
      subst (λ (t : Result Task Refusal). IfOk t (TaskAllowed m.history)) is (allowed_ask done m control made going work asked asks (at_client done m control made going client work at) asks_are) in (
        lawful_answer client task done m (sound_by task m.history allowed nothing) lawful,
        room_answered client task m control (with_client control client (asking asks)) nothing (none_left control client work (asking asks) at none refl) room,
      )

  -- the table of a delivery that is left has room for it
  pub may_arrive : (client : ℕ) (work : Client) (d : Delivery) (left : Plan) → slice_get control.clients client ≡ Some work → work.left ≡ d ∷ left → MayArrive m.history d.table d.entry
  may_arrive client work d left at is =
      let here = at_client done m control made going client work at in
      let arrives : ArrivesIn (catalog_of m.history.schema) d = under_way-first _ _ work here.under_way d left is in
      let left_is = deliveries_left-set d.table control client work (asking []) at in
      let some = ap (deliveries_to d.table) is in
      let one = deliveries_here d.table d left refl in
      record {
        numbered = arrives.numbered;
        def = arrives.def;
        stands = arrives.stands;
        is = arrives.arrives;
        room = omega (arith, left_is, some, one, room d.table (omega (arith, left_is, some, one)));
      }

  stays_delivers : (client : ℕ) (work : Client) (d : Delivery) (left : Plan) → slice_get control.clients client ≡ Some work → work.left ≡ d ∷ left
      → Stays (delivery_event d ∷ end_events client work.plan (work.written + written_by m.history d) left) (with_client control client (behind_made m.history d left work))
  stays_delivers client work d left at is =
      let next = happen (delivery_event d) m in
      let after = behind_made m.history d left work in
      let arrived : IsLawful next.history = lawful_arrived m.history d.table d.entry lawful (may_arrive client work d left at is) in
      let rest = lawful_end client work.plan (work.written + written_by m.history d) left (done ++ delivery_event d ∷ []) next (with_client control client after) arrived (room_made m.history control client work after d left at is refl room) in
      ((lawful, rest.0), rest.1)

  lawful_turn : (turn : Turn) → Stays (act_events turn m.history control) (act_control turn m.history control)
  lawful_turn turn = turn_cases turn m.history control Stays (through-none Lawful Roomy done m control lawful room) stays_delivers stays_plans stays_answers

-- what is made, in a lawful history, and what is left, with room for it
abbrev pub LawfulMade : List Event → Moment → Type 0
LawfulMade done m = AreMade done m × Lawful done m

abbrev pub RoomyGoing : List Event → Moment → Control → Type 0
RoomyGoing done m control = AreGoing done m control × Roomy done m control

-- each turn keeps them
pub lawful_kept : AreKept LawfulMade RoomyGoing
lawful_kept = kept_under AreMade Lawful AreGoing Roomy made_kept (λ turn done m control made going lawful room. lawful_turn done m control made going lawful room turn)

-- where nothing is left, there is room for it
pub room_none : (history : History) (control : Control) → deliveries_left control ≡ [] → HasRoom history control
room_none history control none table some = absurd (omega (arith, some, ap (deliveries_to table) none))

-- where what goes by different things has different ids, and one token and number is that of one block, what is acknowledged stands whole
pub made_whole : (done : List Event) (history : History) (m : Moment) → m ≡ behind done (begins history) → AreApart history done → SameTokenSameBlock history done → LawfulMade done m → All (IsWhole m.history) m.acknowledged
made_whole done history m is apart tokens holds =
    whole_behind done history m is apart tokens (made_held done m holds.0) (made_brought done m holds.0) holds.1 (made_arriving done m holds.0)
