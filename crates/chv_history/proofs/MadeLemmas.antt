-- What becomes of the deliveries of all clients' inserts: each that is made is delivered, was brought, and arrives in its table.
use Rattle.std.proofs.Common.{◌≡◌, ℕ, ◌+◌, ◌-◌, ◌≤◌, Bool, true, false, List, [], ◌∷◌, ◌++◌, length, Option, Some, Result, Ok, Err, IfOk, All, Contains, slice_get, ◌==◌, eq-eqb, refl, sym, subst, arith}
use Rattle.std.proofs.lemmas.List.{append-nil}
use Rattle.std.proofs.lemmas.List.Elements.{All-append, All-cons, All-head, All-nil, All-set, All-tail, All-weaker, Contains-append_left, Contains-append_right, Contains-push}
use Rattle.std.proofs.lemmas.Option.{slice_get_within}
use Rattle.chv_ast.specs.declared.refusal.Refusal.{Refusal}
use Rattle.chv_ast.specs.declared.statement.Statement.{Statement}
use Rattle.chv_catalog.specs.Schemas.{Catalog}
use Rattle.chv_part.specs.Forms.{form_of}
use Rattle.chv_query.specs.Accepted.{Accepted, IsAccepted, IsSchema, catalog_of}
use Rattle.chv_query.specs.Arrivals.{Arrival}
use Rattle.chv_query.specs.Plans.{Delivery}
use Rattle.chv_query.specs.Queries.{divides}
use Rattle.chv_query.proofs.AcceptedLemmas.{IsSchema-push}
use Rattle.chv_query.proofs.ArrivalLemmas.{ArrivesIn, planned-arrives}
use Rattle.chv_query.proofs.GrowthLemmas.{All-at}
use Rattle.chv_text.specs.Replies.{insert_line, ok_line, refused_line}
use Rattle.chv_history.specs.Acknowledged.{IsDelivered, IsHeld, brought_by}
use Rattle.chv_history.specs.Events.{Event, Created, Committed, Replied, Plan, Moment, begins, happen}
use Rattle.chv_history.specs.Histories.{History, book_of}
use Rattle.chv_history.specs.Machine.{Turn, Client, Control, act_control, act_events, answer_in, asking, end_events, with_planned, written_by}
use Rattle.chv_history.specs.Runs.{answer_events, delivery_event, entries_in, task_events}
use Rattle.chv_history.specs.Tasks.{Task, Bring, Make, TellParts, TellRows, task_of}
use Rattle.chv_history.specs.Told.{parts_text, query_text, table_rows}
use Rattle.chv_history.proofs.AcknowledgedLemmas.{Holding, delivered_behind, delivered_new}
use Rattle.chv_history.proofs.CommitLemmas.{schema-with_commit}
use Rattle.chv_history.proofs.ScriptLemmas.{IsAskFormed}
use Rattle.chv_history.proofs.TaskLemmas.{task_holds}
use Rattle.chv_history.proofs.TurnLemmas.{BringsNothing, behind_made, bringing, turn_cases, with_client}
use Rattle.chv_history.proofs.TurnWhileLemmas.{AreKept, Through, through-more, through-none}
use Rattle.chv_history.proofs.UnderWayLemmas.{IsUnderWay, under_way-all, under_way-first, under_way-made, under_way-none, under_way-planned, under_way-weaker}
use Rattle.chv_history.proofs.WholeLemmas.{Arriving, Brought, IsBrought, arrives_more, brought_by-append, brought_here}

-- a delivery that is made: a block arrived under its id, the events that are done brought it, and it arrives in its table
pub record IsMade (done : List Event) (history : History) (d : Delivery) : Type 0 where
  pub delivered : IsDelivered history d
  pub brought : Contains (brought_by d.table done) d.entry
  pub arrives : ArrivesIn (catalog_of history.schema) d

-- what a client has to do: statements that are well formed, and of an insert under way deliveries that arrive in their tables
pub record IsGoing (done : List Event) (history : History) (work : Client) : Type 0 where
  pub formed : All IsAskFormed work.asks
  pub under_way : IsUnderWay (IsMade done history) (ArrivesIn (catalog_of history.schema)) work

-- each client does
abbrev pub AreGoing : List Event → Moment → Control → Type 0
AreGoing done m control = All (IsGoing done m.history) control.clients

-- the schema is one, and each delivery of what is acknowledged is made
abbrev pub AreMade : List Event → Moment → Type 0
AreMade done m = IsSchema m.history.schema × All (All (IsMade done m.history)) m.acknowledged

-- what arrives in its table does where more is defined
arrives_happen : (event : Event) (m : Moment) (d : Delivery) → IsSchema (happen event m).history.schema → ArrivesIn (catalog_of m.history.schema) d → ArrivesIn (catalog_of (happen event m).history.schema) d
arrives_happen (Created accepted) m d schema is = arrives_more m.history.schema accepted schema d is
arrives_happen (Committed table arrivals) m d schema is = subst (λ (s : List Accepted). ArrivesIn (catalog_of s) d) (sym (schema-with_commit table arrivals m.history)) is
arrives_happen (Replied text plans refuses) m d schema is = is

-- what is made stays so
made_happen : (event : Event) (done : List Event) (m : Moment) (d : Delivery) → IsSchema (happen event m).history.schema → IsMade done m.history d → IsMade (done ++ event ∷ []) (happen event m).history d
made_happen event done m d schema is = record {
  delivered = delivered_behind (event ∷ []) m d is.delivered;
  brought =
      subst (λ (l : List Arrival). Contains l d.entry) (sym (brought_by-append d.table done (event ∷ [])))
      (Contains-append_left (brought_by d.table done) (brought_by d.table (event ∷ [])) d.entry is.brought);
  arrives = arrives_happen event m d schema is.arrives;
}

-- what arrives does in a table of the catalog
pub known_table : (catalog : Catalog) (d : Delivery) → ArrivesIn catalog d → (1 ≤ d.table) × (d.table ≤ length catalog.tables)
known_table catalog d is = (is.numbered, omega (arith, is.numbered, slice_get_within catalog.tables (d.table - 1) is.def is.stands))

-- a delivery is made
made_new : (done : List Event) (m : Moment) (d : Delivery) → IsSchema m.history.schema → ArrivesIn (catalog_of m.history.schema) d → IsMade (done ++ delivery_event d ∷ []) (happen (delivery_event d) m).history d
made_new done m d schema is = record {
  delivered = delivered_new d m.history (known_table (catalog_of m.history.schema) d is);
  brought =
      subst (λ (l : List Arrival). Contains l d.entry) (sym (brought_by-append d.table done (delivery_event d ∷ [])))
      (Contains-append_right (brought_by d.table done) (brought_by d.table (delivery_event d ∷ [])) d.entry
      (brought_here (d.table == d.table) [] (d.entry ∷ []) [] d.entry (Contains-push [] d.entry) (eq-eqb d.table d.table refl)));
  arrives = subst (λ (s : List Accepted). ArrivesIn (catalog_of s) d) (sym (schema-with_commit d.table (d.entry ∷ []) m.history)) is;
}

-- what an event acknowledges
abbrev pub plans_of : Event → List Plan
plans_of (Created accepted) = []
plans_of (Committed table arrivals) = []
plans_of (Replied text plans refuses) = plans

acknowledged_happen : (event : Event) (m : Moment) → (happen event m).acknowledged ≡ m.acknowledged ++ plans_of event
acknowledged_happen (Created accepted) m = sym (append-nil m.acknowledged)
acknowledged_happen (Committed table arrivals) m = sym (append-nil m.acknowledged)
acknowledged_happen (Replied text plans refuses) m = refl

-- an event happens, behind which the schema is one, and which acknowledges what is made behind it
module _ (event : Event) (done : List Event) (m : Moment) (schema : IsSchema (happen event m).history.schema) where
  abbrev Made : Delivery → Type 0
  Made = IsMade (done ++ event ∷ []) (happen event m).history

  still_made : (plans : List Plan) → All (All (IsMade done m.history)) plans → All (All Made) plans
  still_made plans made = All-weaker (All (IsMade done m.history)) (All Made) (λ plan. All-weaker (IsMade done m.history) Made (λ d is. made_happen event done m d schema is) plan) plans made

  all_made : AreMade done m → All (All Made) (plans_of event) → AreMade (done ++ event ∷ []) (happen event m)
  all_made made new =
      (schema, subst (All (All Made)) (sym (acknowledged_happen event m)) (All-append (All Made) m.acknowledged (plans_of event) (still_made m.acknowledged made.1) new))

  going_one : (work : Client) → IsGoing done m.history work → IsGoing (done ++ event ∷ []) (happen event m).history work
  going_one work is = record {
    formed = is.formed;
    under_way =
        under_way-weaker (IsMade done m.history) (ArrivesIn (catalog_of m.history.schema)) Made (ArrivesIn (catalog_of (happen event m).history.schema))
        (λ d made. made_happen event done m d schema made) (λ d arrives. arrives_happen event m d schema arrives) work is.under_way;
  }

  all_going : (control : Control) → AreGoing done m control → AreGoing (done ++ event ∷ []) (happen event m) control
  all_going control going = All-weaker (IsGoing done m.history) (IsGoing (done ++ event ∷ []) (happen event m).history) going_one control.clients going

-- both while some events happen
abbrev Go : List Event → Moment → List Event → Control → Type 0
Go = Through AreMade AreGoing

-- a reply that acknowledges what is made, and is the last event
go_reply : (text : List ℕ) (plans : List Plan) (refuses : Bool) (done : List Event) (m : Moment) (control : Control) → AreMade done m → AreGoing done m control → All (All (IsMade done m.history)) plans
    → Go done m (Replied text plans refuses ∷ []) control
go_reply text plans refuses done m control made going new =
    let event = Replied text plans refuses in
    let next = happen event m in
    through-more AreMade AreGoing event [] done m control made
    (through-none AreMade AreGoing (done ++ event ∷ []) next control
    (all_made event done m made.0 made (still_made event done m made.0 plans new)) (all_going event done m made.0 control going))

go_silent : (text : List ℕ) (refuses : Bool) (done : List Event) (m : Moment) (control : Control) → AreMade done m → AreGoing done m control → Go done m (Replied text [] refuses ∷ []) control
go_silent text refuses done m control made going = go_reply text [] refuses done m control made going (All-nil (All (IsMade done m.history)))

-- a task that a schema allows
abbrev pub TaskAllowed : History → Task → Type 0
TaskAllowed history (Make accepted) = IsAccepted (catalog_of history.schema) accepted
TaskAllowed history (Bring plan) = All (ArrivesIn (catalog_of history.schema)) plan
TaskAllowed history (TellRows query) = Unit {0}
TaskAllowed history (TellParts table def) = Unit {0}

pub allowed_task : (asked : Option Statement) (entries : ℕ → ℕ) (history : History) → IsSchema history.schema → IsAskFormed asked → IfOk (task_of (catalog_of history.schema) entries asked) (TaskAllowed history)
allowed_task asked entries history schema formed =
    task_holds (catalog_of history.schema) entries (TaskAllowed history) (λ select query asks. tt) (λ table def. tt) asked
    (λ accepted is defines. record { formed = formed accepted.statement is; defines = defines })
    (λ brought is plan brings room. planned-arrives history.schema schema brought plan brings)

-- an answer that brings nothing
go_task : (client : ℕ) (task : Task) (done : List Event) (m : Moment) (control : Control) → TaskAllowed m.history task → BringsNothing (Ok task) → AreMade done m → AreGoing done m control
    → Go done m (task_events client task m.history) control
go_task client (Make accepted) done m control allowed nothing made going =
    let event = Created accepted in
    let next = happen event m in
    let schema = IsSchema-push m.history.schema accepted made.0 allowed in
    through-more AreMade AreGoing event (Replied (ok_line client) [] false ∷ []) done m control made
    (go_silent (ok_line client) false (done ++ event ∷ []) next control (all_made event done m schema made (All-nil (All (IsMade (done ++ event ∷ []) next.history)))) (all_going event done m schema control going))
go_task client (Bring plan) done m control allowed nothing made going = absurd nothing
go_task client (TellRows query) done m control allowed nothing made going =
    let rows = table_rows (form_of query.def) (book_of m.history query.table) in
    go_silent (query_text client query rows) (divides query rows) done m control made going
go_task client (TellParts table def) done m control allowed nothing made going = go_silent (parts_text client (form_of def) (book_of m.history table)) false done m control made going

go_answer : (client : ℕ) (task : Result Task Refusal) (done : List Event) (m : Moment) (control : Control) → IfOk task (TaskAllowed m.history) → BringsNothing task → AreMade done m → AreGoing done m control
    → Go done m (answer_events client task m.history) control
go_answer client (Ok task) done m control allowed nothing made going = go_task client task done m control allowed nothing made going
go_answer client (Err refuses) done m control allowed nothing made going = go_silent (refused_line client refuses) true done m control made going

-- behind a delivery: where it was the last, its insert is acknowledged
go_end : (client : ℕ) (left : Plan) (work : Client) (written : ℕ) (done : List Event) (m : Moment) (control : Control) → work.left ≡ left → IsUnderWay (IsMade done m.history) (ArrivesIn (catalog_of m.history.schema)) work
    → AreMade done m → AreGoing done m control → Go done m (end_events client work.plan written left) control
go_end client [] work written done m control none under_way made going =
    go_reply (insert_line client written (length work.plan - written)) (work.plan ∷ []) false done m control made going
    (All-cons (All (IsMade done m.history)) work.plan [] (under_way-all (IsMade done m.history) (ArrivesIn (catalog_of m.history.schema)) work under_way none) (All-nil (All (IsMade done m.history))))
go_end client (next ∷ left) work written done m control is under_way made going = through-none AreMade AreGoing done m control made going

-- of a turn
module _ (done : List Event) (m : Moment) (control : Control) (made : AreMade done m) (going : AreGoing done m control) where
  abbrev Going : Client → Type 0
  Going = IsGoing done m.history

  pub at_client : (client : ℕ) (work : Client) → slice_get control.clients client ≡ Some work → Going work
  at_client client work at = All-at Going control.clients client work going at

  -- what a client asks for is allowed
  pub allowed_ask : (work : Client) (asked : Option Statement) (asks : List (Option Statement)) → Going work → work.asks ≡ asked ∷ asks → IfOk (answer_in m.history control asked) (TaskAllowed m.history)
  allowed_ask work asked asks is asks_are =
      allowed_task asked (with_planned (entries_in m.history) control) m.history made.0 (All-head IsAskFormed asked asks (subst (All IsAskFormed) asks_are is.formed))

  go_plans : (client : ℕ) (work : Client) (asked : Option Statement) (asks : List (Option Statement)) (plan : Plan) → slice_get control.clients client ≡ Some work → work.left ≡ [] → work.asks ≡ asked ∷ asks
      → answer_in m.history control asked ≡ Ok (Bring plan) → Go done m [] (with_client control client (bringing asks plan))
  go_plans client work asked asks plan at none asks_are is =
      let here = at_client client work at in
      let arrive : All (ArrivesIn (catalog_of m.history.schema)) plan = subst (λ (task : Result Task Refusal). IfOk task (TaskAllowed m.history)) is (allowed_ask work asked asks here asks_are) in
      through-none AreMade AreGoing done m (with_client control client (bringing asks plan)) made
      (All-set Going control.clients client (bringing asks plan)
      (record {
        formed = All-tail IsAskFormed asked asks (subst (All IsAskFormed) asks_are here.formed);
        under_way = under_way-planned (IsMade done m.history) (ArrivesIn (catalog_of m.history.schema)) asks plan arrive;
      })
      going)

  go_answers : (client : ℕ) (work : Client) (asked : Option Statement) (asks : List (Option Statement)) (task : Result Task Refusal) → slice_get control.clients client ≡ Some work → work.left ≡ [] → work.asks ≡ asked ∷ asks
      → answer_in m.history control asked ≡ task → BringsNothing task → Go done m (answer_events client task m.history) (with_client control client (asking asks))
  go_answers client work asked asks task at none asks_are is nothing =
      let here = at_client client work at in
      let allowed : IfOk task (TaskAllowed m.history) = subst (λ (t : Result Task Refusal). IfOk t (TaskAllowed m.history)) is (allowed_ask work asked asks here asks_are) in
      go_answer client task done m (with_client control client (asking asks)) allowed nothing made
      (All-set Going control.clients client (asking asks)
      (record {
        formed = All-tail IsAskFormed asked asks (subst (All IsAskFormed) asks_are here.formed);
        under_way = under_way-none (IsMade done m.history) (ArrivesIn (catalog_of m.history.schema)) asks;
      })
      going)

  go_delivers : (client : ℕ) (work : Client) (d : Delivery) (left : Plan) → slice_get control.clients client ≡ Some work → work.left ≡ d ∷ left
      → Go done m (delivery_event d ∷ end_events client work.plan (work.written + written_by m.history d) left) (with_client control client (behind_made m.history d left work))
  go_delivers client work d left at is =
      let here = at_client client work at in
      let event = delivery_event d in
      let next = happen event m in
      let old = ArrivesIn (catalog_of m.history.schema) in
      let arrives : old d = under_way-first (IsMade done m.history) old work here.under_way d left is in
      let schema : IsSchema next.history.schema = subst IsSchema (sym (schema-with_commit d.table (d.entry ∷ []) m.history)) made.0 in
      let behind_all : AreMade (done ++ event ∷ []) next = all_made event done m schema made (All-nil (All (IsMade (done ++ event ∷ []) next.history))) in
      let going_on = going_one event done m schema work here in
      let written = work.written + written_by m.history d in
      let after : Client = behind_made m.history d left work in
      let under_way = under_way-made (IsMade (done ++ event ∷ []) next.history) (ArrivesIn (catalog_of next.history.schema)) work going_on.under_way d left written is (made_new done m d made.0 arrives) in
      let new : IsGoing (done ++ event ∷ []) next.history after = record { formed = here.formed; under_way = under_way } in
      let clients : AreGoing (done ++ event ∷ []) next (with_client control client after) =
      All-set (IsGoing (done ++ event ∷ []) next.history) control.clients client after new (all_going event done m schema control going) in
      through-more AreMade AreGoing event (end_events client work.plan written left) done m (with_client control client after) made
      (go_end client left after written (done ++ event ∷ []) next (with_client control client after) refl under_way behind_all clients)

  made_turn : (turn : Turn) → Go done m (act_events turn m.history control) (act_control turn m.history control)
  made_turn turn = turn_cases turn m.history control (Go done m) (through-none AreMade AreGoing done m control made going) go_delivers go_plans go_answers

-- each turn keeps what is made
pub made_kept : AreKept AreMade AreGoing
made_kept turn done m control made going = made_turn done m control made going turn

-- clients that have no insert under way, and ask for what is well formed
pub going_begun : (done : List Event) (history : History) (asks : List (Option Statement)) → All IsAskFormed asks → IsGoing done history (asking asks)
going_begun done history asks formed = record { formed = formed; under_way = under_way-none (IsMade done history) (ArrivesIn (catalog_of history.schema)) asks }

-- what is acknowledged is held, has been brought, and arrives
pub made_held : (done : List Event) (m : Moment) → AreMade done m → Holding m
made_held done m made = All-weaker (All (IsMade done m.history)) (IsHeld m.history) (λ plan. All-weaker (IsMade done m.history) (IsDelivered m.history) (λ d is. is.delivered) plan) m.acknowledged made.1

pub made_brought : (done : List Event) (m : Moment) → AreMade done m → Brought done m
made_brought done m made =
    All-weaker (All (IsMade done m.history)) (IsBrought done) (λ plan. All-weaker (IsMade done m.history) (λ (d : Delivery). Contains (brought_by d.table done) d.entry) (λ d is. is.brought) plan) m.acknowledged made.1

pub made_arriving : (done : List Event) (m : Moment) → AreMade done m → Arriving done m
made_arriving done m made =
    let Arrives = ArrivesIn (catalog_of m.history.schema) in
    All-weaker (All (IsMade done m.history)) (All Arrives) (λ plan. All-weaker (IsMade done m.history) Arrives (λ d is. is.arrives) plan) m.acknowledged made.1

-- nothing is acknowledged yet
pub made_none : (history : History) → IsSchema history.schema → AreMade [] (begins history)
made_none history schema = (schema, All-nil (All (IsMade [] history)))
