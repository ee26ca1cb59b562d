-- What is acknowledged stays so, and is held.
use Rattle.std.proofs.Common.{◌≡◌, ◌⊎◌, inl, inr, ℕ, ◌+◌, ◌-◌, ◌≤◌, List, [], ◌∷◌, ◌++◌, length, map, take, Bool, true, false, Option, Result, Ok, Err, IfOk, All, Contains, refl, sym, ap, subst, ◌∙◌, arith, append_assoc}
use Rattle.std.proofs.lemmas.Bool.{cases_eq}
use Rattle.std.proofs.lemmas.List.{append-nil, length-append, length-take, map-append}
use Rattle.std.proofs.lemmas.List.Elements.{All-nil, All-cons, All-head, All-tail, All-append, All-push, All-weaker, Contains-append_left, Contains-push}
use Rattle.chv_ast.specs.declared.refusal.Refusal.{Refusal}
use Rattle.chv_ast.specs.declared.statement.Statement.{Statement}
use Rattle.chv_query.specs.Accepted.{Accepted, catalog_of, tables_in, tables_of}
use Rattle.chv_query.proofs.AcceptedLemmas.{tables_of-push}
use Rattle.chv_part.specs.Forms.{form_of}
use Rattle.chv_query.specs.Arrivals.{Arrival}
use Rattle.chv_query.specs.Plans.{Delivery, planned}
use Rattle.chv_query.specs.Queries.{divides}
use Rattle.chv_site.specs.Files.{IsFrontOf}
use Rattle.chv_sip.specs.declared.block_id.BlockId.{BlockId}
use Rattle.chv_text.specs.Replies.{ok_line, insert_line, refused_line}
use Rattle.chv_history.specs.Acknowledged.{IsAcknowledged, IsDelivered, IsHeld}
use Rattle.chv_history.specs.Crashes.{text_of, says_next}
use Rattle.chv_history.specs.Events.{Event, Created, Committed, Replied, Plan, Moment, behind, happen, with_commit, written_in}
use Rattle.chv_history.specs.Histories.{History, book_of, ids_in, window_at, with_accepted}
use Rattle.chv_history.specs.Runs.{answer_events, delivered, delivery_event, entries_in, insert_events, request_events, run_events, task_events, written_of}
use Rattle.chv_history.specs.Script.{Request}
use Rattle.chv_history.specs.Tasks.{Task, Bring, Make, TellParts, TellRows, task_of}
use Rattle.chv_history.specs.Told.{parts_text, query_text, table_rows}
use Rattle.chv_history.proofs.ArrivingLemmas.{among_all, with_none-other}
use Rattle.chv_history.proofs.CommitLemmas.{arrivals-other, arrivals-with_arrivals, arrivals-with_commit, is_skipped, schema-with_commit, with_commit-new, with_commit-skipped}
use Rattle.chv_history.proofs.FillingLemmas.{Filling, filling_request}
use Rattle.chv_history.proofs.LookupLemmas.{AreFilling, planned-within}
use Rattle.chv_history.proofs.TaskLemmas.{task_holds}
use Rattle.chv_history.proofs.WhileLemmas.{While, while_behind, while_both, while_last, while_run, while-append}

-- lists with equal firsts and rests
first_same : (x y : Event) (xs ys : List Event) → x ∷ xs ≡ y ∷ ys → x ≡ y
first_same x y xs ys e = cc

rest_same : (x y : Event) (xs ys : List Event) → x ∷ xs ≡ y ∷ ys → xs ≡ ys
rest_same x y xs ys e = cc

-- plans that are acknowledged stay so
pub stays_acknowledged : (plans : List Plan) (events : List Event) (m : Moment) → IsAcknowledged plans m → IsAcknowledged plans (behind events m)
stays_acknowledged plans [] m is = is
stays_acknowledged plans (Created accepted ∷ events) m is =
    stays_acknowledged plans events (happen (Created accepted) m) (record { earlier = is.earlier; later = is.later; among = is.among })
stays_acknowledged plans (Committed table arrivals ∷ events) m is =
    stays_acknowledged plans events (happen (Committed table arrivals) m) (record { earlier = is.earlier; later = is.later; among = is.among })
stays_acknowledged plans (Replied text more refuses ∷ events) m is =
    stays_acknowledged plans events (happen (Replied text more refuses) m) (record {
      earlier = is.earlier;
      later = is.later ++ more;
      among = ap (λ (l : List Plan). l ++ more) is.among ∙ append_assoc (is.earlier ++ plans) is.later more;
    })

-- a reply acknowledges its plans
pub acknowledges : (line : List ℕ) (plans : List Plan) (refuses : Bool) (m : Moment) → IsAcknowledged plans (happen (Replied line plans refuses) m)
acknowledges line plans refuses m = record { earlier = m.acknowledged; later = []; among = sym (append-nil (m.acknowledged ++ plans)) }

-- an event says its text
length-said_happen : (event : Event) (m : Moment) → length (happen event m).said ≡ length m.said + length (text_of event)
length-said_happen (Created accepted) m = omega arith
length-said_happen (Committed table arrivals) m = omega arith
length-said_happen (Replied text plans refuses) m = length-append m.said text

-- what was said stays said
said_grows : (events : List Event) (m : Moment) → length m.said ≤ length (behind events m).said
said_grows [] m = omega arith
said_grows (event ∷ events) m = omega (arith, length-said_happen event m, said_grows events (happen event m))

-- a reply behind the next event was not said to its end
too_early : (x : Event) (xs : List Event) (first : Moment) (before text line : List ℕ) → IsFrontOf (text_of x) (before ++ first.said) text → 1 ≤ length line
    → length (before ++ (behind (x ∷ xs) first).said) + length line ≤ length text → ⊥
too_early x xs first before text line front some whole =
    let long : length text ≡ length (before ++ first.said) + length (take front.0 (text_of x)) = ap length front.1 ∙ length-append (before ++ first.said) (take front.0 (text_of x)) in
    absurd (omega (
      arith,
      some,
      whole,
      long,
      length-take front.0 (text_of x),
      length-append before first.said,
      length-append before (behind (x ∷ xs) first).said,
      length-said_happen x first,
      said_grows xs (happen x first),
    ))

-- a reply that was said to its end is among the events that are done, or is the next
pub acknowledged_or_next : (xs ys done left : List Event) (first : Moment) (before text line : List ℕ) (plans : List Plan) (refuses : Bool)
    → xs ++ Replied line plans refuses ∷ ys ≡ done ++ left → IsFrontOf (says_next left) (before ++ (behind done first).said) text
    → 1 ≤ length line → length (before ++ (behind xs first).said) + length line ≤ length text
    → IsAcknowledged plans (behind done first) ⊎ (left ≡ Replied line plans refuses ∷ ys)
acknowledged_or_next [] ys [] left first before text line plans refuses same front some whole = inr (sym same)
acknowledged_or_next [] ys (d ∷ done) left first before text line plans refuses same front some whole =
    let reply : Replied line plans refuses ≡ d = first_same (Replied line plans refuses) d ys (done ++ left) same in
    inl (stays_acknowledged plans done (happen d first) (subst (λ (event : Event). IsAcknowledged plans (happen event first)) reply (acknowledges line plans refuses first)))
acknowledged_or_next (x ∷ xs) ys [] left first before text line plans refuses same front some whole =
    absurd (too_early x xs first before text line (subst (λ (l : List Event). IsFrontOf (says_next l) (before ++ first.said) text) (sym same) front) some whole)
acknowledged_or_next (x ∷ xs) ys (d ∷ done) left first before text line plans refuses same front some whole =
    let one : x ≡ d = first_same x d (xs ++ Replied line plans refuses ∷ ys) (done ++ left) same in
    acknowledged_or_next xs ys done left (happen d first) before text line plans refuses (rest_same x d (xs ++ Replied line plans refuses ∷ ys) (done ++ left) same) front some
    (subst (λ (event : Event). length (before ++ (behind xs (happen event first)).said) + length line ≤ length text) one whole)

-- the moment's history holds what is acknowledged
abbrev pub Holding : Moment → Type 0
Holding m = All (IsHeld m.history) m.acknowledged

-- so it does at each moment
abbrev pub Held : List Event → Moment → Type 0
Held done m = Holding m

-- a delivery's table is one of the history
abbrev pub IsKnown : History → Delivery → Type 0
IsKnown history d = (1 ≤ d.table) × (d.table ≤ length (tables_of history.schema))

-- the ids under which blocks arrived stay behind a commit
arrived_behind : (table n : ℕ) (arrivals : List Arrival) (history : History) (id : BlockId) → Contains (ids_in (history.arrivals n)) id → Contains (ids_in ((with_commit table arrivals history).arrivals n)) id
arrived_behind table n arrivals history id is = elim (cases_eq n table) as (λ _. Contains (ids_in ((with_commit table arrivals history).arrivals n)) id) [
  | inl same ↦
      let new = written_in table arrivals history in
      subst (λ (m : ℕ). Contains (ids_in ((with_commit table arrivals history).arrivals m)) id) (sym same)
      (subst (λ (l : List Arrival). Contains (ids_in l) id) (sym (arrivals-with_commit table arrivals history))
      (subst (λ (ids : List BlockId). Contains ids id) (sym (map-append (λ (a : Arrival). a.id) (history.arrivals table) new))
      (Contains-append_left (ids_in (history.arrivals table)) (ids_in new) id (subst (λ (m : ℕ). Contains (ids_in (history.arrivals m)) id) same is))))
  | inr other ↦ subst (λ (l : List Arrival). Contains (ids_in l) id) (sym (arrivals-other table n arrivals history other)) is
]

-- a delivery stays delivered as a table or a view is made
delivered_created : (accepted : Accepted) (history : History) (d : Delivery) → IsDelivered history d → IsDelivered (with_accepted accepted history) d
delivered_created accepted history d is =
    let more = ap length (tables_of-push history.schema accepted) ∙ length-append (tables_of history.schema) (tables_in accepted.definition) in
    record {
      counted = is.counted;
      stands = omega (arith, is.stands, more);
      id = subst (λ (l : List Arrival). Contains (ids_in l) d.entry.id)
          (sym (with_none-other accepted.definition (length (tables_of history.schema) + 1) d.table history.arrivals (λ same. absurd (omega (arith, same, is.stands))))) is.id;
    }

-- and as blocks arrive
delivered_committed : (table : ℕ) (arrivals : List Arrival) (history : History) (d : Delivery) → IsDelivered history d → IsDelivered (with_commit table arrivals history) d
delivered_committed table arrivals history d is = record {
  counted = is.counted;
  stands = subst (λ (s : List Accepted). d.table ≤ length (tables_of s)) (sym (schema-with_commit table arrivals history)) is.stands;
  id = arrived_behind table d.table arrivals history d.entry.id is.id;
}

-- and whatever happens
pub delivered_behind : (events : List Event) (m : Moment) (d : Delivery) → IsDelivered m.history d → IsDelivered (behind events m).history d
delivered_behind [] m d is = is
delivered_behind (Created accepted ∷ events) m d is = delivered_behind events (happen (Created accepted) m) d (delivered_created accepted m.history d is)
delivered_behind (Committed table arrivals ∷ events) m d is = delivered_behind events (happen (Committed table arrivals) m) d (delivered_committed table arrivals m.history d is)
delivered_behind (Replied text plans refuses ∷ events) m d is = delivered_behind events (happen (Replied text plans refuses) m) d is

-- a delivery that is made is delivered, be it written or skipped
pub delivered_new : (d : Delivery) (history : History) → IsKnown history d → IsDelivered (delivered d history) d
delivered_new d history known = record {
  counted = known.0;
  stands = subst (λ (s : List Accepted). d.table ≤ length (tables_of s)) (sym (schema-with_commit d.table (d.entry ∷ []) history)) known.1;
  id = elim (is_skipped d.table d.entry history) as (λ (b : Bool). is_skipped d.table d.entry history ≡ b → Contains (ids_in ((delivered d history).arrivals d.table)) d.entry.id) [
    | true ↦ λ skipped.
        subst (λ (h : History). Contains (ids_in (h.arrivals d.table)) d.entry.id) (sym (with_commit-skipped d.table d.entry history skipped))
        (among_all (window_at (tables_of history.schema) d.table) (history.arrivals d.table) d.entry.id skipped)
    | false ↦ λ new.
        subst (λ (h : History). Contains (ids_in (h.arrivals d.table)) d.entry.id) (sym (with_commit-new d.table d.entry history new))
        (subst (λ (l : List Arrival). Contains (ids_in l) d.entry.id) (sym (arrivals-with_arrivals d.table (d.entry ∷ []) history))
        (subst (λ (ids : List BlockId). Contains ids d.entry.id) (sym (map-append (λ (a : Arrival). a.id) (history.arrivals d.table) (d.entry ∷ [])))
        (Contains-push (ids_in (history.arrivals d.table)) d.entry.id)))
  ] refl;
}

-- a history that keeps each delivery holds what was held
keeps_held : (old new : History) (plans : List Plan) → ((d : Delivery) → IsDelivered old d → IsDelivered new d) → All (IsHeld old) plans → All (IsHeld new) plans
keeps_held old new plans keeps held = All-weaker (IsHeld old) (IsHeld new) (λ plan. All-weaker (IsDelivered old) (IsDelivered new) keeps plan) plans held

-- a reply that acknowledges nothing
holding_reply : (text : List ℕ) (refuses : Bool) (done : List Event) (m : Moment) → Holding m → While Held done (Replied text [] refuses ∷ []) m
holding_reply text refuses done m held = (held, All-append (IsHeld m.history) m.acknowledged [] held (All-nil (IsHeld m.history)))

-- deliveries are made one after the other
holding_deliveries : (plan : Plan) (done : List Event) (m : Moment) → Holding m → While Held done (map delivery_event plan) m
holding_deliveries [] done m held = held
holding_deliveries (d ∷ plan) done m held = (
  held,
  holding_deliveries plan (done ++ delivery_event d ∷ []) (happen (delivery_event d) m)
      (keeps_held m.history (delivered d m.history) m.acknowledged (delivered_committed d.table (d.entry ∷ []) m.history) held),
)

-- the tables of deliveries stay as one is made
known_behind : (d : Delivery) (plan : Plan) (history : History) → All (IsKnown history) plan → All (IsKnown (delivered d history)) plan
known_behind d plan history known = subst (λ (s : List Accepted). All (λ (e : Delivery). (1 ≤ e.table) × (e.table ≤ length (tables_of s))) plan) (sym (schema-with_commit d.table (d.entry ∷ []) history)) known

-- behind them all are delivered
pub all_delivered : (plan : Plan) (m : Moment) → All (IsKnown m.history) plan → IsHeld (behind (map delivery_event plan) m).history plan
all_delivered [] m known = All-nil (IsDelivered m.history)
all_delivered (d ∷ plan) m known =
    let next = happen (delivery_event d) m in
    let events = map delivery_event plan in
    All-cons (IsDelivered (behind events next).history) d plan
    (delivered_behind events next d (delivered_new d m.history (All-head (IsKnown m.history) d plan known)))
    (all_delivered plan next (known_behind d plan m.history (All-tail (IsKnown m.history) d plan known)))

-- an insert is acknowledged behind its deliveries
holding_insert : (client : ℕ) (plan : Plan) (done : List Event) (m : Moment) → All (IsKnown m.history) plan → Holding m → While Held done (insert_events client plan m.history) m
holding_insert client plan done m known held =
    let events = map delivery_event plan in
    let last = behind events m in
    let made : While Held done events m = holding_deliveries plan done m held in
    let before : Holding last = while_last Held events done m made in
    let written = written_of plan m.history in
    while-append Held events (Replied (insert_line client written (length plan - written)) (plan ∷ []) false ∷ []) done m made
    (before, All-push (IsHeld last.history) last.acknowledged plan before (all_delivered plan m known))

-- the deliveries of a task go to tables of the history
abbrev pub TaskKnown : History → Task → Type 0
TaskKnown history (Make accepted) = Unit {0}
TaskKnown history (Bring plan) = All (IsKnown history) plan
TaskKnown history (TellRows query) = Unit {0}
TaskKnown history (TellParts table def) = Unit {0}

holding_task : (client : ℕ) (task : Task) (done : List Event) (m : Moment) → TaskKnown m.history task → Holding m → While Held done (task_events client task m.history) m
holding_task client (Make accepted) done m known held = (
  held,
  holding_reply (ok_line client) false (done ++ Created accepted ∷ []) (happen (Created accepted) m)
      (keeps_held m.history (with_accepted accepted m.history) m.acknowledged (delivered_created accepted m.history) held),
)
holding_task client (Bring plan) done m known held = holding_insert client plan done m known held
holding_task client (TellRows query) done m known held =
    let rows = table_rows (form_of query.def) (book_of m.history query.table) in
    holding_reply (query_text client query rows) (divides query rows) done m held
holding_task client (TellParts table def) done m known held = holding_reply (parts_text client (form_of def) (book_of m.history table)) false done m held

holding_answer : (client : ℕ) (task : Result Task Refusal) (done : List Event) (m : Moment) → IfOk task (TaskKnown m.history) → Holding m → While Held done (answer_events client task m.history) m
holding_answer client (Ok task) done m known held = holding_task client task done m known held
holding_answer client (Err refuses) done m known held = holding_reply (refused_line client refuses) true done m held

-- what is planned goes to tables of the history
planned_known : (plans : Result Plan Refusal) (plan : Plan) (P : Plan → Type 0) → IfOk plans P → plans ≡ Ok plan → P plan
planned_known plans plan P holds same = subst (λ (r : Result Plan Refusal). IfOk r P) same holds

pub known_task : (asked : Option Statement) (history : History) → AreFilling (catalog_of history.schema) → IfOk (task_of (catalog_of history.schema) (entries_in history) asked) (TaskKnown history)
known_task asked history filling =
    task_holds (catalog_of history.schema) (entries_in history) (TaskKnown history) (λ select query asks. tt) (λ table def. tt) asked (λ accepted is defines. tt)
    (λ brought is plan brings room. planned_known (planned (catalog_of history.schema) brought) plan (All (IsKnown history)) (planned-within (catalog_of history.schema) filling brought) brings)

abbrev pub FillingHeld : List Event → Moment → Type 0
FillingHeld done m = Filling done m × Held done m

-- while a request is answered the history holds what is acknowledged
pub holding_request : (request : Request) (done : List Event) (m : Moment) → FillingHeld done m → While FillingHeld done (request_events request m.history) m
holding_request request done m both =
    while_both Filling Held (request_events request m.history) done m (filling_request request done m both.0)
    (holding_answer request.client (task_of (catalog_of m.history.schema) (entries_in m.history) request.statement) done m (known_task request.statement m.history both.0) both.1)

-- so it does while all are
holding_run : (requests : List Request) (m : Moment) → AreFilling (catalog_of m.history.schema) → Holding m → While FillingHeld [] (run_events requests m) m
holding_run requests m filling held =
    while_run FillingHeld (λ (request : Request). Unit {0}) (λ request done n asks both. holding_request request done n both) requests [] m (λ k d within. tt) (filling, held)

-- at the moment behind the events that are done
pub holding_behind : (requests : List Request) (m : Moment) (done left : List Event) → AreFilling (catalog_of m.history.schema) → Holding m → run_events requests m ≡ done ++ left → Holding (behind done m)
holding_behind requests m done left filling held split = (while_behind FillingHeld requests m done left (holding_run requests m filling held) split).1

-- nothing is acknowledged yet
pub holding_none : (m : Moment) → m.acknowledged ≡ [] → Holding m
holding_none m none = subst (All (IsHeld m.history)) (sym none) (All-nil (IsHeld m.history))
