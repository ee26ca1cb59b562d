-- With no list of turns a run answers its requests one after the other.
use Rattle.std.proofs.Common.{◌≡◌, ℕ, zero, suc, ◌+◌, ◌-◌, ◌<◌, ◌≤◌, Bool, true, false, cond, ◌==◌, List, [], ◌∷◌, ◌++◌, length, map, get_or, slice_get, slice_set, Option, None, Some, Result, Ok, Err, IfOk, All, refl, sym, add-zero, ap, ap₂, subst, subst₂, ◌∙◌, arith, append_assoc}
use Rattle.std.specs.List.{flat_map, position, range_with_len}
use Rattle.std.proofs.Math.Seq.{take-append_seam}
use Rattle.std.proofs.lemmas.Bool.{eqb-true}
use Rattle.std.proofs.lemmas.List.{append-nil, get_or-append-add, length-append, map-append, set_at}
use Rattle.std.proofs.lemmas.List.Elements.{All-append, All-cons, All-head, All-map, All-nil, All-push, All-tail}
use Rattle.chv_ast.specs.declared.refusal.Refusal.{Refusal}
use Rattle.chv_ast.specs.declared.statement.Statement.{Statement}
use Rattle.chv_lex.specs.Scripts.{pieces_of}
use Rattle.chv_lex.specs.declared.piece.Piece.{Piece}
use Rattle.chv_query.specs.Accepted.{catalog_of}
use Rattle.chv_query.specs.Plans.{Delivery}
use Rattle.chv_query.proofs.RunLemmas.{none-more, position-first}
use Rattle.chv_text.specs.Replies.{insert_line}
use Rattle.chv_history.specs.Events.{Event, Replied, Plan, Moment, begins, behind, happen}
use Rattle.chv_history.specs.Histories.{History}
use Rattle.chv_history.specs.Machine.{Next, Client, Control, answer_in, asking, client_of, deliveries_left, first_with_work, has_more, has_work, with_planned, written_by}
use Rattle.chv_history.specs.Runs.{answer_events, delivery_event, entries_in, insert_events, request_events, run_events, written_of}
use Rattle.chv_history.specs.Script.{Request, from_client, of_client, request_of, requests_in, requests_of}
use Rattle.chv_history.specs.Tasks.{Task, Bring, Make, TellParts, TellRows, deliveries_to, task_of}
use Rattle.chv_history.specs.Traces.{IsRest, IsTrace, asks_in, control_in}
use Rattle.chv_history.proofs.LeftLemmas.{behind-append}
use Rattle.chv_history.proofs.PlannedLemmas.{TaskBrings, task_brings}
use Rattle.chv_history.proofs.ScriptLemmas.{IsAskFormed, asks_formed}
use Rattle.chv_history.proofs.TraceLemmas.{rest_next, rest_none, rest_unique}
use Rattle.chv_history.proofs.TurnLemmas.{Acts, BringsNothing, acts_answered, acts_first, acts_last, acts_planned, behind_made, bringing, client_of-Next, client_of-there}

-- next come these events, behind which this is what all clients have to do
abbrev Leads : Moment → Control → List Event → Control → Type 0
Leads m control events after = (later : List Event) → IsRest [] (behind events m) after later → IsRest [] m control (events ++ later)

leads-append : (xs ys : List Event) (m : Moment) (before between after : Control) → Leads m before xs between → Leads (behind xs m) between ys after → Leads m before (xs ++ ys) after
leads-append xs ys m before between after one two later rest =
    subst (IsRest [] m before) (sym (append_assoc xs ys later))
    (one (ys ++ later) (two later (subst (λ (n : Moment). IsRest [] n after later) (behind-append xs ys m) rest)))

leads_acts : (m : Moment) (control : Control) (events : List Event) (after : Control) → Acts Next m.history control events after → Leads m control events after
leads_acts m control events after acts later rest =
    subst (λ (es : List Event). IsRest [] m control (es ++ later)) acts.events_are
    (rest_next m control later (subst₂ (λ (es : List Event) (c : Control). IsRest [] (behind es m) c later) (sym acts.events_are) (sym acts.control_is) rest))

-- a client has no delivery left
abbrev pub Rests : Client → Type 0
Rests work = work.left ≡ []

pub rests_all : (clients : List Client) → All Rests clients → deliveries_left (record { clients = clients }) ≡ []
rests_all [] rest = refl
rests_all (work ∷ clients) rest = ap₂ (λ (xs ys : Plan). xs ++ ys) (All-head Rests work clients rest) (rests_all clients (All-tail Rests work clients rest))

-- with none left, room is counted by entries alone
pub planned_none : (entries : ℕ → ℕ) (control : Control) → deliveries_left control ≡ [] → with_planned entries control ≡ entries
planned_none entries control none =
    let beside : Plan → ℕ → ℕ = λ left table. entries table + deliveries_to table left in
    ap beside none ∙ (λ i table. add-zero (entries table) i)

slice_get-at : (before rest : List Client) (work : Client) → slice_get (before ++ work ∷ rest) (length before) ≡ Some work
slice_get-at [] rest work = refl
slice_get-at (first ∷ before) rest work = slice_get-at before rest work

-- clients in front of one have nothing to do
module _ (before rest : List Client) (idle : position has_work before ≡ None) where
  abbrev pub number : ℕ
  number = length before

  abbrev pub with_work : Client → Control
  with_work work = record { clients = before ++ work ∷ rest }

  -- so its turn is the next, where it has work
  pub next_is : (work : Client) → has_work work ≡ true → client_of Next (with_work work) ≡ Some (number, work)
  next_is work some =
      let clients = before ++ work ∷ rest in
      let within : number < length clients = omega (arith, length-append before (work ∷ rest)) in
      let same : number + 0 ≡ number = omega arith in
      let there : work ≡ get_or clients number work = subst (λ (n : ℕ). work ≡ get_or clients n work) same (sym (get_or-append-add before (work ∷ rest) 0 work)) in
      let first : first_with_work (with_work work) ≡ Some number =
      position-first has_work clients number work within there (ap (position has_work) (take-append_seam before (work ∷ rest)) ∙ idle) some in
      client_of-Next number (with_work work) first ∙ client_of-there number (with_work work) work (slice_get-at before rest work)

  -- and behind it, it has this to do
  pub put_is : (old new : Client) → (record { clients = slice_set (before ++ old ∷ rest) number new }) ≡ with_work new
  put_is old new = ap (λ (clients : List Client). record { clients = clients }) (set_at before old rest new number refl)

  -- its deliveries are made one after the other, and the insert is acknowledged, with so many blocks written
  abbrev made_events : Plan → Plan → ℕ → List Event
  made_events left plan written = map delivery_event left ++ Replied (insert_line number written (length plan - written)) (plan ∷ []) false ∷ []

  abbrev LeadsMade : Plan → Client → Moment → ℕ → Type 0
  LeadsMade left work m written = Leads m (with_work work) (made_events left work.plan written) (with_work (record work { left = []; written = written }))

  leads_made : (d : Delivery) (left : Plan) (work : Client) (m : Moment) → work.left ≡ d ∷ left → LeadsMade (d ∷ left) work m (work.written + written_of (d ∷ left) m.history)
  leads_made d [] work m is =
      let acts = acts_last Next m.history (with_work work) number work (next_is work (ap (λ (l : Plan). has_more l work.asks) is)) d is in
      let one : LeadsMade (d ∷ []) work m (work.written + written_by m.history d) =
      subst (Leads m (with_work work) (made_events (d ∷ []) work.plan (work.written + written_by m.history d))) (put_is work (behind_made m.history d [] work)) (leads_acts m (with_work work) _ _ acts) in
      let sum : work.written + written_by m.history d ≡ work.written + written_of (d ∷ []) m.history = omega arith in
      subst (LeadsMade (d ∷ []) work m) sum one
  leads_made d (next ∷ left) work m is =
      let acts = acts_first Next m.history (with_work work) number work (next_is work (ap (λ (l : Plan). has_more l work.asks) is)) d next left is in
      let more = behind_made m.history d (next ∷ left) work in
      let following = happen (delivery_event d) m in
      let one : Leads m (with_work work) (delivery_event d ∷ []) (with_work more) = subst (Leads m (with_work work) (delivery_event d ∷ [])) (put_is work more) (leads_acts m (with_work work) (delivery_event d ∷ []) _ acts) in
      let others : LeadsMade (next ∷ left) more following (more.written + written_of (next ∷ left) following.history) = leads_made next left more following refl in
      let all : LeadsMade (d ∷ (next ∷ left)) work m (more.written + written_of (next ∷ left) following.history) =
      leads-append (delivery_event d ∷ []) (made_events (next ∷ left) work.plan (more.written + written_of (next ∷ left) following.history)) m (with_work work) (with_work more) _ one others in
      let sum : more.written + written_of (next ∷ left) following.history ≡ work.written + written_of (d ∷ (next ∷ left)) m.history = omega arith in
      subst (LeadsMade (d ∷ (next ∷ left)) work m) sum all

  -- a statement is answered: behind it the client has no delivery left, and asks for the rest
  record IsAnswered (m : Moment) (work : Client) (asked : Option Statement) (asks : List (Option Statement)) : Type 0 where
    after : Client
    rests : Rests after
    asks_are : after.asks ≡ asks
    leads : Leads m (with_work work) (request_events (record { client = number; statement = asked }) m.history) (with_work after)

  module _ (m : Moment) (work : Client) (asked : Option Statement) (asks : List (Option Statement)) (rested : All Rests before) (resting : All Rests rest) (none : Rests work) (are : work.asks ≡ asked ∷ asks) where
    turn_is : client_of Next (with_work work) ≡ Some (number, work)
    turn_is = next_is work (ap₂ (λ (l : Plan) (a : List (Option Statement)). has_more l a) none are)

    same_task : answer_in m.history (with_work work) asked ≡ task_of (catalog_of m.history.schema) (entries_in m.history) asked
    same_task =
        ap (λ (entries : ℕ → ℕ). task_of (catalog_of m.history.schema) entries asked)
        (planned_none (entries_in m.history) (with_work work) (rests_all (before ++ work ∷ rest) (All-append Rests before (work ∷ rest) rested (All-cons Rests work rest none resting))))

    abbrev AnswersAs : Result Task Refusal → Type 0
    AnswersAs task = (after : Client) × Rests after × (after.asks ≡ asks) × Leads m (with_work work) (answer_events number task m.history) (with_work after)

    by_silent : (task : Result Task Refusal) → answer_in m.history (with_work work) asked ≡ task → BringsNothing task → AnswersAs task
    by_silent task is nothing =
        let acts = acts_answered Next m.history (with_work work) number work turn_is none asked asks are task is nothing in
        (asking asks, refl, refl, subst (Leads m (with_work work) (answer_events number task m.history)) (put_is work (asking asks)) (leads_acts m (with_work work) (answer_events number task m.history) _ acts))

    by_plan : (plan : Plan) → answer_in m.history (with_work work) asked ≡ Ok (Bring plan) → 1 ≤ length plan → AnswersAs (Ok (Bring plan))
    by_plan [] is some = absurd (omega (arith, some))
    by_plan (d ∷ plan) is some =
        let acts = acts_planned Next m.history (with_work work) number work turn_is none asked asks are (d ∷ plan) is in
        let more = bringing asks (d ∷ plan) in
        let one : Leads m (with_work work) [] (with_work more) = subst (Leads m (with_work work) []) (put_is work more) (leads_acts m (with_work work) [] _ acts) in
        let after : Client = record more { left = []; written = written_of (d ∷ plan) m.history } in
        let sum : 0 + written_of (d ∷ plan) m.history ≡ written_of (d ∷ plan) m.history = omega arith in
        let whole : Leads m (with_work more) (insert_events number (d ∷ plan) m.history) (with_work after) = subst (LeadsMade (d ∷ plan) more m) sum (leads_made d plan more m refl) in
        (after, refl, refl, leads-append [] (insert_events number (d ∷ plan) m.history) m (with_work work) (with_work more) (with_work after) one whole)

    by_task : (task : Result Task Refusal) → answer_in m.history (with_work work) asked ≡ task → IfOk task TaskBrings → AnswersAs task
    by_task (Ok (Bring plan)) is brings = by_plan plan is brings
    by_task (Ok (Make accepted)) is brings = by_silent (Ok (Make accepted)) is tt
    by_task (Ok (TellRows query)) is brings = by_silent (Ok (TellRows query)) is tt
    by_task (Ok (TellParts table def)) is brings = by_silent (Ok (TellParts table def)) is tt
    by_task (Err refuses) is brings = by_silent (Err refuses) is tt

    answered : IsAskFormed asked → IsAnswered m work asked asks
    answered formed =
        let task = task_of (catalog_of m.history.schema) (entries_in m.history) asked in
        let by = by_task task same_task (task_brings (catalog_of m.history.schema) (entries_in m.history) asked formed) in
        record { after = by.0; rests = by.1; asks_are = by.2; leads = by.3 }

-- what clients ask for, client by client, from this number on
abbrev pub asked_by : ℕ → List (Option Statement) → List Request
asked_by client asks = map (λ (asked : Option Statement). record { client = client; statement = asked }) asks

abbrev pub asked_from : ℕ → List Client → List Request
asked_from first [] = []
asked_from first (work ∷ clients) = asked_by first work.asks ++ asked_from (first + 1) clients

-- clients behind those that have nothing to do answer what they ask for in order
abbrev InOrder : List Client → List Client → Moment → Type 0
InOrder before rest m = IsRest [] m (record { clients = before ++ rest }) (run_events (asked_from (length before) rest) m)

module _ (rest : List Client) (resting : All Rests rest) (go_on : (before : List Client) (m : Moment) → position has_work before ≡ None → All Rests before → InOrder before rest m) where
  in_order_one : (asks : List (Option Statement)) (work : Client) (before : List Client) (m : Moment) → position has_work before ≡ None → All Rests before → Rests work → work.asks ≡ asks → All IsAskFormed asks
      → IsRest [] m (record { clients = before ++ work ∷ rest }) (run_events (asked_by (length before) asks ++ asked_from (length before + 1) rest) m)
  in_order_one [] work before m idle rested none are formed =
      let more = before ++ work ∷ [] in
      let no_work : has_work work ≡ false = ap₂ (λ (l : Plan) (a : List (Option Statement)). has_more l a) none are in
      let clients : more ++ rest ≡ before ++ work ∷ rest = append_assoc before (work ∷ []) rest in
      let number : length more ≡ length before + 1 = length-append before (work ∷ []) in
      subst₂ (λ (l : List Client) (n : ℕ). IsRest [] m (record { clients = l }) (run_events (asked_from n rest) m)) clients number
      (go_on more m (none-more has_work before work idle no_work) (All-push Rests before work rested none))
  in_order_one (asked ∷ asks) work before m idle rested none are formed =
      let is = answered before rest idle m work asked asks rested resting none are (All-head IsAskFormed asked asks formed) in
      is.leads _ (in_order_one asks is.after before (behind (request_events (record { client = length before; statement = asked }) m.history) m) idle rested is.rests is.asks_are (All-tail IsAskFormed asked asks formed))

abbrev pub AsksFormed : Client → Type 0
AsksFormed work = All IsAskFormed work.asks

in_order_from : (rest before : List Client) (m : Moment) → All Rests rest → All AsksFormed rest → position has_work before ≡ None → All Rests before → InOrder before rest m
in_order_from [] before m resting formed idle rested =
    subst (λ (clients : List Client). IsRest [] m (record { clients = clients }) []) (sym (append-nil before)) (rest_none m (record { clients = before }) idle)
in_order_from (work ∷ rest) before m resting formed idle rested =
    let others = All-tail Rests work rest resting in
    let asks = All-tail AsksFormed work rest formed in
    in_order_one rest others (λ more n none all. in_order_from rest more n others asks none all) work.asks work before m idle rested (All-head Rests work rest resting) refl (All-head AsksFormed work rest formed)

-- what the clients of a script ask for
one_client : (script : List ℕ) (client : ℕ) (pieces : List Piece) → asked_by client (map (λ (request : Request). request.statement) (requests_in script (of_client pieces client))) ≡ requests_in script (of_client pieces client)
one_client script client [] = refl
one_client script client (piece ∷ pieces) =
    let others = of_client pieces client in
    let asked : Request → Option Statement = λ (request : Request). request.statement in
    let kept : Bool → List Piece = λ (b : Bool). cond b (piece ∷ others) others in
    elim (piece.client == client) as (λ (b : Bool). (piece.client == client) ≡ b → asked_by client (map asked (requests_in script (kept b))) ≡ requests_in script (kept b)) [
      | true ↦ λ same.
          ap₂ (λ (n : ℕ) (l : List Request). (record { client = n; statement = (request_of script piece).statement }) ∷ l) (sym (eqb-true piece.client client same)) (one_client script client pieces)
      | false ↦ λ other. one_client script client pieces
    ] refl

pub in_clients : (script : List ℕ) (first count : ℕ)
    → asked_from first (map (λ (client : ℕ). asking (asks_in script client)) (range_with_len first count)) ≡ requests_in script (flat_map (of_client (pieces_of script)) (range_with_len first count))
in_clients script first zero = refl
in_clients script first (suc count) =
    let pieces = pieces_of script in
    ap₂ (λ (xs ys : List Request). xs ++ ys) (one_client script first pieces) (in_clients script (first + 1) count)
    ∙ sym (map-append (request_of script) (of_client pieces first) (flat_map (of_client pieces) (range_with_len (first + 1) count)))

-- the events of a run with no list of turns are those of its requests, answered in order
pub trace_in_order : (script : List ℕ) (history : History) → IsTrace script [] history (run_events (requests_of script) (begins history))
unfolding requests_of from_client control_in
trace_in_order script history =
    let begin : ℕ → Client = λ (client : ℕ). asking (asks_in script client) in
    let clients = map begin (range_with_len 0 16) in
    subst (λ (requests : List Request). IsRest [] (begins history) (record { clients = clients }) (run_events requests (begins history))) (in_clients script 0 16)
    (in_order_from clients [] (begins history)
    (All-map Rests begin (range_with_len 0 16) (λ k client within. refl))
    (All-map AsksFormed begin (range_with_len 0 16) (λ k client within. asks_formed script (get_or (range_with_len 0 16) k client))) refl (All-nil Rests))

pub trace_is_run : (script : List ℕ) (history : History) (events : List Event) → IsTrace script [] history events → events ≡ run_events (requests_of script) (begins history)
trace_is_run script history events trace = rest_unique [] (begins history) (control_in script) events (run_events (requests_of script) (begins history)) trace (trace_in_order script history)
