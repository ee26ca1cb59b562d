-- With no list of turns a run refuses what its requests refuse, answered one after the other.
use Rattle.std.proofs.Common.{◌≡◌, ℕ, zero, suc, ◌+◌, ◌≤◌, Bool, true, false, ◌||◌, List, [], ◌∷◌, ◌++◌, length, get_or, map, replicate, Option, None, Some, Result, Ok, Err, IfOk, All, refl, sym, ap, ap₂, subst, ◌∙◌, arith, append_assoc}
use Rattle.std.specs.List.{position, range_with_len}
use Rattle.std.proofs.lemmas.List.{append-nil, length-append}
use Rattle.std.proofs.lemmas.List.Elements.{All-append, All-cons, All-head, All-map, All-nil, All-push, All-tail}
use Rattle.chv_ast.specs.declared.refusal.Refusal.{Refusal}
use Rattle.chv_ast.specs.declared.statement.Statement.{Statement}
use Rattle.chv_query.specs.Plans.{Delivery}
use Rattle.chv_query.proofs.RunLemmas.{none-more}
use Rattle.chv_history.specs.Events.{Plan}
use Rattle.chv_history.specs.Kept.{Kept, IsRefused, Refuses, entries_kept, kept_delivery, kept_plan, kept_task}
use Rattle.chv_history.specs.KeptTurns.{IsRefusedBy, IsStatementRefused, IsTurnRefused, RunRefuses, TurnsRefuse, answer_kept, kept_by, kept_statement, kept_taken, kept_turn, left_by, left_turns, written_kept}
use Rattle.chv_history.specs.Machine.{Next, Client, Control, asking, behind_answer, behind_delivery, behind_statement, client_of, first_with_work, has_more, has_work}
use Rattle.chv_history.specs.Script.{Request, from_client, requests_of}
use Rattle.chv_history.specs.Tasks.{Task, Bring, Make, TellParts, TellRows, task_of}
use Rattle.chv_history.specs.Traces.{asks_in, control_in}
use Rattle.chv_history.proofs.InOrderLemmas.{AsksFormed, Rests, asked_by, asked_from, in_clients, next_is, planned_none, put_is, rests_all}
use Rattle.chv_history.proofs.PlannedLemmas.{TaskBrings, task_brings}
use Rattle.chv_history.proofs.ScriptLemmas.{IsAskFormed, asks_formed}
use Rattle.chv_history.proofs.TurnLemmas.{bringing, client_of-none}

-- the next turns come to an end, and a statement is refused in one of them, or none
record Ends (kept : Kept) (control : Control) (refused : Bool) : Type 0 where
  rest : ℕ
  ends : first_with_work (left_turns (replicate rest Next) kept control) ≡ None
  refuses : TurnsRefuse (replicate rest Next) kept control refused

-- where no client has work, none is
none_refused : (rest : ℕ) (kept : Kept) (control : Control) (refused : Bool) → first_with_work control ≡ None → TurnsRefuse (replicate rest Next) kept control refused → refused ≡ false
none_refused zero kept control refused none refuses = refuses
none_refused (suc rest) kept control refused none refuses =
    let no_turn = client_of-none control none in
    let first : refuses.0 ≡ false = subst (λ (found : Option (ℕ × Client)). IsRefusedBy found kept control refuses.0) no_turn refuses.3 in
    let later : refuses.1 ≡ false =
    none_refused rest kept control refuses.1 none
    (subst (λ (found : Option (ℕ × Client)). TurnsRefuse (replicate rest Next) (kept_by found kept control) (left_by found kept control) refuses.1) no_turn refuses.4) in
    refuses.2 ∙ ap₂ (λ (a b : Bool). a || b) first later

-- a turn refuses a statement, or the rest behind it does
record GoesOn (Is : Bool → Type 0) (kept : Kept) (control : Control) (refused : Bool) : Type 0 where
  first : Bool
  later : Bool
  marks : refused ≡ (first || later)
  is : Is first
  rest : Ends kept control later

-- a turn that refuses nothing
silent : (Is : Bool → Type 0) (kept : Kept) (control : Control) (refused : Bool) → ((first : Bool) → Is first → first ≡ false) → GoesOn Is kept control refused → Ends kept control refused
silent Is kept control refused never on =
    subst (Ends kept control) (sym (on.marks ∙ ap (λ (b : Bool). b || on.later) (never on.first on.is))) on.rest

next_on : (rest : ℕ) (kept : Kept) (control : Control) (found : ℕ × Client) (refused : Bool) → client_of Next control ≡ Some found → first_with_work (left_turns (replicate rest Next) kept control) ≡ None
    → TurnsRefuse (replicate rest Next) kept control refused → GoesOn (IsRefusedBy (Some found) kept control) (kept_by (Some found) kept control) (left_by (Some found) kept control) refused
next_on zero kept control found refused is none refuses = absurd (cc (client_of-none control none, is))
next_on (suc rest) kept control found refused is none refuses =
    subst (λ (f : Option (ℕ × Client)). GoesOn (IsRefusedBy f kept control) (kept_by f kept control) (left_by f kept control) refused) is
    (record { first = refuses.0; later = refuses.1; marks = refuses.2; is = refuses.3; rest = record { rest = rest; ends = none; refuses = refuses.4 } })

-- clients in front of one have nothing to do
module _ (before rest : List Client) (idle : position has_work before ≡ None) where
  abbrev behind_idle : Client → Control
  behind_idle work = record { clients = before ++ work ∷ rest }

  abbrev answers : Kept → Client → Option Statement → Result Task Refusal
  answers kept work = answer_kept kept (behind_idle work)

  -- the client's turn is the next
  abbrev TurnOn : Kept → Client → Plan → Bool → Type 0
  TurnOn kept work left refused =
      GoesOn (IsTurnRefused (answers kept work) left work) (kept_turn (answers kept work) left work kept) (behind_idle (behind_delivery (answers kept work) (written_kept kept) left work)) refused

  turn_on : (kept : Kept) (work : Client) (left : Plan) (refused : Bool) → has_work work ≡ true → work.left ≡ left → Ends kept (behind_idle work) refused → TurnOn kept work left refused
  turn_on kept work left refused some is ends =
      let on = next_on ends.rest kept (behind_idle work) (length before, work) refused (next_is before rest idle work some) ends.ends ends.refuses in
      subst (λ (l : Plan). TurnOn kept work l refused) is
      (subst (λ (control : Control). GoesOn (IsTurnRefused (answers kept work) work.left work) (kept_turn (answers kept work) work.left work kept) control refused)
      (put_is before rest idle work (behind_delivery (answers kept work) (written_kept kept) work.left work)) on)

  -- a delivery refuses nothing, and neither do those that are left with it
  delivery_on : (kept : Kept) (work : Client) (d : Delivery) (left : Plan) (refused : Bool) → work.left ≡ d ∷ left → Ends kept (behind_idle work) refused
      → Ends (kept_delivery d kept) (behind_idle (record work { left = left; written = work.written + written_kept kept d })) refused
  delivery_on kept work d left refused is ends =
      silent (λ (first : Bool). first ≡ false) (kept_delivery d kept) (behind_idle (record work { left = left; written = work.written + written_kept kept d })) refused (λ first none. none)
      (turn_on kept work (d ∷ left) refused (ap (λ (l : Plan). has_more l work.asks) is) is ends)

  abbrev Delivered : Kept → Client → Bool → Type 0
  Delivered kept work refused = (after : Client) × Rests after × (after.asks ≡ work.asks) × Ends kept (behind_idle after) refused

  deliveries_on : (left : Plan) (d : Delivery) (kept : Kept) (work : Client) (refused : Bool) → work.left ≡ d ∷ left → Ends kept (behind_idle work) refused → Delivered (kept_plan (d ∷ left) kept) work refused
  deliveries_on [] d kept work refused is ends =
      (record work { left = []; written = work.written + written_kept kept d }, refl, refl, delivery_on kept work d [] refused is ends)
  deliveries_on (next ∷ left) d kept work refused is ends =
      let more : Client = record work { left = next ∷ left; written = work.written + written_kept kept d } in
      deliveries_on left next (kept_delivery d kept) more refused refl (delivery_on kept work d (next ∷ left) refused is ends)

  -- a statement is taken, and behind it the client has no delivery left
  record IsAnswered (kept : Kept) (task : Result Task Refusal) (asks : List (Option Statement)) (refused : Bool) : Type 0 where
    after : Client
    rests : Rests after
    asks_are : after.asks ≡ asks
    on : GoesOn (IsRefused task) (kept_task task kept) (behind_idle after) refused

  module _ (asks : List (Option Statement)) (refused : Bool) (kept : Kept) where
    abbrev TaskOn : Result Task Refusal → Type 0
    TaskOn task = GoesOn (IsRefused task) (kept_taken task kept) (behind_idle (behind_answer asks task)) refused

    planned_on : (plan : Plan) → 1 ≤ length plan → TaskOn (Ok (Bring plan)) → IsAnswered kept (Ok (Bring plan)) asks refused
    planned_on [] some on = absurd (omega (arith, some))
    planned_on (d ∷ plan) some on =
        let made = deliveries_on plan d kept (bringing asks (d ∷ plan)) on.later refl on.rest in
        record { after = made.0; rests = made.1; asks_are = made.2; on = record { first = on.first; later = on.later; marks = on.marks; is = on.is; rest = made.3 } }

    task_on : (task : Result Task Refusal) → IfOk task TaskBrings → TaskOn task → IsAnswered kept task asks refused
    task_on (Ok (Bring plan)) brings on = planned_on plan brings on
    task_on (Ok (Make accepted)) brings on = record { after = asking asks; rests = refl; asks_are = refl; on = on }
    task_on (Ok (TellRows query)) brings on = record { after = asking asks; rests = refl; asks_are = refl; on = on }
    task_on (Ok (TellParts table def)) brings on = record { after = asking asks; rests = refl; asks_are = refl; on = on }
    task_on (Err refuses) brings on = record { after = asking asks; rests = refl; asks_are = refl; on = on }

  asks_on : (kept : Kept) (work : Client) (asked : Option Statement) (asks : List (Option Statement)) (refused : Bool) → All Rests before → All Rests rest → Rests work → work.asks ≡ asked ∷ asks → IsAskFormed asked
      → Ends kept (behind_idle work) refused → IsAnswered kept (task_of kept.catalog (entries_kept kept) asked) asks refused
  asks_on kept work asked asks refused rested resting none are formed ends =
      let answer = answers kept work in
      let taken = turn_on kept work [] refused (ap₂ (λ (l : Plan) (a : List (Option Statement)). has_more l a) none are) none ends in
      let same : answer asked ≡ task_of kept.catalog (entries_kept kept) asked =
      ap (λ (entries : ℕ → ℕ). task_of kept.catalog entries asked)
      (planned_none (entries_kept kept) (behind_idle work) (rests_all (before ++ work ∷ rest) (All-append Rests before (work ∷ rest) rested (All-cons Rests work rest none resting)))) in
      task_on asks refused kept (task_of kept.catalog (entries_kept kept) asked) (task_brings kept.catalog (entries_kept kept) asked formed)
      (subst (TaskOn asks refused kept) same
      (subst (λ (a : List (Option Statement)). GoesOn (IsStatementRefused answer a) (kept_statement answer a kept) (behind_idle (behind_statement answer a work)) refused) are taken))

-- clients behind those that have nothing to do refuse what they ask for in order
abbrev InOrder : List Client → List Client → Type 0
InOrder before rest = (kept : Kept) (refused : Bool) → Ends kept (record { clients = before ++ rest }) refused → Refuses (asked_from (length before) rest) kept refused

module _ (rest : List Client) (resting : All Rests rest) (go_on : (before : List Client) → position has_work before ≡ None → All Rests before → InOrder before rest) where
  in_order_one : (asks : List (Option Statement)) (work : Client) (before : List Client) → position has_work before ≡ None → All Rests before → Rests work → work.asks ≡ asks → All IsAskFormed asks
      → (kept : Kept) (refused : Bool) → Ends kept (record { clients = before ++ work ∷ rest }) refused → Refuses (asked_by (length before) asks ++ asked_from (length before + 1) rest) kept refused
  in_order_one [] work before idle rested none are formed kept refused ends =
      let more = before ++ work ∷ [] in
      let no_work : has_work work ≡ false = ap₂ (λ (l : Plan) (a : List (Option Statement)). has_more l a) none are in
      let clients : before ++ work ∷ rest ≡ more ++ rest = sym (append_assoc before (work ∷ []) rest) in
      let number : length more ≡ length before + 1 = length-append before (work ∷ []) in
      subst (λ (n : ℕ). Refuses (asked_from n rest) kept refused) number
      (go_on more (none-more has_work before work idle no_work) (All-push Rests before work rested none) kept refused
      (subst (λ (l : List Client). Ends kept (record { clients = l }) refused) clients ends))
  in_order_one (asked ∷ asks) work before idle rested none are formed kept refused ends =
      let is = asks_on before rest idle kept work asked asks refused rested resting none are (All-head IsAskFormed asked asks formed) ends in (
        is.on.first,
        is.on.later,
        is.on.marks,
        is.on.is,
        in_order_one asks is.after before idle rested is.rests is.asks_are (All-tail IsAskFormed asked asks formed) (kept_task (task_of kept.catalog (entries_kept kept) asked) kept) is.on.later is.on.rest,
      )

in_order_from : (rest before : List Client) → All Rests rest → All AsksFormed rest → position has_work before ≡ None → All Rests before → InOrder before rest
in_order_from [] before resting formed idle rested = λ kept refused ends.
    none_refused ends.rest kept (record { clients = before ++ [] }) refused (ap (λ (l : List Client). first_with_work (record { clients = l })) (append-nil before) ∙ idle) ends.refuses
in_order_from (work ∷ rest) before resting formed idle rested =
    let others = All-tail Rests work rest resting in
    let asks = All-tail AsksFormed work rest formed in
    in_order_one rest others (λ more none all. in_order_from rest more others asks none all) work.asks work before idle rested (All-head Rests work rest resting) refl (All-head AsksFormed work rest formed)

-- a run with no list of turns refuses a statement where its requests do, answered in order
pub refuses_in_order : (script : List ℕ) (kept : Kept) (refused : Bool) → RunRefuses script [] kept refused → Refuses (requests_of script) kept refused
unfolding requests_of from_client control_in
refuses_in_order script kept refused run =
    let begin : ℕ → Client = λ (client : ℕ). asking (asks_in script client) in
    let numbers = range_with_len 0 16 in
    subst (λ (requests : List Request). Refuses requests kept refused) (in_clients script 0 16)
    (in_order_from (map begin numbers) []
    (All-map Rests begin numbers (λ k client within. refl))
    (All-map AsksFormed begin numbers (λ k client within. asks_formed script (get_or numbers k client))) refl (All-nil Rests) kept refused
    (record { rest = run.rest; ends = run.ends; refuses = run.refuses }))
