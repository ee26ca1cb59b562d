-- The events of a run with a list of turns: that there are some, and no others.
use Rattle.std.proofs.Common.{◌≡◌, ◌⊎◌, inl, inr, ℕ, zero, suc, ◌+◌, ◌-◌, ◌<◌, ◌≤◌, true, List, [], ◌∷◌, ◌++◌, length, replicate, Option, None, Some, Result, Ok, Err, slice_get, refl, sym, ap, ap₂, subst, subst₂, ◌∙◌, arith, append_assoc}
use Rattle.std.specs.List.{flat_map}
use Rattle.std.proofs.lemmas.Bool.{cases_lt}
use Rattle.std.proofs.lemmas.List.{append-nil, length-append, replicate-append-replicate}
use Rattle.chv_ast.specs.declared.refusal.Refusal.{Refusal}
use Rattle.chv_ast.specs.declared.statement.Statement.{Statement}
use Rattle.chv_history.specs.Events.{Event, Plan, Moment, behind}
use Rattle.chv_history.specs.Machine.{Turn, Of, Next, Client, Control, act_control, act_events, answer_in, behind_answer, client_of, control_by, deliveries_left, events_by, first_with_work, has_more, turns_control, turns_events}
use Rattle.chv_history.specs.Tasks.{Task, Bring, Make, TellParts, TellRows}
use Rattle.chv_history.specs.Traces.{IsRest}
use Rattle.chv_history.proofs.LeftLemmas.{behind-append}
use Rattle.chv_history.proofs.TurnLemmas.{acts_delivery, acts_none, acts_taken, behind_made, client_of-Next, client_of-none, client_of-there, count-set, first_works, with_client}

-- turns, and then others
pub turns_events-append : (xs ys : List Turn) (m : Moment) (control : Control)
    → turns_events (xs ++ ys) m control ≡ turns_events xs m control ++ turns_events ys (behind (turns_events xs m control) m) (turns_control xs m control)
turns_events-append [] ys m control = refl
turns_events-append (turn ∷ xs) ys m control =
    let events = act_events turn m.history control in
    let next = behind events m in
    let after = act_control turn m.history control in
    let some = turns_events xs next after in
    let last = turns_control xs next after in
    ap (λ (l : List Event). events ++ l) (turns_events-append xs ys next after)
    ∙ sym (append_assoc events some (turns_events ys (behind some next) last))
    ∙ ap (λ (n : Moment). (events ++ some) ++ turns_events ys n last) (sym (behind-append events some m))

pub turns_control-append : (xs ys : List Turn) (m : Moment) (control : Control)
    → turns_control (xs ++ ys) m control ≡ turns_control ys (behind (turns_events xs m control) m) (turns_control xs m control)
turns_control-append [] ys m control = refl
turns_control-append (turn ∷ xs) ys m control =
    let events = act_events turn m.history control in
    let next = behind events m in
    let after = act_control turn m.history control in
    turns_control-append xs ys next after ∙ ap (λ (n : Moment). turns_control ys n (turns_control xs next after)) (sym (behind-append events (turns_events xs next after) m))

-- where no client has work, the next turn does nothing, and so do all that follow
module _ (m : Moment) (control : Control) (none : first_with_work control ≡ None) where
  pub nothing_next : (rest : ℕ) → (turns_events (replicate rest Next) m control ≡ []) × (turns_control (replicate rest Next) m control ≡ control)
  nothing_next zero = (refl, refl)
  nothing_next (suc rest) =
      let acts = acts_none Next m.history control (client_of-none control none) in
      let more = nothing_next rest in
      let next : behind (act_events Next m.history control) m ≡ m = ap (λ (events : List Event). behind events m) acts.events_are in (
        ap₂ (λ (xs ys : List Event). xs ++ ys) acts.events_are (ap₂ (λ (n : Moment) (c : Control). turns_events (replicate rest Next) n c) next acts.control_is ∙ more.0),
        ap₂ (λ (n : Moment) (c : Control). turns_control (replicate rest Next) n c) next acts.control_is ∙ more.1,
      )

-- where they have come to an end, further turns add no event
ended_more : (turns more : List Turn) (rest : ℕ) (m : Moment) (control : Control) → more ≡ replicate rest Next → first_with_work (turns_control turns m control) ≡ None → turns_events (turns ++ more) m control ≡ turns_events turns m control
ended_more turns more rest m control are none =
    let events = turns_events turns m control in
    let last = turns_control turns m control in
    turns_events-append turns more m control
    ∙ ap (λ (l : List Event). events ++ l) (ap (λ (t : List Turn). turns_events t (behind events m) last) are ∙ (nothing_next (behind events m) last none rest).0)
    ∙ append-nil events

longer : (turns : List Turn) (few more : ℕ) → turns ++ replicate (few + more) Next ≡ (turns ++ replicate few Next) ++ replicate more Next
longer turns few more = ap (λ (l : List Turn). turns ++ l) (sym (replicate-append-replicate few more Next)) ∙ sym (append_assoc turns (replicate few Next) (replicate more Next))

same_rest : (turns : List Turn) (m : Moment) (control : Control) (few many : ℕ) → few ≤ many → first_with_work (turns_control (turns ++ replicate few Next) m control) ≡ None
    → turns_events (turns ++ replicate many Next) m control ≡ turns_events (turns ++ replicate few Next) m control
same_rest turns m control few many less none =
    let same : few + (many - few) ≡ many = omega (arith, less) in
    ap (λ (t : List Turn). turns_events t m control) (ap (λ (n : ℕ). turns ++ replicate n Next) (sym same) ∙ longer turns few (many - few))
    ∙ ended_more (turns ++ replicate few Next) (replicate (many - few) Next) (many - few) m control refl none

-- there are no other events
pub rest_unique : (turns : List Turn) (m : Moment) (control : Control) (a b : List Event) → IsRest turns m control a → IsRest turns m control b → a ≡ b
rest_unique turns m control a b one two =
    elim (cases_lt one.rest two.rest) as (λ _. a ≡ b) [
      | inl less ↦ one.is ∙ sym (same_rest turns m control one.rest two.rest (omega (arith, less)) one.ends) ∙ sym two.is
      | inr more ↦ one.is ∙ same_rest turns m control two.rest one.rest more two.ends ∙ sym two.is
    ]

-- behind a turn of the list, those of the rest
pub rest_turn : (turn : Turn) (turns : List Turn) (m : Moment) (control : Control) (later : List Event) → IsRest turns (behind (act_events turn m.history control) m) (act_control turn m.history control) later
    → IsRest (turn ∷ turns) m control (act_events turn m.history control ++ later)
rest_turn turn turns m control later rest = record { rest = rest.rest; is = ap (λ (l : List Event). act_events turn m.history control ++ l) rest.is; ends = rest.ends }

-- behind the list, where no client has work, none
pub rest_none : (m : Moment) (control : Control) → first_with_work control ≡ None → IsRest [] m control []
rest_none m control none = record { rest = 0; is = refl; ends = none }

-- the next turn's, and those of the rest behind it
pub rest_next : (m : Moment) (control : Control) (later : List Event) → IsRest [] (behind (act_events Next m.history control) m) (act_control Next m.history control) later → IsRest [] m control (act_events Next m.history control ++ later)
rest_next m control later rest = record { rest = suc rest.rest; is = ap (λ (l : List Event). act_events Next m.history control ++ l) rest.is; ends = rest.ends }

-- the next turn is that of the first client with work
next_events : (client : ℕ) (m : Moment) (control : Control) → first_with_work control ≡ Some client → act_events Next m.history control ≡ act_events (Of client) m.history control
next_events client m control first = ap (λ (found : Option (ℕ × Client)). events_by found m.history control) (client_of-Next client control first)

next_control : (client : ℕ) (m : Moment) (control : Control) → first_with_work control ≡ Some client → act_control Next m.history control ≡ act_control (Of client) m.history control
next_control client m control first = ap (λ (found : Option (ℕ × Client)). control_by found m.history control) (client_of-Next client control first)

-- so are the rest's: those of its turn, and those behind it
pub rest_first : (client : ℕ) (m : Moment) (control : Control) (later : List Event) → first_with_work control ≡ Some client
    → IsRest [] (behind (act_events (Of client) m.history control) m) (act_control (Of client) m.history control) later → IsRest [] m control (act_events (Of client) m.history control ++ later)
rest_first client m control later first rest =
    let events : act_events (Of client) m.history control ≡ act_events Next m.history control = sym (next_events client m control first) in
    let after : act_control (Of client) m.history control ≡ act_control Next m.history control = sym (next_control client m control first) in
    subst (λ (es : List Event). IsRest [] m control (es ++ later)) (sym events)
    (rest_next m control later (subst₂ (λ (es : List Event) (c : Control). IsRest [] (behind es m) c later) events after rest))

-- the other way round: what is left of the rest behind a turn of the list
pub record GoesOn (turns : List Turn) (events : List Event) (m : Moment) (control : Control) (all : List Event) : Type 0 where
  pub later : List Event
  pub split : all ≡ events ++ later
  pub rest : IsRest turns (behind events m) control later

pub turn_goes_on : (turn : Turn) (turns : List Turn) (m : Moment) (control : Control) (all : List Event) → IsRest (turn ∷ turns) m control all
    → GoesOn turns (act_events turn m.history control) m (act_control turn m.history control) all
turn_goes_on turn turns m control all rest =
    let next = behind (act_events turn m.history control) m in
    let after = act_control turn m.history control in
    record { later = turns_events (turns ++ replicate rest.rest Next) next after; split = rest.is; rest = record { rest = rest.rest; is = refl; ends = rest.ends } }

-- and behind that of the first client with work
next_goes_on : (rest : ℕ) (client : ℕ) (m : Moment) (control : Control) (all : List Event) → first_with_work control ≡ Some client → all ≡ turns_events (replicate rest Next) m control
    → first_with_work (turns_control (replicate rest Next) m control) ≡ None → GoesOn [] (act_events Next m.history control) m (act_control Next m.history control) all
next_goes_on zero client m control all first is ends = absurd (cc (first, ends))
next_goes_on (suc rest) client m control all first is ends =
    let next = behind (act_events Next m.history control) m in
    let after = act_control Next m.history control in
    record { later = turns_events (replicate rest Next) next after; split = is; rest = record { rest = rest; is = refl; ends = ends } }

pub first_goes_on : (client : ℕ) (m : Moment) (control : Control) (all : List Event) → first_with_work control ≡ Some client → IsRest [] m control all
    → GoesOn [] (act_events (Of client) m.history control) m (act_control (Of client) m.history control) all
first_goes_on client m control all first rest =
    subst₂ (λ (es : List Event) (c : Control). GoesOn [] es m c all) (next_events client m control first) (next_control client m control first) (next_goes_on rest.rest client m control all first rest.is rest.ends)

-- where no client has work, none is left
pub none_goes_on : (m : Moment) (control : Control) (all : List Event) → first_with_work control ≡ None → IsRest [] m control all → all ≡ []
none_goes_on m control all none rest = rest_unique [] m control all [] rest (rest_none m control none)

-- how many statements all clients have left
abbrev statements_left : Control → List (Option Statement)
statements_left control = flat_map (λ (work : Client). work.asks) control.clients

-- the next turns come to an end
abbrev Ends : Moment → Control → Type 0
Ends m control = (rest : ℕ) × (first_with_work (turns_control (replicate rest Next) m control) ≡ None)

ends_next : (m : Moment) (control : Control) → Ends (behind (act_events Next m.history control) m) (act_control Next m.history control) → Ends m control
ends_next m control ends = (suc ends.0, ends.1)

-- a client's turn leaves fewer statements, or as many and fewer deliveries
record IsLess (after before : Control) : Type 0 where
  no_more : length (statements_left after) ≤ length (statements_left before)
  less : (length (statements_left after) < length (statements_left before)) ⊎ (length (deliveries_left after) < length (deliveries_left before))

module _ (control : Control) (client : ℕ) (old new : Client) (at : slice_get control.clients client ≡ Some old) where
  statements-set : length (statements_left (with_client control client new)) + length old.asks ≡ length (statements_left control) + length new.asks
  statements-set = count-set (λ (work : Client). work.asks) length length-append control.clients client old new at

  deliveries-set : length (deliveries_left (with_client control client new)) + length old.left ≡ length (deliveries_left control) + length new.left
  deliveries-set = count-set (λ (work : Client). work.left) length length-append control.clients client old new at

-- a statement is taken
asks_behind : (asks : List (Option Statement)) (task : Result Task Refusal) → (behind_answer asks task).asks ≡ asks
asks_behind asks (Ok (Bring plan)) = refl
asks_behind asks (Ok (Make accepted)) = refl
asks_behind asks (Ok (TellRows query)) = refl
asks_behind asks (Ok (TellParts table def)) = refl
asks_behind asks (Err refuses) = refl

-- a client that has work goes on
less_turn : (m : Moment) (control : Control) (client : ℕ) (work : Client) (left : Plan) (asks : List (Option Statement)) → client_of Next control ≡ Some (client, work) → slice_get control.clients client ≡ Some work
    → work.left ≡ left → work.asks ≡ asks → has_more left asks ≡ true → IsLess (act_control Next m.history control) control
less_turn m control client work (d ∷ left) asks is at left_is asks_are some =
    let acts = acts_delivery Next m.history control client work is d left left_is in
    let new = behind_made m.history d left work in
    subst (λ (c : Control). IsLess c control) (sym acts.control_is)
    (record {
      no_more = omega (arith, statements-set control client work new at);
      less = inr (omega (arith, deliveries-set control client work new at, ap length left_is));
    })
less_turn m control client work [] (asked ∷ asks) is at left_is asks_are some =
    let task = answer_in m.history control asked in
    let acts = acts_taken Next m.history control client work is left_is asked asks asks_are task refl in
    let new = behind_answer asks task in
    let fewer : length (statements_left (with_client control client new)) < length (statements_left control) = omega (arith, statements-set control client work new at, ap length asks_are, ap length (asks_behind asks task)) in
    subst (λ (c : Control). IsLess c control) (sym acts.control_is) (record { no_more = omega (arith, fewer); less = inl fewer })
less_turn m control client work [] [] is at left_is asks_are some = absurd (cc some)

less_next : (m : Moment) (control : Control) (client : ℕ) → first_with_work control ≡ Some client → IsLess (act_control Next m.history control) control
less_next m control client first =
    let there = first_works control client first in
    less_turn m control client there.0 there.0.left there.0.asks (client_of-Next client control first ∙ client_of-there client control there.0 there.1) there.1 refl refl there.2

-- where they end with fewer statements, they end with so many, since deliveries come to an end
module _ (statements : ℕ) (fewer : (m : Moment) (control : Control) → length (statements_left control) < statements → Ends m control) where
  ends_by : (deliveries : ℕ) (m : Moment) (control : Control) (first : Option ℕ) → first_with_work control ≡ first → length (statements_left control) ≤ statements → length (deliveries_left control) < deliveries → Ends m control
  ends_by zero m control first is few less = absurd (omega (arith, less))
  ends_by (suc deliveries) m control None is few less = (0, is)
  ends_by (suc deliveries) m control (Some client) is few less =
      let next = behind (act_events Next m.history control) m in
      let after = act_control Next m.history control in
      let measure = less_next m control client is in
      ends_next m control
      (elim measure.less as (λ _. Ends next after) [
        | inl statement ↦ fewer next after (omega (arith, statement, few))
        | inr delivery ↦ ends_by deliveries next after (first_with_work after) refl (omega (arith, measure.no_more, few)) (omega (arith, delivery, less))
      ])

ends_all : (statements : ℕ) (m : Moment) (control : Control) → length (statements_left control) < statements → Ends m control
ends_all zero m control less = absurd (omega (arith, less))
ends_all (suc statements) m control less = ends_by statements (ends_all statements) (suc (length (deliveries_left control))) m control (first_with_work control) refl (omega (arith, less)) (omega arith)

-- there are events
pub rest_exists : (turns : List Turn) (m : Moment) (control : Control) → (events : List Event) × IsRest turns m control events
rest_exists turns m control =
    let next = behind (turns_events turns m control) m in
    let after = turns_control turns m control in
    let ends = ends_all (suc (length (statements_left after))) next after (omega arith) in
    let all = turns ++ replicate ends.0 Next in (
      turns_events all m control,
      record {
        rest = ends.0;
        is = refl;
        ends = subst (λ (c : Control). first_with_work c ≡ None) (sym (turns_control-append turns (replicate ends.0 Next) m control)) ends.1;
      },
    )
