-- What a turn does, case by case.
use Rattle.std.proofs.Common.{◌≡◌, ℕ, zero, suc, ◌+◌, ◌-◌, Bool, true, false, nat_eq, List, [], ◌∷◌, ◌++◌, length, Option, None, Some, Result, Ok, Err, slice_get, slice_set, get_or, refl, sym, ap, subst, ◌∙◌, arith}
use Rattle.std.specs.List.{filter, flat_map}
use Rattle.std.proofs.lemmas.List.{length-append}
use Rattle.std.proofs.lemmas.List.Elements.{filter-append}
use Rattle.std.proofs.lemmas.List.Quantifiers.{position-Some}
use Rattle.std.proofs.lemmas.Option.{slice_get-get_or}
use Rattle.chv_ast.specs.declared.refusal.Refusal.{Refusal}
use Rattle.chv_ast.specs.declared.statement.Statement.{Statement}
use Rattle.chv_catalog.specs.declared.table_def.TableDef.{TableDef}
use Rattle.chv_part.specs.Forms.{form_of}
use Rattle.chv_query.specs.Accepted.{Accepted}
use Rattle.chv_query.specs.Plans.{Delivery}
use Rattle.chv_query.specs.Queries.{Asked, divides}
use Rattle.chv_text.specs.Replies.{insert_line, ok_line, refused_line}
use Rattle.chv_history.specs.Events.{Event, Created, Replied, Plan}
use Rattle.chv_history.specs.Histories.{History, book_of}
use Rattle.chv_history.specs.Machine.{Turn, Of, Next, Client, Control, act_control, act_events, answer_in, asking, behind_answer, behind_delivery, behind_statement, client_at, client_of, control_by, deliveries_left, end_events, events_by, first_with_work, has_work, numbered, statement_events, taken_events, turn_events, written_by}
use Rattle.chv_history.specs.Runs.{answer_events, delivery_event}
use Rattle.chv_history.specs.Tasks.{Task, Bring, Make, TellParts, TellRows, deliveries_to}
use Rattle.chv_history.specs.Told.{parts_text, query_text, table_rows}

-- what all clients have to do, where one has this
abbrev pub with_client : Control → ℕ → Client → Control
with_client control client work = record { clients = slice_set control.clients client work }

-- what a client has to do behind an insert that is planned, and behind a delivery
abbrev pub bringing : List (Option Statement) → Plan → Client
bringing asks plan = record { asks = asks; plan = plan; left = plan; written = 0 }

abbrev pub behind_made : History → Delivery → Plan → Client → Client
behind_made history d left work = record work { left = left; written = work.written + written_by history d }

-- an item that is put where it stands
slice_set-back : {A : Type 0} (xs : List A) (k : ℕ) (x : A) → slice_get xs k ≡ Some x → slice_set xs k x ≡ xs
slice_set-back {A} [] k x is = absurd (cc is)
slice_set-back {A} (y ∷ xs) zero x is = let same : x ≡ y = cc is in ap (λ (a : A). a ∷ xs) same
slice_set-back {A} (y ∷ xs) (suc k) x is = ap (λ (l : List A). y ∷ l) (slice_set-back xs k x is)

-- whose turn it is has something to do at that number
numbered_is : (client number : ℕ) (there : Option Client) (work : Client) → numbered client there ≡ Some (number, work) → (client ≡ number) × (there ≡ Some work)
numbered_is client number None work is = absurd (cc is)
numbered_is client number (Some found) work is =
    let pair : ◌≡◌ {A = ℕ × Client} (client, found) (number, work) = cc is in
    (ap (λ (p : ℕ × Client). p.0) pair, ap (λ (p : ℕ × Client). Some p.1) pair)

whose_at : (number : Option ℕ) (control : Control) (client : ℕ) (work : Client) → client_at number control ≡ Some (client, work) → slice_get control.clients client ≡ Some work
whose_at None control client work is = absurd (cc is)
whose_at (Some number) control client work is =
    let at = numbered_is number client (slice_get control.clients number) work is in
    subst (λ (n : ℕ). slice_get control.clients n ≡ Some work) at.0 at.1

pub whose : (turn : Turn) (control : Control) (client : ℕ) (work : Client) → client_of turn control ≡ Some (client, work) → slice_get control.clients client ≡ Some work
whose (Of number) control client work is = whose_at (Some number) control client work is
whose Next control client work is = whose_at (first_with_work control) control client work is

-- a turn is that of a client that there is
pub client_of-there : (client : ℕ) (control : Control) (work : Client) → slice_get control.clients client ≡ Some work → client_of (Of client) control ≡ Some (client, work)
client_of-there client control work is = ap (numbered client) is

-- the next turn is that of the first client with work
pub client_of-Next : (client : ℕ) (control : Control) → first_with_work control ≡ Some client → client_of Next control ≡ client_of (Of client) control
client_of-Next client control first = ap (λ (number : Option ℕ). client_at number control) first

pub client_of-none : (control : Control) → first_with_work control ≡ None → client_of Next control ≡ None
client_of-none control none = ap (λ (number : Option ℕ). client_at number control) none

-- the first client with work is there, and has work
pub first_works : (control : Control) (client : ℕ) → first_with_work control ≡ Some client → (work : Client) × (slice_get control.clients client ≡ Some work) × (has_work work ≡ true)
first_works control client first =
    let work = get_or control.clients client (asking []) in
    let at = position-Some has_work control.clients client (asking []) first in
    (work, slice_get-get_or control.clients client (asking []) at.0, at.1)

-- with nothing to do, a client keeps what it has to do
with_client-back : (control : Control) (client : ℕ) (work : Client) → slice_get control.clients client ≡ Some work → with_client control client work ≡ control
with_client-back control client work is = ap (λ (clients : List Client). record { clients = clients }) (slice_set-back control.clients client work is)

-- an answer that brings nothing
abbrev pub BringsNothing : Result Task Refusal → Type 0
BringsNothing (Ok (Bring plan)) = ⊥
BringsNothing (Ok (Make accepted)) = Unit {0}
BringsNothing (Ok (TellRows query)) = Unit {0}
BringsNothing (Ok (TellParts table def)) = Unit {0}
BringsNothing (Err refuses) = Unit {0}

-- a turn, in a history, with what all clients have to do
module _ (turn : Turn) (history : History) (control : Control) where
  -- what a turn does: these events, and this is what is to do behind it
  pub record Acts (events : List Event) (after : Control) : Type 0 where
    pub events_are : act_events turn history control ≡ events
    pub control_is : act_control turn history control ≡ after

  pub acts_by : (found : Option (ℕ × Client)) → client_of turn control ≡ found → Acts (events_by found history control) (control_by found history control)
  acts_by found is = record {
    events_are = ap (λ (f : Option (ℕ × Client)). events_by f history control) is;
    control_is = ap (λ (f : Option (ℕ × Client)). control_by f history control) is;
  }

  -- where it is no client's, nothing is done
  pub acts_none : client_of turn control ≡ None → Acts [] control
  acts_none is = acts_by None is

  -- the turn of a client
  module _ (client : ℕ) (work : Client) (is : client_of turn control ≡ Some (client, work)) where
    abbrev answer : Option Statement → Result Task Refusal
    answer = answer_in history control

    acts_left : (left : Plan) → work.left ≡ left → Acts (turn_events client answer left work history) (with_client control client (behind_delivery answer (written_by history) left work))
    acts_left left left_is =
        let acts = acts_by (Some (client, work)) is in
        record {
          events_are = acts.events_are ∙ ap (λ (l : Plan). turn_events client answer l work history) left_is;
          control_is = acts.control_is ∙ ap (λ (l : Plan). with_client control client (behind_delivery answer (written_by history) l work)) left_is;
        }

    -- a delivery is left: the first is made, and with the last one the insert is acknowledged
    pub acts_delivery : (d : Delivery) (left : Plan) → work.left ≡ d ∷ left
        → Acts (delivery_event d ∷ end_events client work.plan (work.written + written_by history d) left) (with_client control client (behind_made history d left work))
    acts_delivery d left is_left = acts_left (d ∷ left) is_left

    pub acts_first : (d next : Delivery) (left : Plan) → work.left ≡ d ∷ (next ∷ left) → Acts (delivery_event d ∷ []) (with_client control client (behind_made history d (next ∷ left) work))
    acts_first d next left is_left = acts_left (d ∷ (next ∷ left)) is_left

    pub acts_last : (d : Delivery) → work.left ≡ d ∷ []
        → Acts (delivery_event d ∷ (Replied (insert_line client (work.written + written_by history d) (length work.plan - (work.written + written_by history d))) (work.plan ∷ []) false ∷ []))
        (with_client control client (behind_made history d [] work))
    acts_last d is_left = acts_left (d ∷ []) is_left

    -- none is left
    module _ (none : work.left ≡ []) where
      acts_asks : (asks : List (Option Statement)) → work.asks ≡ asks → Acts (statement_events client answer asks history) (with_client control client (behind_statement answer asks work))
      acts_asks asks asks_are =
          let acts = acts_left [] none in
          record {
            events_are = acts.events_are ∙ ap (λ (a : List (Option Statement)). statement_events client answer a history) asks_are;
            control_is = acts.control_is ∙ ap (λ (a : List (Option Statement)). with_client control client (behind_statement answer a work)) asks_are;
          }

      -- and no statement either: nothing is done
      pub acts_idle : work.asks ≡ [] → Acts [] control
      acts_idle asks_are =
          let acts = acts_asks [] asks_are in
          record { events_are = acts.events_are; control_is = acts.control_is ∙ with_client-back control client work (whose turn control client work is) }

      -- a statement is taken
      module _ (asked : Option Statement) (asks : List (Option Statement)) (asks_are : work.asks ≡ asked ∷ asks) where
        pub acts_taken : (task : Result Task Refusal) → answer asked ≡ task → Acts (taken_events client task history) (with_client control client (behind_answer asks task))
        acts_taken task task_is =
            let acts = acts_asks (asked ∷ asks) asks_are in
            record {
              events_are = acts.events_are ∙ ap (λ (t : Result Task Refusal). taken_events client t history) task_is;
              control_is = acts.control_is ∙ ap (λ (t : Result Task Refusal). with_client control client (behind_answer asks t)) task_is;
            }

        -- an insert is planned, and nothing is said
        pub acts_planned : (plan : Plan) → answer asked ≡ Ok (Bring plan) → Acts [] (with_client control client (bringing asks plan))
        acts_planned plan task_is = acts_taken (Ok (Bring plan)) task_is

        -- a table or a view is made
        pub acts_made : (accepted : Accepted) → answer asked ≡ Ok (Make accepted) → Acts (Created accepted ∷ (Replied (ok_line client) [] false ∷ [])) (with_client control client (asking asks))
        acts_made accepted task_is = acts_taken (Ok (Make accepted)) task_is

        -- the rows of a query are told
        pub acts_rows : (query : Asked) → answer asked ≡ Ok (TellRows query)
            → Acts (Replied (query_text client query (table_rows (form_of query.def) (book_of history query.table))) [] (divides query (table_rows (form_of query.def) (book_of history query.table))) ∷ [])
            (with_client control client (asking asks))
        acts_rows query task_is = acts_taken (Ok (TellRows query)) task_is

        -- the parts of a table are told
        pub acts_parts : (table : ℕ) (def : TableDef) → answer asked ≡ Ok (TellParts table def)
            → Acts (Replied (parts_text client (form_of def) (book_of history table)) [] false ∷ []) (with_client control client (asking asks))
        acts_parts table def task_is = acts_taken (Ok (TellParts table def)) task_is

        -- a statement is refused
        pub acts_refused : (refuses : Refusal) → answer asked ≡ Err refuses → Acts (Replied (refused_line client refuses) [] true ∷ []) (with_client control client (asking asks))
        acts_refused refuses task_is = acts_taken (Err refuses) task_is

        -- so it is answered, where it brings nothing
        pub acts_answered : (task : Result Task Refusal) → answer asked ≡ task → BringsNothing task → Acts (answer_events client task history) (with_client control client (asking asks))
        acts_answered (Ok (Bring plan)) task_is nothing = absurd nothing
        acts_answered (Ok (Make accepted)) task_is nothing = acts_made accepted task_is
        acts_answered (Ok (TellRows query)) task_is nothing = acts_rows query task_is
        acts_answered (Ok (TellParts table def)) task_is nothing = acts_parts table def task_is
        acts_answered (Err refuses) task_is nothing = acts_refused refuses task_is

-- what holds of each way that a turn may go holds of the turn
module _ (turn : Turn) (history : History) (control : Control) (Holds : List Event → Control → Type 0) where
  -- nothing is done
  abbrev pub Idle : Type 0
  Idle = Holds [] control

  -- a delivery is made
  abbrev pub Delivers : Type 0
  Delivers =
      (client : ℕ) (work : Client) (d : Delivery) (left : Plan) → slice_get control.clients client ≡ Some work → work.left ≡ d ∷ left
      → Holds (delivery_event d ∷ end_events client work.plan (work.written + written_by history d) left) (with_client control client (behind_made history d left work))

  -- an insert is planned
  abbrev pub Plans : Type 0
  Plans =
      (client : ℕ) (work : Client) (asked : Option Statement) (asks : List (Option Statement)) (plan : Plan) → slice_get control.clients client ≡ Some work → work.left ≡ [] → work.asks ≡ asked ∷ asks
      → answer_in history control asked ≡ Ok (Bring plan) → Holds [] (with_client control client (bringing asks plan))

  -- each other statement is answered
  abbrev pub Answers : Type 0
  Answers =
      (client : ℕ) (work : Client) (asked : Option Statement) (asks : List (Option Statement)) (task : Result Task Refusal) → slice_get control.clients client ≡ Some work → work.left ≡ [] → work.asks ≡ asked ∷ asks
      → answer_in history control asked ≡ task → BringsNothing task → Holds (answer_events client task history) (with_client control client (asking asks))

  module _ (idle : Idle) (delivers : Delivers) (plans : Plans) (answers : Answers) where
    by_answer : (client : ℕ) (work : Client) (asked : Option Statement) (asks : List (Option Statement)) (task : Result Task Refusal) → slice_get control.clients client ≡ Some work → work.left ≡ []
        → work.asks ≡ asked ∷ asks → answer_in history control asked ≡ task → Holds (taken_events client task history) (with_client control client (behind_answer asks task))
    by_answer client work asked asks (Ok (Bring plan)) at none asks_are is = plans client work asked asks plan at none asks_are is
    by_answer client work asked asks (Ok (Make accepted)) at none asks_are is = answers client work asked asks (Ok (Make accepted)) at none asks_are is tt
    by_answer client work asked asks (Ok (TellRows query)) at none asks_are is = answers client work asked asks (Ok (TellRows query)) at none asks_are is tt
    by_answer client work asked asks (Ok (TellParts table def)) at none asks_are is = answers client work asked asks (Ok (TellParts table def)) at none asks_are is tt
    by_answer client work asked asks (Err refuses) at none asks_are is = answers client work asked asks (Err refuses) at none asks_are is tt

    by_asks : (client : ℕ) (work : Client) (asks : List (Option Statement)) → slice_get control.clients client ≡ Some work → work.left ≡ [] → work.asks ≡ asks
        → Holds (statement_events client (answer_in history control) asks history) (with_client control client (behind_statement (answer_in history control) asks work))
    by_asks client work [] at none asks_are = subst (Holds []) (sym (with_client-back control client work at)) idle
    by_asks client work (asked ∷ asks) at none asks_are = by_answer client work asked asks (answer_in history control asked) at none asks_are refl

    by_left : (client : ℕ) (work : Client) (left : Plan) → slice_get control.clients client ≡ Some work → work.left ≡ left
        → Holds (turn_events client (answer_in history control) left work history) (with_client control client (behind_delivery (answer_in history control) (written_by history) left work))
    by_left client work [] at none = by_asks client work work.asks at none refl
    by_left client work (d ∷ left) at is = delivers client work d left at is

    by_client : (found : Option (ℕ × Client)) → client_of turn control ≡ found → Holds (events_by found history control) (control_by found history control)
    by_client None is = idle
    by_client (Some (client, work)) is = by_left client work work.left (whose turn control client work is) refl

    pub turn_cases : Holds (act_events turn history control) (act_control turn history control)
    turn_cases = by_client (client_of turn control) refl

-- how much all clients have of something, where one has other than before
module _ {X : Type 0} (of : Client → List X) (count : List X → ℕ) (adds : (xs ys : List X) → count (xs ++ ys) ≡ count xs + count ys) where
  pub count-set : (clients : List Client) (client : ℕ) (old new : Client) → slice_get clients client ≡ Some old
      → count (flat_map of (slice_set clients client new)) + count (of old) ≡ count (flat_map of clients) + count (of new)
  count-set [] client old new is = absurd (cc is)
  count-set (first ∷ clients) zero old new is =
      let same : first ≡ old = cc is in
      omega (arith, adds (of new) (flat_map of clients), adds (of first) (flat_map of clients), ap (λ (w : Client). count (of w)) same)
  count-set (first ∷ clients) (suc client) old new is =
      omega (arith, adds (of first) (flat_map of clients), adds (of first) (flat_map of (slice_set clients client new)), count-set clients client old new is)

-- the deliveries to a table of two plans
pub deliveries_to-append : (table : ℕ) (xs ys : Plan) → deliveries_to table (xs ++ ys) ≡ deliveries_to table xs + deliveries_to table ys
deliveries_to-append table xs ys =
    let here : Delivery → Bool = λ (d : Delivery). nat_eq d.table table in
    ap length (filter-append here xs ys) ∙ length-append (filter here xs) (filter here ys)

pub deliveries_left-set : (table : ℕ) (control : Control) (client : ℕ) (old new : Client) → slice_get control.clients client ≡ Some old
    → deliveries_to table (deliveries_left (with_client control client new)) + deliveries_to table old.left ≡ deliveries_to table (deliveries_left control) + deliveries_to table new.left
deliveries_left-set table control client old new is = count-set (λ (work : Client). work.left) (deliveries_to table) (deliveries_to-append table) control.clients client old new is
