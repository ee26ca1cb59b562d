-- The run machine: what the clients still have to do, and what a turn does.
use Rattle.std.specs.Prelude.{ℕ, ◌+◌, ◌-◌, Bool, true, false, List, [], ◌∷◌, ◌++◌, length, slice_get, slice_set, Option, None, Some, Result, Ok}
use Rattle.std.specs.List.{flat_map, position}
use Rattle.chv_ast.specs.declared.refusal.Refusal.{Refusal}
use Rattle.chv_ast.specs.declared.statement.Statement.{Statement}
use Rattle.chv_query.specs.Accepted.{catalog_of}
use Rattle.chv_query.specs.Plans.{Delivery}
use Rattle.chv_text.specs.Replies.{insert_line}
use Rattle.chv_history.specs.Events.{Event, Plan, Replied, Moment, written_in, behind}
use Rattle.chv_history.specs.Histories.{History}
use Rattle.chv_history.specs.Runs.{answer_events, delivery_event, entries_in}
use Rattle.chv_history.specs.Tasks.{Task, Bring, deliveries_to, task_of}

-- a turn: of the client of a number, or of the first client that has something to do
pub data Turn : Type 0 where
  Of : ℕ → Turn
  Next : Turn

-- what a client still has to do: what it asks for, in order; and of the insert that it asked for last, the plan, the
-- deliveries that are left, and how many blocks of those that are made were written
pub record Client : Type 0 where
  pub asks : List (Option Statement)
  pub plan : Plan
  pub left : Plan
  pub written : ℕ

-- a client that asks for this, and has no insert under way
abbrev pub asking : List (Option Statement) → Client
asking asks = record { asks = asks; plan = []; left = []; written = 0 }

-- what a crash forgets: what each client still has to do, in the order of their numbers
pub record Control : Type 0 where
  pub clients : List Client

-- whether deliveries are left, or statements
abbrev pub has_more : Plan → List (Option Statement) → Bool
has_more (delivery ∷ left) asks = true
has_more [] (asked ∷ asks) = true
has_more [] [] = false

-- whether a client has something to do
abbrev pub has_work : Client → Bool
has_work work = has_more work.left work.asks

-- the number of the first client that has something to do
abbrev pub first_with_work : Control → Option ℕ
first_with_work control = position has_work control.clients

-- a client's number, and what it has to do, where the number is a client's
abbrev pub numbered : ℕ → Option Client → Option (ℕ × Client)
numbered client None = None
numbered client (Some work) = Some (client, work)

abbrev pub client_at : Option ℕ → Control → Option (ℕ × Client)
client_at None control = None
client_at (Some client) control = numbered client (slice_get control.clients client)

-- whose turn it is, where it is a client's
abbrev pub client_of : Turn → Control → Option (ℕ × Client)
client_of (Of client) control = client_at (Some client) control
client_of Next control = client_at (first_with_work control) control

-- the deliveries that all clients have left
abbrev pub deliveries_left : Control → Plan
deliveries_left control = flat_map (λ (work : Client). work.left) control.clients

-- how many entries a table has and will have, where it has so many and the deliveries that are left are all written
abbrev pub with_planned : (ℕ → ℕ) → Control → ℕ → ℕ
with_planned entries control table = entries table + deliveries_to table (deliveries_left control)

-- what a client has to do behind a statement that gets this answer: a planned insert's deliveries
abbrev pub behind_answer : List (Option Statement) → Result Task Refusal → Client
behind_answer asks (Ok (Bring plan)) = record { asks = asks; plan = plan; left = plan; written = 0 }
behind_answer asks other = asking asks

-- where no delivery is left: the next statement is taken
abbrev pub behind_statement : (Option Statement → Result Task Refusal) → List (Option Statement) → Client → Client
behind_statement answer [] work = work
behind_statement answer (asked ∷ asks) work = behind_answer asks (answer asked)

-- with these deliveries left: the first of them is made, of which so many blocks are written
abbrev pub behind_delivery : (Option Statement → Result Task Refusal) → (Delivery → ℕ) → Plan → Client → Client
behind_delivery answer wrote [] work = behind_statement answer work.asks work
behind_delivery answer wrote (delivery ∷ left) work = record work { left = left; written = work.written + wrote delivery }

-- what a client has to do behind its turn
abbrev pub behind_turn : (Option Statement → Result Task Refusal) → (Delivery → ℕ) → Client → Client
behind_turn answer wrote work = behind_delivery answer wrote work.left work

-- the events of a statement that gets this answer: where it is planned, none
abbrev pub taken_events : ℕ → Result Task Refusal → History → List Event
taken_events client (Ok (Bring plan)) history = []
taken_events client other history = answer_events client other history

-- where no delivery is left
abbrev pub statement_events : ℕ → (Option Statement → Result Task Refusal) → List (Option Statement) → History → List Event
statement_events client answer [] history = []
statement_events client answer (asked ∷ asks) history = taken_events client (answer asked) history

-- an insert of which no delivery is left is acknowledged, with the numbers of those that were written and skipped
abbrev pub end_events : ℕ → Plan → ℕ → Plan → List Event
end_events client plan written [] = Replied (insert_line client written (length plan - written)) (plan ∷ []) false ∷ []
end_events client plan written (delivery ∷ left) = []

-- how many blocks of a delivery are written: one, or none
abbrev pub written_by : History → Delivery → ℕ
written_by history delivery = length (written_in delivery.table (delivery.entry ∷ []) history)

-- with these deliveries left
abbrev pub turn_events : ℕ → (Option Statement → Result Task Refusal) → Plan → Client → History → List Event
turn_events client answer [] work history = statement_events client answer work.asks history
turn_events client answer (delivery ∷ left) work history =
    delivery_event delivery ∷ end_events client work.plan (work.written + written_by history delivery) left

-- the answer to what is asked for; room is counted with all that is planned
abbrev pub answer_in : History → Control → Option Statement → Result Task Refusal
answer_in history control = task_of (catalog_of history.schema) (with_planned (entries_in history) control)

-- what a client's turn does: its events
abbrev pub events_by : Option (ℕ × Client) → History → Control → List Event
events_by None history control = []
events_by (Some client) history control = turn_events client.0 (answer_in history control) client.1.left client.1 history

-- and what all clients have to do behind it
abbrev pub control_by : Option (ℕ × Client) → History → Control → Control
control_by None history control = control
control_by (Some client) history control =
    record { clients = slice_set control.clients client.0 (behind_turn (answer_in history control) (written_by history) client.1) }

-- what a turn does
abbrev pub act_events : Turn → History → Control → List Event
act_events turn history control = events_by (client_of turn control) history control

abbrev pub act_control : Turn → History → Control → Control
act_control turn history control = control_by (client_of turn control) history control

-- the events of turns, one after the other
abbrev pub turns_events : List Turn → Moment → Control → List Event
turns_events [] m control = []
turns_events (turn ∷ turns) m control =
    let events = act_events turn m.history control in
    events ++ turns_events turns (behind events m) (act_control turn m.history control)

-- what the clients have to do behind turns
abbrev pub turns_control : List Turn → Moment → Control → Control
turns_control [] m control = control
turns_control (turn ∷ turns) m control =
    turns_control turns (behind (act_events turn m.history control) m) (act_control turn m.history control)
