-- What turns do with the numbers that a run holds of its tables, whatever the files hold.
use Rattle.std.specs.Prelude.{ℕ, ◌≡◌, ◌++◌, Bool, false, ◌||◌, List, [], ◌∷◌, if◌then◌else◌, replicate, slice_set, Option, None, Some, Result, Ok}
use Rattle.std.specs.List.{list_any}
use Rattle.chv_ast.specs.declared.refusal.Refusal.{Refusal}
use Rattle.chv_ast.specs.declared.statement.Statement.{Statement}
use Rattle.chv_query.specs.Plans.{Delivery}
use Rattle.chv_sip.specs.BlockIds.{id_eq}
use Rattle.chv_history.specs.Events.{Plan}
use Rattle.chv_history.specs.Kept.{Kept, IsRefused, entries_kept, kept_delivery, kept_task}
use Rattle.chv_history.specs.Machine.{Turn, Next, Client, Control, behind_turn, client_of, first_with_work, with_planned}
use Rattle.chv_history.specs.Tasks.{Task, Bring, task_of}
use Rattle.chv_history.specs.Traces.{control_in}

-- the answer to what is asked for, by what is held
abbrev pub answer_kept : Kept → Control → Option Statement → Result Task Refusal
answer_kept kept control = task_of kept.catalog (with_planned (entries_kept kept) control)

-- how many blocks of a delivery are written, by what is held
abbrev pub written_kept : Kept → Delivery → ℕ
written_kept kept delivery = if list_any (id_eq delivery.entry.id) (kept.states delivery.table).ids then 0 else 1

-- what is held behind a statement that gets this answer: a plain insert is planned alone
abbrev pub kept_taken : Result Task Refusal → Kept → Kept
kept_taken (Ok (Bring plan)) kept = kept
kept_taken other kept = kept_task other kept

-- where no delivery is left: behind the next statement
abbrev pub kept_statement : (Option Statement → Result Task Refusal) → List (Option Statement) → Kept → Kept
kept_statement answer [] kept = kept
kept_statement answer (asked ∷ asks) kept = kept_taken (answer asked) kept

-- with these deliveries left
abbrev pub kept_turn : (Option Statement → Result Task Refusal) → Plan → Client → Kept → Kept
kept_turn answer [] work kept = kept_statement answer work.asks kept
kept_turn answer (delivery ∷ left) work kept = kept_delivery delivery kept

-- what is held behind a client's turn, and what all clients have to do
abbrev pub kept_by : Option (ℕ × Client) → Kept → Control → Kept
kept_by None kept control = kept
kept_by (Some client) kept control = kept_turn (answer_kept kept control) client.1.left client.1 kept

abbrev pub left_by : Option (ℕ × Client) → Kept → Control → Control
left_by None kept control = control
left_by (Some client) kept control =
    record { clients = slice_set control.clients client.0 (behind_turn (answer_kept kept control) (written_kept kept) client.1) }

-- whether a client's next statement is refused, where no delivery is left
abbrev pub IsStatementRefused : (Option Statement → Result Task Refusal) → List (Option Statement) → Bool → Type 0
IsStatementRefused answer [] refused = refused ≡ false
IsStatementRefused answer (asked ∷ asks) refused = IsRefused (answer asked) refused

-- with these deliveries left: a delivery refuses nothing
abbrev pub IsTurnRefused : (Option Statement → Result Task Refusal) → Plan → Client → Bool → Type 0
IsTurnRefused answer [] work refused = IsStatementRefused answer work.asks refused
IsTurnRefused answer (delivery ∷ left) work refused = refused ≡ false

-- whether a statement is refused in a client's turn
abbrev pub IsRefusedBy : Option (ℕ × Client) → Kept → Control → Bool → Type 0
IsRefusedBy None kept control refused = refused ≡ false
IsRefusedBy (Some client) kept control refused = IsTurnRefused (answer_kept kept control) client.1.left client.1 refused

-- what is held behind turns, and what all clients have to do
abbrev pub kept_turns : List Turn → Kept → Control → Kept
kept_turns [] kept control = kept
kept_turns (turn ∷ turns) kept control =
    kept_turns turns (kept_by (client_of turn control) kept control) (left_by (client_of turn control) kept control)

abbrev pub left_turns : List Turn → Kept → Control → Control
left_turns [] kept control = control
left_turns (turn ∷ turns) kept control =
    left_turns turns (kept_by (client_of turn control) kept control) (left_by (client_of turn control) kept control)

-- whether a statement is refused in one of some turns
abbrev pub TurnsRefuse : List Turn → Kept → Control → Bool → Type 0
TurnsRefuse [] kept control refused = refused ≡ false
TurnsRefuse (turn ∷ turns) kept control refused =
    (first later : Bool) × (refused ≡ (first || later)) × IsRefusedBy (client_of turn control) kept control first
    × TurnsRefuse turns (kept_by (client_of turn control) kept control) (left_by (client_of turn control) kept control) later

-- whether a statement is refused in a run of a script with a list of turns
pub record RunRefuses (script : List ℕ) (turns : List Turn) (kept : Kept) (refused : Bool) : Type 0 where
  pub rest : ℕ
  pub ends : first_with_work (left_turns (turns ++ replicate rest Next) kept (control_in script)) ≡ None
  pub refuses : TurnsRefuse (turns ++ replicate rest Next) kept (control_in script) refused
