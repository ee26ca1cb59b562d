-- The events of a run: those of its turns, and then of the first client that has something to do, until none has.
use Rattle.std.specs.Prelude.{ℕ, ◌≡◌, List, ◌++◌, map, replicate, Option, None}
use Rattle.std.specs.List.{range_with_len}
use Rattle.chv_ast.specs.declared.statement.Statement.{Statement}
use Rattle.chv_lex.specs.Scripts.{pieces_of}
use Rattle.chv_history.specs.Events.{Event, Moment, begins}
use Rattle.chv_history.specs.Histories.{History}
use Rattle.chv_history.specs.Machine.{Turn, Next, Control, asking, first_with_work, turns_events, turns_control}
use Rattle.chv_history.specs.Script.{Request, of_client, requests_in}

-- what a client asks for in a script
abbrev pub asks_in : List ℕ → ℕ → List (Option Statement)
asks_in script client = map (λ (request : Request). request.statement) (requests_in script (of_client (pieces_of script) client))

-- what the clients from 0 to 15 have to do as a run of a script begins
unfoldable pub control_in : List ℕ → Control
control_in script = record { clients = map (λ client. asking (asks_in script client)) (range_with_len 0 16) }

-- these are the events of turns, and then of the first client that has something to do, until none has
pub record IsRest (turns : List Turn) (m : Moment) (control : Control) (events : List Event) : Type 0 where
  pub rest : ℕ
  pub is : events ≡ turns_events (turns ++ replicate rest Next) m control
  pub ends : first_with_work (turns_control (turns ++ replicate rest Next) m control) ≡ None

-- these are the events of a run of a script with a list of turns
abbrev pub IsTrace : List ℕ → List Turn → History → List Event → Type 0
IsTrace script turns history = IsRest turns (begins history) (control_in script)
