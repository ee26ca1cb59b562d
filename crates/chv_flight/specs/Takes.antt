-- What a statement does that is taken: an INSERT is planned, and each other one is done and answered.
use Rattle.std.specs.Prelude.{ℕ, ◌≡◌, ◌+◌, ◌<◌, ◌≤◌, List, [], ◌∷◌, ◌++◌, length, drop, slice_get, Bool, Option, Some, Result, Ok, Err, IfOk, OnOk, IsErrOf}
use Rattle.chv_ast.specs.declared.refusal.Refusal.{Refusal}
use Rattle.chv_ast.specs.declared.statement.Statement.{Statement}
use Rattle.chv_catalog.specs.Schemas.{Catalog}
use Rattle.chv_history.specs.Crashes.{IsLeftBy}
use Rattle.chv_history.specs.Events.{Event, Plan, Moment}
use Rattle.chv_history.specs.Histories.{History}
use Rattle.chv_history.specs.Kept.{Kept, IsRefused}
use Rattle.chv_history.specs.KeptTurns.{kept_taken}
use Rattle.chv_history.specs.Machine.{taken_events}
use Rattle.chv_history.specs.Runs.{entries_in}
use Rattle.chv_history.specs.Tasks.{Task, Bring, task_of}
use Rattle.chv_history.specs.Script.{of_client}
use Rattle.chv_lex.specs.Scripts.{IsPieceOf}
use Rattle.chv_lex.specs.declared.piece.Piece.{Piece}
use Rattle.chv_part.specs.declared.damage.Damage.{Damage}
use Rattle.chv_plan.specs.Deliveries.{DeliversAll}
use Rattle.chv_plan.specs.declared.delivery.Delivery.{Delivery}
use Rattle.chv_query.specs.Accepted.{catalog_of}
use Rattle.chv_site.specs.During.{During}
use Rattle.chv_site.specs.Outside.{Outside, bytes_in}
use Rattle.chv_store.specs.Stores.{HasRoom, IsUsable, state_of}
use Rattle.chv_store.specs.declared.store.Store.{Store}
use Rattle.chv_flight.specs.Answers.{AnswersAs, HasMet, HoldsKept, IsAt, IsLogged, MeetsDamage, Wish, plan_wish, statement_wish, wish_in}
use Rattle.chv_flight.specs.Faults.{CountsRun}
use Rattle.chv_flight.specs.Flights.{left_in, left_of}
use Rattle.chv_flight.specs.Rooms.{HasRooms, deliveries_held}
use Rattle.chv_flight.specs.declared.client.Client.{Client}
use Rattle.chv_flight.specs.declared.fault.RunFault.{RunFault}
use Rattle.chv_flight.specs.declared.fault.RunFault.TheVariants.{Damaged}
use Rattle.chv_flight.specs.declared.flight.Flight.{Flight}
use Rattle.chv_flight.specs.declared.take.Taken.{Taken}

-- how many entries a table has and will have, where it has so many and what clients have left is all written
abbrev pub with_left : List Client → (ℕ → ℕ) → ℕ → ℕ
with_left clients entries table = entries table + deliveries_held table (left_in clients)

-- what a statement asks for, where room is counted with what clients have left
abbrev pub taken_wish : List Client → Option Statement → Wish
taken_wish clients asked catalog entries = task_of catalog (with_left clients entries) asked

-- its events, where it is taken
abbrev pub take_events : ℕ → List Client → Option Statement → History → List Event
take_events number clients asked history = taken_events number (taken_wish clients asked (catalog_of history.schema) (entries_in history)) history

-- a statement asks for these deliveries
abbrev pub AsksFor : Catalog → Option Statement → Plan → Type 0
AsksFor catalog asked plan = (entries : ℕ → ℕ) → statement_wish asked catalog entries ≡ plan_wish plan catalog entries

-- the deliveries of an answer
abbrev pub plan_in : Result Task Refusal → Plan
plan_in (Ok (Bring plan)) = plan
plan_in other = []

-- what is held of deliveries stays that, and each table keeps its room
pub record KeepsPlans (was is : Store) : Type 0 where
  pub plans : (held : List Delivery) (plan : Plan) → DeliversAll was.schema.catalog held plan → DeliversAll is.schema.catalog held plan
  pub rooms : (table count : ℕ) → HasRoom count was table → HasRoom count is table

-- what comes of a statement that is answered: nothing is planned
abbrev pub told_of : Result Bool RunFault → Result Taken RunFault
told_of (Ok refused) = Ok (record { refused = refused; plan = [] })
told_of (Err fault) = Err fault

-- no more of a client's deliveries are made than it has
abbrev pub HasMade : Client → Type 0
HasMade client = client.made ≤ length client.plan

-- this damage ends the call, unless another fault does
abbrev pub TakeEndsBy : Damage → Result Taken RunFault → Type 0
TakeEndsBy damage (Ok taken) = ⊥
TakeEndsBy damage (Err (Damaged other)) = other ≡ damage
TakeEndsBy damage (Err fault) = Unit {0}

-- a client's statement was taken, beside what clients have left
pub record Takes (tells : Type 0) (number : ℕ) (clients : List Client) (asked : Option Statement) (result : Result Taken RunFault) (was is : Store) (old new : Outside) : Type 0 where
  -- a store that was at a moment is behind the events, and a crash at any moment of the call leaves what is between them
  pub taken : tells → IfOk result (λ taken. (before : List ℕ) (m : Moment) → IsAt was old before m → AnswersAs is new before taken.refused (take_events number clients asked m.history) m)
  pub during : tells → (before : List ℕ) (m : Moment) → IsAt was old before m → During old new (IsLeftBy (take_events number clients asked m.history) before m)
  -- whatever the files hold: whether it is refused, what is held afterwards, and the deliveries that are planned, for which there
  -- is room beside the others
  pub kept : IfOk result (λ taken. (kept : Kept) → HoldsKept was kept → HoldsKept is (kept_taken (wish_in (taken_wish clients asked) kept) kept) × IsRefused (wish_in (taken_wish clients asked) kept) taken.refused)
  pub planned : IfOk result (λ taken. (entries : ℕ → ℕ) → ((table : ℕ) → 1 ≤ table → table ≤ length was.schema.catalog.tables → entries table ≡ (state_of was table).entries)
      → DeliversAll is.schema.catalog taken.plan (plan_in (taken_wish clients asked was.schema.catalog entries)))
  pub rooms : IfOk result (λ taken. HasRooms (left_in clients ++ taken.plan) is)
  pub keeps : OnOk result (KeepsPlans was is)
  pub logged : tells → OnOk result (IsLogged was old.files → IsLogged is new.files)
  pub usable : OnOk result (IsUsable tells is new)
  -- damage is told where it is met, and always
  pub damaged : tells → (damage : Damage) → IsErrOf result (Damaged damage) → HasMet (statement_wish asked) damage was is old new
  pub met : tells → (damage : Damage) → MeetsDamage (statement_wish asked) was (bytes_in old) damage → TakeEndsBy damage result
  pub counts : CountsRun result old new

-- a client that has no delivery left asks next with this piece, and its next one is looked for from a place on
pub record TakesPiece (flight : Flight) (number : ℕ) (piece : Piece) (behind : ℕ) : Type 0 where
  pub client : Client
  pub is : slice_get flight.clients.items number ≡ Some client
  pub delivered : left_of client ≡ []
  pub next : of_client (drop client.place flight.pieces) number ≡ piece ∷ of_client (drop behind flight.pieces) number
  pub sound : IsPieceOf flight.script piece
  pub later : client.place < behind
  pub within : behind ≤ length flight.pieces
