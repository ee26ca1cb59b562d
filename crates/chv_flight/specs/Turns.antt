-- What a turn does, and the rest of a run.
use Rattle.std.specs.Prelude.{ℕ, ◌≡◌, ◌≢◌, ◌↔◌, ◌<◌, List, [], ◌∷◌, map, drop, Bool, ◌||◌, Option, None, Some, Result, Ok, Err, IfOk, OnOk, IsErrOf, replicate, slice_get}
use Rattle.chv_history.specs.Crashes.{IsLeftBy}
use Rattle.chv_history.specs.Events.{Event, Moment, behind}
use Rattle.chv_history.specs.Kept.{Kept}
use Rattle.chv_history.specs.KeptTurns.{IsRefusedBy, TurnsRefuse, kept_by, left_by, left_turns}
use Rattle.chv_history.specs.Machine.{Of, Next, Control, act_control, act_events, client_of, first_with_work}
use Rattle.chv_history.specs.Script.{Request}
use Rattle.chv_history.specs.Traces.{IsRest}
use Rattle.chv_part.specs.declared.damage.Damage.{Damage}
use Rattle.chv_site.specs.During.{During}
use Rattle.chv_site.specs.Files.{KeepsFiles}
use Rattle.chv_site.specs.Images.{Image}
use Rattle.chv_site.specs.Outside.{Outside, bytes_in}
use Rattle.chv_store.specs.Stores.{IsWithin}
use Rattle.chv_flight.specs.Answers.{IsAt, IsHeldDamage, IsLogged, MeetsDamage, request_wish}
use Rattle.chv_flight.specs.Faults.{CountsRun}
use Rattle.chv_flight.specs.Flights.{IsReady, IsUnderWay, KeepsRun, asks_behind, left_of}
use Rattle.chv_flight.specs.declared.client.Client.{Client}
use Rattle.chv_flight.specs.declared.fault.RunFault.{RunFault}
use Rattle.chv_flight.specs.declared.fault.RunFault.TheVariants.{Damaged, NoMemory}
use Rattle.chv_flight.specs.declared.flight.Flight.{Flight}
use Rattle.chv_flight.specs.declared.turned.Turned.{Turned}
use Rattle.chv_flight.specs.declared.turned.Turned.TheVariants.{Moved, Idle}

-- nothing is left for a client to do
pub record HasNothing (flight : Flight) (number : ℕ) (client : Client) : Type 0 where
  pub delivered : left_of client ≡ []
  pub answered : asks_behind flight.script flight.pieces number client.place ≡ []

-- the turn of a client is idle
abbrev pub IsIdle : Flight → ℕ → Type 0
IsIdle flight number = (client : Client) → slice_get flight.clients.items number ≡ Some client → HasNothing flight number client

-- a client has a delivery left
abbrev pub HasDelivery : Flight → ℕ → Type 0
HasDelivery flight number = (client : Client) × (slice_get flight.clients.items number ≡ Some client) × (left_of client ≡ [] → ⊥)

-- a client's next statement, where it has no delivery left, is a query that no check refuses, and this damage is that of the
-- first damaged one of the live parts of its table
pub record TurnMeets (flight : Flight) (number : ℕ) (files : Image) (damage : Damage) : Type 0 where
  pub client : Client
  pub is : slice_get flight.clients.items number ≡ Some client
  pub delivered : left_of client ≡ []
  pub request : Request
  pub later : List Request
  pub next : asks_behind flight.script flight.pieces number client.place ≡ request.statement ∷ map (λ (other : Request). other.statement) later
  pub meets : MeetsDamage (request_wish request) flight.store files damage

-- this damage ends the run, unless another fault does
abbrev pub TurnEndsBy : Damage → Result Turned RunFault → Type 0
TurnEndsBy damage (Ok turned) = ⊥
TurnEndsBy damage (Err (Damaged other)) = other ≡ damage
TurnEndsBy damage (Err fault) = Unit {0}

-- a turn met damage: what is held of the store is as it was, no file changed, and nothing was said
pub record TurnHasMet (number : ℕ) (damage : Damage) (was is : Flight) (old new : Outside) : Type 0 where
  pub meets : TurnMeets was number (bytes_in old) damage
  pub same : is.store ≡ was.store
  pub files : KeepsFiles old.files new.files
  pub said : new.said ≡ old.said

-- what a turn changed of the clients
pub record Moves (number : ℕ) (was is : Flight) : Type 0 where
  pub script : is.script ≡ was.script
  pub pieces : is.pieces ≡ was.pieces
  pub others : (other : ℕ) → other ≢ number → slice_get is.clients.items other ≡ slice_get was.clients.items other
  -- a delivery is made, where one was left; else a piece of the script is taken
  pub made : (before after : Client) → slice_get was.clients.items number ≡ Some before → slice_get is.clients.items number ≡ Some after → (left_of before ≡ [] → ⊥)
      → (after.place ≡ before.place) × (left_of after ≡ drop 1 (left_of before))
  pub taken : (before after : Client) → slice_get was.clients.items number ≡ Some before → slice_get is.clients.items number ≡ Some after → left_of before ≡ [] → before.place < after.place

-- a client had a turn
pub record Acts (tells : Type 0) (number : ℕ) (result : Result Turned RunFault) (was is : Flight) (old new : Outside) : Type 0 where
  -- a run that was at a moment is behind the events of the turn, and a crash at any moment of the call leaves what is between them
  pub turned : tells → OnOk result ((before : List ℕ) (m : Moment) (control : Control) → IsUnderWay was old before m control
      → IsUnderWay is new before (behind (act_events (Of number) m.history control) m) (act_control (Of number) m.history control))
  pub during : tells → (before : List ℕ) (m : Moment) (control : Control) → IsUnderWay was old before m control
      → During old new (IsLeftBy (act_events (Of number) m.history control) before m)
  -- it is idle exactly where nothing is left to do
  pub idle : IfOk result (λ turned. (turned ≡ Idle) ↔ IsIdle was number)
  -- whatever the files hold: what is held behind it, and whether a statement was refused
  pub kept : OnOk result ((kept : Kept) (control : Control) → KeepsRun was kept control
      → KeepsRun is (kept_by (client_of (Of number) control) kept control) (left_by (client_of (Of number) control) kept control)
      × ((refused : Bool) × (is.refused ≡ (was.refused || refused)) × IsRefusedBy (client_of (Of number) control) kept control refused))
  pub logged : tells → OnOk result (IsLogged was.store old.files → IsLogged is.store new.files)
  pub ready : OnOk result (IsReady tells is new)
  -- where a delivery is left, there is memory, and no damage is met
  pub delivers : HasDelivery was number → (IsErrOf result NoMemory → ⊥) × ((damage : Damage) → IsErrOf result (Damaged damage) → ⊥)
  -- damage is told where it is met, and always
  pub damaged : tells → (damage : Damage) → IsErrOf result (Damaged damage) → TurnHasMet number damage was is old new
  pub met : tells → (damage : Damage) → TurnMeets was number (bytes_in old) damage → TurnEndsBy damage result
  pub counts : CountsRun result old new
  -- what it changed of the clients, or that it changed nothing
  pub moved : IfOk result (λ turned. turned ≡ Moved → Moves number was is)
  pub still : IfOk result (λ turned. turned ≡ Idle → (is ≡ was) × (tells → KeepsFiles old.files new.files × (new.said ≡ old.said)))

-- the first client that has something to do has this number
pub record IsFirst (flight : Flight) (number : ℕ) : Type 0 where
  pub idle : (other : ℕ) → other < number → IsIdle flight other
  pub works : IsIdle flight number → ⊥

-- the rest of a run refuses a statement, or none did before
pub record RestRefuses (kept : Kept) (control : Control) (before after : Bool) : Type 0 where
  pub rest : ℕ
  pub ends : first_with_work (left_turns (replicate rest Next) kept control) ≡ None
  pub later : Bool
  pub marks : after ≡ (before || later)
  pub refuses : TurnsRefuse (replicate rest Next) kept control later

-- damage that the first turn meets ends the run with nothing said, unless another fault does
abbrev pub EndsFirst : Damage → Result Bool RunFault → Flight → Flight → Outside → Outside → Type 0
EndsFirst damage (Ok refused) was is old new = ⊥
EndsFirst damage (Err (Damaged other)) was is old new = (other ≡ damage) × (is.store ≡ was.store) × (new.said ≡ old.said)
EndsFirst damage (Err fault) was is old new = Unit {0}

-- the rest of a run: turns of the first client that has something to do, until none has
pub record Drains (tells : Type 0) (result : Result Bool RunFault) (was is : Flight) (old new : Outside) : Type 0 where
  pub drained : tells → IfOk result (λ refused. (before : List ℕ) (m : Moment) (control : Control) (events : List Event) → IsUnderWay was old before m control → IsRest [] m control events
      → IsAt is.store new before (behind events m) × (refused ≡ (behind events m).refused))
  pub during : tells → (before : List ℕ) (m : Moment) (control : Control) (events : List Event) → IsUnderWay was old before m control → IsRest [] m control events
      → During old new (IsLeftBy events before m)
  pub kept : IfOk result (λ refused. (kept : Kept) (control : Control) → KeepsRun was kept control → RestRefuses kept control was.refused refused)
  -- damage is of the live parts of a table that stands, as they are held when it is met; the tables are those that stand then
  pub damaged : tells → (damage : Damage) → IsErrOf result (Damaged damage) → IsHeldDamage is.store new damage × (IsLogged was.store old.files → IsLogged is.store new.files)
  pub undamaged : tells → (before : List ℕ) (m : Moment) (control : Control) (damage : Damage) → IsUnderWay was old before m control → IsErrOf result (Damaged damage) → ⊥
  pub met : tells → (damage : Damage) (number : ℕ) → IsFirst was number → TurnMeets was number (bytes_in old) damage → EndsFirst damage result was is old new
  pub within : OnOk result (IsWithin is.store)
  pub counts : CountsRun result old new
