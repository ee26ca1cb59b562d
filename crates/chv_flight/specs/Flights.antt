-- What is held of a run, beside its files.
use Rattle.std.specs.Prelude.{ℕ, ◌≡◌, ◌≤◌, ◌+◌, List, [], ◌∷◌, length, map, drop, false, replicate, Option}
use Rattle.std.specs.List.{All, flat_map}
use Rattle.chv_ast.specs.declared.statement.Statement.{Statement}
use Rattle.chv_catalog.specs.Schemas.{Catalog}
use Rattle.chv_history.specs.Events.{Plan, Moment}
use Rattle.chv_history.specs.Kept.{Kept}
use Rattle.chv_history.specs.Machine.{Client as Work, Control}
use Rattle.chv_history.specs.Script.{Request, of_client, requests_in}
use Rattle.chv_lex.specs.Scripts.{IsPieceOf, pieces_of}
use Rattle.chv_lex.specs.declared.piece.Piece.{Piece}
use Rattle.chv_plan.specs.Deliveries.{DeliversAll}
use Rattle.chv_plan.specs.declared.delivery.Delivery.{Delivery}
use Rattle.chv_site.specs.Outside.{Outside}
use Rattle.chv_store.specs.Stores.{IsUsable}
use Rattle.chv_store.specs.declared.store.Store.{Store}
use Rattle.chv_flight.specs.Answers.{IsAt, HoldsKept}
use Rattle.chv_flight.specs.Rooms.{HasRooms}
use Rattle.chv_flight.specs.declared.client.Client.{Client}
use Rattle.chv_flight.specs.declared.flight.Flight.{Flight}

-- a client that was not heard yet
abbrev pub fresh : Client
fresh = record { place = 0; plan = []; made = 0; written = 0 }

-- the statements of a client's pieces from a place on
abbrev pub asks_behind : List ℕ → List Piece → ℕ → ℕ → List (Option Statement)
asks_behind script pieces client place =
    map (λ (request : Request). request.statement) (requests_in script (of_client (drop place pieces) client))

-- the deliveries of a client that are not made
abbrev pub left_of : Client → List Delivery
left_of client = drop client.made client.plan

-- those of all clients
abbrev pub left_in : List Client → List Delivery
left_in clients = flat_map left_of clients

-- what is held of a client is sound, whatever the files hold
pub record IsSound (pieces : List Piece) (catalog : Catalog) (client : Client) : Type 0 where
  pub place : client.place ≤ length pieces
  pub made : client.made ≤ length client.plan
  pub written : client.written ≤ client.made
  pub planned : (left : Plan) × DeliversAll catalog (left_of client) left

-- a flight whose turns may go on: room is there for all deliveries that are left
pub record IsReady (tells : Type 0) (flight : Flight) (outside : Outside) : Type 0 where
  pub usable : IsUsable tells flight.store outside
  pub pieces : All (IsPieceOf flight.script) flight.pieces
  pub many : length flight.clients.items ≡ 16
  pub clients : All (IsSound flight.pieces flight.store.schema.catalog) flight.clients.items
  pub rooms : HasRooms (left_in flight.clients.items) flight.store

-- what is held of a client's insert is what it has to do of it; where deliveries are left, it is known how many there are in
-- all, and how many of those that are made were written
pub record HoldsInsert (catalog : Catalog) (client : Client) (work : Work) : Type 0 where
  pub left : DeliversAll catalog (left_of client) work.left
  pub many : (work.left ≡ [] → ⊥) → length work.plan ≡ length client.plan
  pub written : (work.left ≡ [] → ⊥) → work.written ≡ client.written

-- what is held of a client is what it has to do
pub record HoldsWork (script : List ℕ) (pieces : List Piece) (catalog : Catalog) (number : ℕ) (client : Client) (work : Work) : Type 0 where
  pub asks : work.asks ≡ asks_behind script pieces number client.place
  pub insert : HoldsInsert catalog client work

-- so it is of each client; the first has this number
abbrev pub HoldsEach : (ℕ → Client → Work → Type 0) → ℕ → List Client → List Work → Type 0
HoldsEach P number [] [] = Unit {0}
HoldsEach P number [] (work ∷ works) = ⊥
HoldsEach P number (client ∷ clients) [] = ⊥
HoldsEach P number (client ∷ clients) (work ∷ works) = P number client work × HoldsEach P (number + 1) clients works

-- a flight holds what the clients have to do
abbrev pub HoldsControl : Flight → Control → Type 0
HoldsControl flight control =
    HoldsEach (HoldsWork flight.script flight.pieces flight.store.schema.catalog) 0 flight.clients.items control.clients

-- a flight was begun on a store: nothing was done yet
pub record IsBegun (store : Store) (script : List ℕ) (flight : Flight) : Type 0 where
  pub held : flight.store ≡ store
  pub asks : flight.script ≡ script
  pub pieces : flight.pieces ≡ pieces_of script
  pub sound : All (IsPieceOf script) flight.pieces
  pub clients : flight.clients.items ≡ replicate 16 fresh
  pub refused : flight.refused ≡ false

-- a flight, with what is outside, is at a moment, and the clients have this to do
pub record IsUnderWay (flight : Flight) (outside : Outside) (before : List ℕ) (m : Moment) (control : Control) : Type 0 where
  pub at : IsAt flight.store outside before m
  pub clients : HoldsControl flight control
  pub mark : flight.refused ≡ m.refused

-- a flight holds of the logs what they say, and what the clients have to do
pub record KeepsRun (flight : Flight) (kept : Kept) (control : Control) : Type 0 where
  pub store : HoldsKept flight.store kept
  pub clients : HoldsControl flight control
