-- What is held of a run that begins: no client was heard yet.
use Rattle.std.proofs.Common.{◌≡◌, inl, inr, ℕ, zero, suc, ◌+◌, ◌<◌, ◌≤◌, List, [], ◌∷◌, ◌++◌, length, map, Option, Some, replicate, slice_get, refl, sym, ap, ap₂, subst, subst₂, ◌∙◌, arith}
use Rattle.std.specs.List.{All, flat_map, range_with_len}
use Rattle.std.proofs.lemmas.List.Elements.{All-replicate}
use Rattle.std.proofs.lemmas.Bool.{cases_eq}
use Rattle.chv_ast.specs.declared.statement.Statement.{Statement}
use Rattle.chv_catalog.specs.Schemas.{Catalog}
use Rattle.chv_history.specs.Events.{begins}
use Rattle.chv_history.specs.Histories.{History}
use Rattle.chv_history.specs.Kept.{Kept}
use Rattle.chv_history.specs.Machine.{Client as Work, asking}
use Rattle.chv_history.specs.Script.{Request, from_client, of_client, request_of, requests_in, requests_of}
use Rattle.chv_history.specs.Traces.{asks_in, control_in}
use Rattle.chv_lex.specs.Scripts.{IsPieceOf, pieces_of}
use Rattle.chv_lex.specs.declared.piece.Piece.{Piece}
use Rattle.chv_part.specs.declared.damage.Damage.{Damage}
use Rattle.chv_site.specs.Images.{Image}
use Rattle.chv_site.specs.Outside.{Outside}
use Rattle.chv_store.specs.Stores.{IsUsable}
use Rattle.chv_store.specs.declared.store.Store.{Store}
use Rattle.chv_flight.specs.Answers.{FirstAsks, HoldsKept, IsAt, MeetsDamage, request_wish}
use Rattle.chv_flight.specs.Flights.{HoldsControl, HoldsEach, HoldsWork, IsBegun, IsReady, IsSound, IsUnderWay, KeepsRun, asks_behind, fresh, left_in}
use Rattle.chv_flight.specs.Rooms.{HasRooms}
use Rattle.chv_flight.specs.Turns.{HasNothing, IsFirst, IsIdle, TurnMeets}
use Rattle.chv_flight.specs.declared.client.Client.{Client}
use Rattle.chv_flight.specs.declared.flight.Flight.{Flight}

-- each of some clients that were not heard is one
same_fresh : (many place : ℕ) (client : Client) → slice_get (replicate many fresh) place ≡ Some client → client ≡ fresh
same_fresh zero place client stands = absurd (cc stands)
same_fresh (suc many) zero client stands = cc
same_fresh (suc many) (suc place) client stands = same_fresh many place client stands

stands_fresh : (many place : ℕ) → place < many → slice_get (replicate many fresh) place ≡ Some fresh
stands_fresh zero place below = absurd (omega (arith, below))
stands_fresh (suc many) zero below = refl
stands_fresh (suc many) (suc place) below = stands_fresh many place (omega (arith, below))

-- they have no delivery left
none_left : (many : ℕ) → left_in (replicate many fresh) ≡ []
none_left zero = refl
none_left (suc many) = none_left many

fresh_rooms : (many : ℕ) (store : Store) → HasRooms (left_in (replicate many fresh)) store
fresh_rooms many store =
    subst (λ plan. HasRooms plan store) (sym (none_left many)) (λ table some. absurd (omega (arith, some)))

fresh_sound : (pieces : List Piece) (catalog : Catalog) → IsSound pieces catalog fresh
fresh_sound pieces catalog = record { place = omega arith; made = omega arith; written = omega arith; planned = ([], tt) }

-- and what they have to do is what the script asks for
fresh_work : (script : List ℕ) (catalog : Catalog) (number : ℕ) → HoldsWork script (pieces_of script) catalog number fresh (asking (asks_in script number))
fresh_work script catalog number = record {
  asks = refl;
  insert = record { left = tt; many = λ some. absurd (some refl); written = λ some. absurd (some refl) };
}

fresh_works : (script : List ℕ) (catalog : Catalog) (many first : ℕ)
    → HoldsEach (HoldsWork script (pieces_of script) catalog) first (replicate many fresh) (map (λ client. asking (asks_in script client)) (range_with_len first many))
fresh_works script catalog zero first = tt
fresh_works script catalog (suc many) first = (fresh_work script catalog first, fresh_works script catalog many (first + 1))

fresh_control : (script : List ℕ) (catalog : Catalog) → HoldsEach (HoldsWork script (pieces_of script) catalog) 0 (replicate 16 fresh) (control_in script).clients
unfolding control_in
fresh_control script catalog = fresh_works script catalog 16 0

-- the first client that asks for something, and what it asks for first
record FirstPiece (script : List ℕ) (pieces : List Piece) (store : Store) (files : Image) (damage : Damage) (first many : ℕ) : Type 0 where
  number : ℕ
  low : first ≤ number
  high : number < first + many
  piece : Piece
  others : List Piece
  is : of_client pieces number ≡ piece ∷ others
  none : (other : ℕ) → first ≤ other → other < number → of_client pieces other ≡ []
  meets : MeetsDamage (request_wish (request_of script piece)) store files damage

module _ (script : List ℕ) (pieces : List Piece) (store : Store) (files : Image) (damage : Damage) where
  abbrev Found : ℕ → ℕ → Type 0
  Found = FirstPiece script pieces store files damage

  -- it is the first of these, or one of the others
  abbrev Later : ℕ → ℕ → List Piece
  Later first many = flat_map (of_client pieces) (range_with_len first many)

  here_or_later : (first many : ℕ) (own : List Piece) → of_client pieces first ≡ own → FirstAsks (requests_in script (own ++ Later (first + 1) many)) store files damage
      → (FirstAsks (requests_in script (Later (first + 1) many)) store files damage → Found (first + 1) many) → Found first (suc many)
  here_or_later first many [] is asks later =
      let found = later asks in
      record {
        number = found.number;
        low = omega (arith, found.low);
        high = omega (arith, found.high);
        piece = found.piece;
        others = found.others;
        is = found.is;
        none = λ other low below. elim (cases_eq other first) as (λ _. of_client pieces other ≡ []) [
          | inl same ↦ ap (of_client pieces) same ∙ is
          | inr more ↦ found.none other (omega (arith, low, more)) below
        ];
        meets = found.meets;
      }
  here_or_later first many (piece ∷ others) is asks later = record {
    number = first;
    low = omega arith;
    high = omega arith;
    piece = piece;
    others = others;
    is = is;
    none = λ other low below. absurd (omega (arith, low, below));
    meets = asks;
  }

  first_piece : (many first : ℕ) → FirstAsks (requests_in script (Later first many)) store files damage → Found first many
  first_piece zero first asks = absurd asks
  first_piece (suc many) first asks = here_or_later first many (of_client pieces first) refl asks (first_piece many (first + 1))

script_first : (script : List ℕ) (store : Store) (files : Image) (damage : Damage) → FirstAsks (requests_of script) store files damage → FirstPiece script (pieces_of script) store files damage 0 16
unfolding requests_of from_client
script_first script store files damage asks = first_piece script (pieces_of script) store files damage 16 0 asks

-- the first client that has something to do meets this damage
pub record MeetsAtFirst (flight : Flight) (files : Image) (damage : Damage) : Type 0 where
  pub number : ℕ
  pub first : IsFirst flight number
  pub meets : TurnMeets flight number files damage

module _ (store : Store) (script : List ℕ) (flight : Flight) (begun : IsBegun store script flight) where
  pub begun_ready : (tells : Type 0) (outside : Outside) → IsUsable tells store outside → IsReady tells flight outside
  begun_ready tells outside usable = record {
    usable = subst (λ (s : Store). IsUsable tells s outside) (sym begun.held) usable;
    pieces = subst (λ (text : List ℕ). All (IsPieceOf text) flight.pieces) (sym begun.asks) begun.sound;
    many = ap length begun.clients;
    clients = subst (All (IsSound flight.pieces flight.store.schema.catalog)) (sym begun.clients)
        (All-replicate (IsSound flight.pieces flight.store.schema.catalog) 16 fresh (fresh_sound flight.pieces flight.store.schema.catalog));
    rooms = subst (λ (clients : List Client). HasRooms (left_in clients) flight.store) (sym begun.clients) (fresh_rooms 16 flight.store);
  }

  begun_control : HoldsControl flight (control_in script)
  begun_control =
      let catalog = flight.store.schema.catalog in
      let works = (control_in script).clients in
      subst (λ (clients : List Client). HoldsEach (HoldsWork flight.script flight.pieces catalog) 0 clients works) (sym begun.clients)
      (subst₂ (λ (text : List ℕ) (pieces : List Piece). HoldsEach (HoldsWork text pieces catalog) 0 (replicate 16 fresh) works) (sym begun.asks) (sym begun.pieces) (fresh_control script catalog))

  pub begun_under_way : (outside : Outside) (before : List ℕ) (history : History) → IsAt store outside before (begins history) → IsUnderWay flight outside before (begins history) (control_in script)
  begun_under_way outside before history at = record {
    at = subst (λ (s : Store). IsAt s outside before (begins history)) (sym begun.held) at;
    clients = begun_control;
    mark = begun.refused;
  }

  pub begun_kept : (kept : Kept) → HoldsKept store kept → KeepsRun flight kept (control_in script)
  begun_kept kept holds = record { store = subst (λ (s : Store). HoldsKept s kept) (sym begun.held) holds; clients = begun_control }

  -- a client has nothing to do exactly where no piece is its
  asks_begun : (number : ℕ) → asks_behind flight.script flight.pieces number 0 ≡ asks_in script number
  asks_begun number = ap₂ (λ (text : List ℕ) (pieces : List Piece). asks_behind text pieces number 0) begun.asks begun.pieces

  stands_begun : (number : ℕ) → number < 16 → slice_get flight.clients.items number ≡ Some fresh
  stands_begun number below = ap (λ (clients : List Client). slice_get clients number) begun.clients ∙ stands_fresh 16 number below

  idle_begun : (number : ℕ) → of_client (pieces_of script) number ≡ [] → IsIdle flight number
  idle_begun number none = λ client stands.
      let same = same_fresh 16 number client (sym (ap (λ (clients : List Client). slice_get clients number) begun.clients) ∙ stands) in
      subst (HasNothing flight number) (sym same) (record {
        delivered = refl;
        answered = asks_begun number ∙ ap (λ (own : List Piece). map (λ (request : Request). request.statement) (requests_in script own)) none;
      })

  pub begun_meets : (files : Image) (damage : Damage) → FirstAsks (requests_of script) store files damage → MeetsAtFirst flight files damage
  begun_meets files damage asks =
      let found = script_first script store files damage asks in
      let number = found.number in
      let stands = stands_begun number (omega (arith, found.high)) in
      let request = request_of script found.piece in
      let later = requests_in script found.others in
      let next : asks_behind flight.script flight.pieces number 0 ≡ request.statement ∷ map (λ (other : Request). other.statement) later =
      asks_begun number ∙ ap (λ (own : List Piece). map (λ (asked : Request). asked.statement) (requests_in script own)) found.is in
      record {
        number = number;
        first = record {
          idle = λ other below. idle_begun other (found.none other (omega arith) below);
          works = λ idle. let nothing = idle fresh stands in cc (sym nothing.answered ∙ next);
        };
        meets = record {
          client = fresh;
          is = stands;
          delivered = refl;
          request = request;
          later = later;
          next = next;
          meets = subst (λ (s : Store). MeetsDamage (request_wish request) s files damage) (sym begun.held) found.meets;
        };
      }
