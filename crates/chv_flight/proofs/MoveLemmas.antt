-- What a turn leaves of the clients: those below stay idle, and something less is left to do.
use Rattle.std.proofs.Common.{◌≡◌, ◌≢◌, inl, inr, ℕ, ◌-◌, ◌+◌, ◌<◌, ◌≤◌, true, false, nat_lt, List, [], ◌∷◌, length, drop, get_or, slice_get, Some, refl, sym, ap, ap₂, subst, ◌∙◌, arith}
use Rattle.std.proofs.lemmas.Bool.{cases_eq, ltb-false, ltb-true}
use Rattle.std.proofs.lemmas.List.{drop_all, get_or_default, length-drop}
use Rattle.std.proofs.lemmas.List.Elements.{All-get_or}
use Rattle.std.proofs.lemmas.Option.{slice_get-get_or}
use Rattle.chv_ast.specs.declared.statement.Statement.{Statement}
use Rattle.chv_lex.specs.declared.piece.Piece.{Piece}
use Rattle.chv_plan.specs.declared.delivery.Delivery.{Delivery}
use Rattle.chv_site.specs.Outside.{Outside}
use Rattle.chv_flight.specs.Flights.{IsReady, IsSound, asks_behind, fresh, left_of}
use Rattle.chv_flight.specs.Turns.{Acts, HasNothing, IsIdle, Moves}
use Rattle.chv_flight.specs.declared.client.Client.{Client}
use Rattle.chv_flight.specs.declared.flight.Flight.{Flight}
use Rattle.chv_flight.specs.declared.turned.Turned.{Turned}
use Rattle.chv_flight.specs.declared.turned.Turned.TheVariants.{Moved, Idle}
use Rattle.chv_flight.proofs.DrainLemmas.{HasTurn}
use Rattle.chv_flight.proofs.IdleLemmas.{AreIdle}

-- of some, fewer are left behind the first
fewer_left : (before after : List Delivery) → (before ≡ [] → ⊥) → after ≡ drop 1 before → length after < length before
fewer_left [] after some is = absurd (some refl)
fewer_left (d ∷ before) after some is = omega (arith, ap length is)

-- what is held of the client of a number
abbrev pub client_at : Flight → ℕ → Client
client_at flight number = get_or flight.clients.items number fresh

pub its_client : (flight : Flight) (number many : ℕ) → length flight.clients.items ≡ many → number < many → slice_get flight.clients.items number ≡ Some (client_at flight number)
its_client flight number many is less = slice_get-get_or flight.clients.items number fresh (omega (arith, is, less))

pub found_client : (flight : Flight) (number many : ℕ) (found : Client) → length flight.clients.items ≡ many → number < many → found ≡ get_or flight.clients.items number found → client_at flight number ≡ found
found_client flight number many found is less at = get_or_default flight.clients.items number fresh found (omega (arith, is, less)) ∙ sym at

-- a client that is there, behind idle ones, has a turn
pub has_turn : (flight : Flight) (number many : ℕ) → length flight.clients.items ≡ many → number < many → AreIdle flight number → HasTurn flight number
has_turn flight number many is less below = record { client = client_at flight number; stands = its_client flight number many is less; below = below }

-- deliveries are left where not all are made
pub some_left : (client found : Client) → client ≡ found → nat_lt found.made (length found.plan) ≡ true → left_of client ≡ [] → ⊥
some_left client found same is none =
    let more : nat_lt client.made (length client.plan) ≡ true = ap (λ (c : Client). nat_lt c.made (length c.plan)) same ∙ is in
    omega (arith, ltb-true client.made (length client.plan) more, length-drop client.made client.plan, ap length none)

pub none_left : (client found : Client) → client ≡ found → nat_lt found.made (length found.plan) ≡ false → left_of client ≡ []
none_left client found same is =
    let all : nat_lt client.made (length client.plan) ≡ false = ap (λ (c : Client). nat_lt c.made (length c.plan)) same ∙ is in
    drop_all client.made client.plan (omega (arith, ltb-false client.made (length client.plan) all))

module _ (number : ℕ) (was is : Flight) (moves : Moves number was is) where
  same_idle : (other : ℕ) → other ≢ number → IsIdle was other → IsIdle is other
  same_idle other apart idle client stands =
      let nothing = idle client (sym (moves.others other apart) ∙ stands) in
      record {
        delivered = nothing.delivered;
        answered = ap₂ (λ (script : List ℕ) (pieces : List Piece). asks_behind script pieces other client.place) moves.script moves.pieces ∙ nothing.answered;
      }

  below_idle : AreIdle was number → AreIdle is number
  below_idle idle other less = same_idle other (λ same. absurd (omega (arith, same, less))) (idle other less)

-- where a delivery is left, fewer are left behind the turn, and the client's place stays
pub record HasMade (number : ℕ) (was is : Flight) : Type 0 where
  pub fewer : length (left_of (client_at is number)) < length (left_of (client_at was number))
  pub place : (client_at is number).place ≡ (client_at was number).place
  pub pieces : is.pieces ≡ was.pieces

pub has_made : (number many : ℕ) (was is : Flight) → length was.clients.items ≡ many → length is.clients.items ≡ many → number < many → (left_of (client_at was number) ≡ [] → ⊥) → Moves number was is → HasMade number was is
has_made number many was is old new less some moves =
    let made = moves.made (client_at was number) (client_at is number) (its_client was number many old less) (its_client is number many new less) some in
    record { fewer = fewer_left (left_of (client_at was number)) (left_of (client_at is number)) some made.1; place = made.0; pieces = moves.pieces }

-- where none is left, a piece is taken
pub has_taken : (number many : ℕ) (was is : Flight) → length was.clients.items ≡ many → length is.clients.items ≡ many → number < many → left_of (client_at was number) ≡ [] → Moves number was is
    → (client_at was number).place < (client_at is number).place
has_taken number many was is old new less none moves = moves.taken (client_at was number) (client_at is number) (its_client was number many old less) (its_client is number many new less) none

-- behind a turn those below are still idle
pub idle_on : (number : ℕ) (turned : Turned) (was is : Flight) → (turned ≡ Moved → Moves number was is) → (turned ≡ Idle → is ≡ was) → AreIdle was number → AreIdle is number
idle_on number Moved was is moved still idle = below_idle number was is (moved refl) idle
idle_on number Idle was is moved still idle = subst (λ (f : Flight). AreIdle f number) (sym (still refl)) idle

-- with a delivery left a turn moves
pub moves_on : (number : ℕ) (turned : Turned) (was is : Flight) (client : Client) → slice_get was.clients.items number ≡ Some client → (left_of client ≡ [] → ⊥) → (turned ≡ Moved → Moves number was is)
    → (turned ≡ Idle → IsIdle was number) → Moves number was is
moves_on number Moved was is client stands some moved idle = moved refl
moves_on number Idle was is client stands some moved idle = absurd (some (idle refl client stands).delivered)

-- a client's place is within the script
pub place_within : (tells : Type 0) (flight : Flight) (outside : Outside) (number : ℕ) → IsReady tells flight outside → number < 16 → (client_at flight number).place ≤ length flight.pieces
place_within tells flight outside number ready less =
    (All-get_or (IsSound flight.pieces flight.store.schema.catalog) flight.clients.items number fresh (omega (arith, ready.many, less)) ready.clients).place

-- where one more is idle, all up to it are
pub idle_then : (number : ℕ) (was is : Flight) → is ≡ was → AreIdle was number → IsIdle was number → AreIdle is (number + 1)
idle_then number was is same below here = subst (λ (f : Flight). AreIdle f (number + 1)) (sym same) (λ other less. elim (cases_eq other number) as (λ _. IsIdle was other) [
  | inl is_here ↦ subst (λ (n : ℕ). IsIdle was n) (sym is_here) here
  | inr apart ↦ below other (omega (arith, less, apart))
])
