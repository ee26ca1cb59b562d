-- How the pieces that are left follow from the next piece of a client.
use Rattle.std.proofs.Common.{◌≡◌, ℕ, suc, ◌+◌, ◌-◌, ◌<◌, ◌==◌, List, [], ◌∷◌, ◌++◌, length, get_or, drop, ap, sym, ◌∙◌, Some, None, arith, eqb-true}
use Rattle.std.specs.List.{position, flat_map, range_with_len, Contains}
use Rattle.std.proofs.lemmas.List.{get_or-drop, get_or_default, length-drop, drop-drop}
use Rattle.std.proofs.lemmas.List.Quantifiers.{position-Some}
use Rattle.chv_lex.specs.Scripts.{pieces_of}
use Rattle.chv_lex.specs.declared.piece.Piece.{Piece}
use Rattle.chv_history.specs.Script.{of_client, from_client, left_at, requests_in, requests_of}
use Rattle.chv_flight.proofs.PlaceLemmas.{at_place, filter-first, filter-none}

-- the clients from one on, and those behind it
clients_behind : (client : ℕ) → client < 16 → range_with_len client (16 - client) ≡ client ∷ range_with_len (client + 1) (16 - (client + 1))
clients_behind client below =
    let more : 16 - client ≡ suc (16 - (client + 1)) = omega (arith, below) in
    ap (range_with_len client) more

-- all pieces of a client and of those behind it
pub left_at-first : (client : ℕ) (pieces : List Piece) → client < 16 → left_at client 0 pieces ≡ from_client client pieces
unfolding left_at from_client
left_at-first client pieces below = sym (ap (flat_map (of_client pieces)) (clients_behind client below))

-- a client's next piece
pub left_at-next : (client place behind : ℕ) (pieces : List Piece) (piece : Piece) → of_client (drop place pieces) client ≡ piece ∷ of_client (drop behind pieces) client → piece.client ≡ client
    → left_at client place pieces ≡ piece ∷ left_at piece.client behind pieces
unfolding left_at
left_at-next client place behind pieces piece is same =
    ap (λ (l : List Piece). l ++ from_client (client + 1) pieces) is
    ∙ ap (λ (c : ℕ). piece ∷ of_client (drop behind pieces) c ++ from_client (c + 1) pieces) (sym same)

-- a client has none left
left_at-behind : (client place : ℕ) (pieces : List Piece) → of_client (drop place pieces) client ≡ [] → left_at client place pieces ≡ from_client (client + 1) pieces
unfolding left_at
left_at-behind client place pieces none = ap (λ (l : List Piece). l ++ from_client (client + 1) pieces) none

pub left_at-later : (client place : ℕ) (pieces : List Piece) → client < 15 → of_client (drop place pieces) client ≡ [] → left_at client place pieces ≡ left_at (client + 1) 0 pieces
left_at-later client place pieces below none = left_at-behind client place pieces none ∙ sym (left_at-first (client + 1) pieces (omega (arith, below)))

pub left_at-last : (place : ℕ) (pieces : List Piece) → of_client (drop place pieces) 15 ≡ [] → left_at 15 place pieces ≡ []
unfolding from_client
left_at-last place pieces none = left_at-behind 15 place pieces none

-- a client's next piece behind a place
module _ (client place next : ℕ) (pieces : List Piece) (d : Piece) (found : position (λ (piece : Piece). piece.client == client) (drop place pieces) ≡ Some next) where
  pub next_is : of_client (drop place pieces) client ≡ get_or pieces (place + next) d ∷ of_client (drop (place + next + 1) pieces) client
  next_is =
      filter-first (λ (piece : Piece). piece.client == client) (drop place pieces) next d found
      ∙ ap (λ (piece : Piece). piece ∷ of_client (drop (next + 1) (drop place pieces)) client) (get_or-drop place pieces next d)
      ∙ ap (λ (l : List Piece). get_or pieces (place + next) d ∷ of_client l client) (drop-drop (next + 1) place pieces ∙ ap (λ (n : ℕ). drop n pieces) (omega arith))

  pub next_client : (get_or pieces (place + next) d).client ≡ client
  next_client =
      ap (λ (piece : Piece). piece.client) (sym (get_or-drop place pieces next d))
      ∙ eqb-true (get_or (drop place pieces) next d).client client (position-Some (λ (piece : Piece). piece.client == client) (drop place pieces) next d found).1

  pub next_below : place + next < length pieces
  next_below = omega (arith, (at_place (λ (piece : Piece). piece.client == client) (drop place pieces) next found).1, length-drop place pieces)

  pub next_among : Contains pieces (get_or pieces (place + next) d)
  next_among = (place + next, next_below, get_or_default pieces (place + next) (get_or pieces (place + next) d) d next_below)

pub none_next : (client place : ℕ) (pieces : List Piece) → position (λ (piece : Piece). piece.client == client) (drop place pieces) ≡ None → of_client (drop place pieces) client ≡ []
none_next client place pieces none = filter-none (λ (piece : Piece). piece.client == client) (drop place pieces) none

-- the requests of a script are those in its pieces
pub requests_of-pieces : (script : List ℕ) (pieces : List Piece) → pieces ≡ pieces_of script → requests_in script (from_client 0 pieces) ≡ requests_of script
unfolding requests_of
requests_of-pieces script pieces is = ap (λ (ps : List Piece). requests_in script (from_client 0 ps)) is
