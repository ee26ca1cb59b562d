-- Room for a plan beside what clients have left, and how that is counted.
use Rattle.std.proofs.Common.{◌≡◌, ◌⊎◌, inl, inr, ℕ, zero, suc, ◌+◌, ◌≤◌, List, [], ◌∷◌, ◌++◌, length, drop, take, slice_get, Some, refl, sym, subst, arith}
use Rattle.std.specs.List.{All}
use Rattle.std.proofs.lemmas.List.Elements.{All-cons, All-head, All-nil, All-tail}
use Rattle.chv_commit.specs.Replays.{MAX_ENTRIES}
use Rattle.chv_plan.specs.declared.delivery.Delivery.{Delivery as HeldDelivery}
use Rattle.chv_store.specs.Stores.{HasRoom}
use Rattle.chv_store.specs.declared.store.Store.{Store}
use Rattle.chv_flight.specs.Flights.{left_in, left_of}
use Rattle.chv_flight.specs.Rooms.{HasRooms, deliveries_held}
use Rattle.chv_flight.specs.declared.client.Client.{Client}
use Rattle.chv_flight.proofs.EachLemmas.{held-append}
use Rattle.chv_flight.proofs.RoomLemmas.{room_entries}

some_or_none : (n : ℕ) → (n ≡ 0) ⊎ (1 ≤ n)
some_or_none zero = inl refl
some_or_none (suc n) = inr (omega arith)

-- there is room for a plan beside others, where there was for the others, and is for both in each table to which one of the
-- plan goes
pub rooms_beside : (was is : Store) (left plan : List HeldDelivery) → ((other room : ℕ) → HasRoom room was other → HasRoom room is other) → HasRooms left was
    → ((table : ℕ) → 1 ≤ deliveries_held table plan → HasRoom (deliveries_held table left + deliveries_held table plan) is table) → HasRooms (left ++ plan) is
rooms_beside was is left plan kept rooms new table some =
    let all = held-append table left plan in
    elim (some_or_none (deliveries_held table plan)) as (λ _. HasRoom (deliveries_held table (left ++ plan)) is table) [
      | inl none ↦
          let same : deliveries_held table left ≡ deliveries_held table (left ++ plan) = omega (arith, all, none) in
          subst (λ (n : ℕ). HasRoom n is table) same (kept table (deliveries_held table left) (rooms table (omega (arith, some, same))))
      | inr more ↦ subst (λ (n : ℕ). HasRoom n is table) (sym all) (new table more)
    ]

-- what there is room for is no more than a table may have
pub rooms_few : (store : Store) (left : List HeldDelivery) → HasRooms left store → (table : ℕ) → deliveries_held table left ≤ MAX_ENTRIES
rooms_few store left rooms table = elim (some_or_none (deliveries_held table left)) as (λ _. deliveries_held table left ≤ MAX_ENTRIES) [
  | inl none ↦ omega (arith, none)
  | inr some ↦ omega (arith, room_entries store table (deliveries_held table left) (rooms table some))
]

-- what is left of a list begins with what stands there
drop_there : {A : Type 0} (xs : List A) (place : ℕ) (x : A) → slice_get xs place ≡ Some x → drop place xs ≡ x ∷ drop (place + 1) xs
drop_there {A} [] place x there = absurd (cc there)
drop_there {A} (first ∷ xs) zero x there = cc
drop_there {A} (first ∷ xs) (suc place) x there =
    let next : suc (place + 1) ≡ suc place + 1 = omega arith in
    subst (λ (n : ℕ). drop (suc place) (first ∷ xs) ≡ x ∷ drop n (first ∷ xs)) next (drop_there xs place x there)

-- so many of a list are so many at most
pub take_few : {A : Type 0} (xs : List A) (place : ℕ) → length (take place xs) ≤ place
take_few {A} xs zero = omega arith
take_few {A} [] (suc place) = omega arith
take_few {A} (first ∷ xs) (suc place) = omega (arith, take_few xs place)

-- the deliveries of the next client, and of those behind it
pub left_next : (table : ℕ) (clients : List Client) (place : ℕ) (client : Client) → slice_get clients place ≡ Some client
    → deliveries_held table (left_in (drop place clients)) ≡ deliveries_held table (left_of client) + deliveries_held table (left_in (drop (place + 1) clients))
left_next table clients place client there =
    subst (λ (l : List Client). deliveries_held table (left_in l) ≡ deliveries_held table (left_of client) + deliveries_held table (left_in (drop (place + 1) clients))) (sym (drop_there clients place client there))
    (held-append table (left_of client) (left_in (drop (place + 1) clients)))
