-- Room for the deliveries of a plan: how many go to each table, whether all have room, and what room is left behind one of them.
use Rattle.std.proofs.Common.{◌≡◌, ◌≢◌, inl, inr, ℕ, zero, suc, ◌+◌, ◌-◌, ◌<◌, ◌≤◌, Bool, true, false, not, ◌&&◌, cond, nat_eq, nat_lt, List, [], ◌∷◌, ◌++◌, length, take, drop, get_or, slice_get, slice_set, Some, refl, sym, ap, ap₂, subst, ◌∙◌, arith, get_or-set_same, get_or-set_other}
use Rattle.std.specs.List.{All, filter, list_all}
use Rattle.std.proofs.lemmas.Bool.{cases_eq, eq-eqb, ne_eqb}
use Rattle.std.proofs.lemmas.List.Elements.{All-cons, All-head, All-nil, All-tail}
use Rattle.std.proofs.lemmas.Option.{get_or_from_slice_get, slice_get-map, slice_get_within}
use Rattle.std.specs.Option.{option_map}
use Rattle.chv_catalog.specs.Schemas.{Catalog}
use Rattle.chv_commit.specs.Replays.{MAX_ENTRIES, State, no_state}
use Rattle.chv_query.specs.Plans.{Delivery}
use Rattle.chv_plan.specs.Deliveries.{DeliversAll}
use Rattle.chv_plan.specs.declared.delivery.Delivery.{Delivery as HeldDelivery}
use Rattle.chv_store.specs.Calls.{HoldsSame}
use Rattle.chv_store.specs.Stores.{HasRoom, IsTable, states_of, state_of}
use Rattle.chv_store.specs.declared.store.Store.{Store}
use Rattle.chv_store.proofs.ReserveLemmas.{enough, too_many}
use Rattle.chv_table.specs.Tables.{held_state}
use Rattle.chv_history.specs.Events.{Plan}
use Rattle.chv_history.specs.Tasks.{deliveries_to, has_room}
use Rattle.chv_flight.specs.Rooms.{HasRooms, IsNumbered, deliveries_held}

-- one where something is so
abbrev pub one_if : Bool → ℕ
one_if true = 1
one_if false = 0

one_kept : {A : Type 0} (b : Bool) (x : A) (xs : List A) → length (cond b (x ∷ xs) xs) ≡ one_if b + length xs
one_kept true x xs = omega arith
one_kept false x xs = omega arith

at_most_one : (b : Bool) → one_if b ≤ 1
at_most_one true = omega arith
at_most_one false = omega arith

-- how many go to a table, the first being so or not
to_first : (table : ℕ) (first : Delivery) (plan : Plan) → deliveries_to table (first ∷ plan) ≡ one_if (nat_eq first.table table) + deliveries_to table plan
to_first table first plan = one_kept (nat_eq first.table table) first (filter (λ (d : Delivery). nat_eq d.table table) plan)

pub held_first : (table : ℕ) (first : HeldDelivery) (plan : List HeldDelivery) → deliveries_held table (first ∷ plan) ≡ one_if (nat_eq first.table table) + deliveries_held table plan
held_first table first plan = one_kept (nat_eq first.table table) first (filter (λ (d : HeldDelivery). nat_eq d.table table) plan)

-- and the last
pub held_last : (table : ℕ) (plan : List HeldDelivery) (last : HeldDelivery) → deliveries_held table (plan ++ last ∷ []) ≡ deliveries_held table plan + one_if (nat_eq last.table table)
held_last table [] last = held_first table last [] ∙ omega arith
held_last table (first ∷ plan) last = omega (arith, held_first table first (plan ++ last ∷ []), held_first table first plan, held_last table plan last)

pub held_most : (table : ℕ) (plan : List HeldDelivery) → deliveries_held table plan ≤ length plan
held_most table [] = omega arith
held_most table (first ∷ plan) = omega (arith, held_first table first plan, at_most_one (nat_eq first.table table), held_most table plan)

-- the deliveries that are held go to the same tables
pub delivers-to : (catalog : Catalog) (held : List HeldDelivery) (plan : Plan) (table : ℕ) → DeliversAll catalog held plan → deliveries_to table plan ≡ deliveries_held table held
delivers-to catalog [] [] table delivers = refl
delivers-to catalog [] (delivery ∷ plan) table delivers = absurd delivers
delivers-to catalog (first ∷ held) [] table delivers = absurd delivers
delivers-to catalog (first ∷ held) (delivery ∷ plan) table delivers =
    let same : nat_eq first.table table ≡ nat_eq delivery.table table = ap (λ (n : ℕ). nat_eq n table) delivers.0.table in
    omega (arith, to_first table delivery plan, held_first table first held, ap one_if same, delivers-to catalog held plan table delivers.1)

-- which stand
pub delivers-numbered : (catalog : Catalog) (held : List HeldDelivery) (plan : Plan) → DeliversAll catalog held plan → All (IsNumbered (length catalog.tables)) held
delivers-numbered catalog [] [] delivers = All-nil (IsNumbered (length catalog.tables))
delivers-numbered catalog [] (delivery ∷ plan) delivers = absurd delivers
delivers-numbered catalog (first ∷ held) [] delivers = absurd delivers
delivers-numbered catalog (first ∷ held) (delivery ∷ plan) delivers =
    let below = slice_get_within catalog.tables (delivery.table - 1) delivers.0.def delivers.0.stands in
    All-cons (IsNumbered (length catalog.tables)) first held
    (record { first = omega (arith, delivers.0.table, delivers.0.numbered); last = omega (arith, delivers.0.table, delivers.0.numbered, below) })
    (delivers-numbered catalog held plan delivers.1)

pub held_numbered : (tables : ℕ) (held : List HeldDelivery) (table : ℕ) → All (IsNumbered tables) held → 1 ≤ deliveries_held table held → (1 ≤ table) × (table ≤ tables)
held_numbered tables [] table all some = absurd (omega (arith, some))
held_numbered tables (first ∷ held) table all some = elim (cases_eq first.table table) as (λ _. (1 ≤ table) × (table ≤ tables)) [
  | inl same ↦ let is = All-head (IsNumbered tables) first held all in (omega (arith, same, is.first), omega (arith, same, is.last))
  | inr other ↦ held_numbered tables held table (All-tail (IsNumbered tables) first held all) (omega (arith, some, held_first table first held, ap one_if (ne_eqb first.table table other)))
]

-- whether a table has room for so many deliveries
abbrev fits : (ℕ → ℕ) → ℕ → ℕ → Bool
fits entries table count = not (nat_lt MAX_ENTRIES (entries table + count))

and_false : (b : Bool) → (b && false) ≡ false
and_false true = refl
and_false false = refl

-- each of some has room, where each table to which one goes has
fit_all : (entries : ℕ → ℕ) (all plan : Plan) → ((table : ℕ) → deliveries_to table plan ≤ deliveries_to table all)
    → ((table : ℕ) → 1 ≤ deliveries_to table all → entries table + deliveries_to table all ≤ MAX_ENTRIES)
    → list_all (λ (d : Delivery). fits entries d.table (deliveries_to d.table all)) plan ≡ true
fit_all entries all [] among room = refl
fit_all entries all (d ∷ plan) among room =
    let some : 1 ≤ deliveries_to d.table all = omega (arith, among d.table, to_first d.table d plan, ap one_if (eq-eqb d.table d.table refl)) in
    let here : fits entries d.table (deliveries_to d.table all) ≡ true = sym (enough MAX_ENTRIES (entries d.table + deliveries_to d.table all) (room d.table some)) in
    ap₂ (λ (a b : Bool). a && b) here (fit_all entries all plan (λ table. omega (arith, among table, to_first table d plan)) room)

-- one has none, where a table to which one goes has none
fit_none : (entries : ℕ → ℕ) (all plan : Plan) (table : ℕ) → 1 ≤ deliveries_to table plan → MAX_ENTRIES < entries table + deliveries_to table all
    → list_all (λ (d : Delivery). fits entries d.table (deliveries_to d.table all)) plan ≡ false
fit_none entries all [] table some more = absurd (omega (arith, some))
fit_none entries all (d ∷ plan) table some more =
    let rest = list_all (λ (e : Delivery). fits entries e.table (deliveries_to e.table all)) plan in
    elim (cases_eq d.table table) as (λ _. (fits entries d.table (deliveries_to d.table all) && rest) ≡ false) [
      | inl same ↦
          let here : fits entries d.table (deliveries_to d.table all) ≡ false =
          ap (λ (n : ℕ). fits entries n (deliveries_to n all)) same ∙ sym (too_many MAX_ENTRIES (entries table + deliveries_to table all) more) in
          ap (λ (a : Bool). a && rest) here
      | inr other ↦
          let later : rest ≡ false = fit_none entries all plan table (omega (arith, some, to_first table d plan, ap one_if (ne_eqb d.table table other))) more in
          ap (λ (b : Bool). fits entries d.table (deliveries_to d.table all) && b) later ∙ and_false (fits entries d.table (deliveries_to d.table all))
    ]

pub has_room-all : (entries : ℕ → ℕ) (plan : Plan) → ((table : ℕ) → 1 ≤ deliveries_to table plan → entries table + deliveries_to table plan ≤ MAX_ENTRIES) → has_room plan entries ≡ true
has_room-all entries plan room = fit_all entries plan plan (λ table. omega arith) room

pub has_room-none : (entries : ℕ → ℕ) (plan : Plan) (table : ℕ) → 1 ≤ deliveries_to table plan → MAX_ENTRIES < entries table + deliveries_to table plan → has_room plan entries ≡ false
has_room-none entries plan table some more = fit_none entries plan plan table some more

-- a table that has room has no more entries with so many
pub room_entries : (store : Store) (table count : ℕ) → HasRoom count store table → (state_of store table).entries + count ≤ MAX_ENTRIES
room_entries store table count room =
    let there = slice_get-map held_state store.tables.items (table - 1) ∙ ap (option_map held_state) room.stands in
    let state : state_of store table ≡ held_state room.held = get_or_from_slice_get (states_of store) (table - 1) (held_state room.held) no_state there in
    omega (arith, ap (λ (s : State). s.entries) state, room.room.in_number)

-- a store has room for less where it has room for more
pub room_less : (store : Store) (less more table : ℕ) → less ≤ more → HasRoom more store table → HasRoom less store table
room_less store less more table fewer room = record {
  is_table = room.is_table;
  held = room.held;
  stands = room.stands;
  room = record { in_memory = omega (arith, fewer, room.room.in_memory); in_number = omega (arith, fewer, room.room.in_number) };
}

-- what is left of a plan begins with what stands there, and what is before it ends with that
pub drop-there : (plan : List HeldDelivery) (place : ℕ) (held : HeldDelivery) → slice_get plan place ≡ Some held → drop place plan ≡ held ∷ drop (place + 1) plan
drop-there [] place held there = absurd (cc there)
drop-there (first ∷ plan) zero held there = let same : first ≡ held = cc there in ap (λ (h : HeldDelivery). h ∷ plan) same
drop-there (first ∷ plan) (suc place) held there =
    let next : suc (place + 1) ≡ suc place + 1 = omega arith in
    drop-there plan place held there ∙ ap (λ (n : ℕ). held ∷ drop n (first ∷ plan)) next

pub take-there : (plan : List HeldDelivery) (place : ℕ) (held : HeldDelivery) → slice_get plan place ≡ Some held → take (place + 1) plan ≡ take place plan ++ held ∷ []
take-there [] place held there = absurd (cc there)
take-there (first ∷ plan) zero held there = let same : first ≡ held = cc there in ap (λ (h : HeldDelivery). h ∷ []) same
take-there (first ∷ plan) (suc place) held there =
    let next : suc place + 1 ≡ suc (place + 1) = omega arith in
    ap (λ (n : ℕ). take n (first ∷ plan)) next ∙ ap (λ (l : List HeldDelivery). first ∷ l) (take-there plan place held there)

module _ (was : Store) (held : HeldDelivery) (rest : List HeldDelivery) (rooms : HasRooms (held ∷ rest) was) where
  its : deliveries_held held.table (held ∷ rest) ≡ deliveries_held held.table rest + 1
  its = omega (arith, held_first held.table held rest, ap one_if (eq-eqb held.table held.table refl))

  -- there is room for the first
  pub rooms_first : HasRoom 1 was held.table
  rooms_first = room_less was 1 (deliveries_held held.table (held ∷ rest)) held.table (omega (arith, its)) (rooms held.table (omega (arith, its)))

  -- and then for the others
  pub rooms_next : (is : Store) → ((count : ℕ) → HasRoom (count + 1) was held.table → HasRoom count is held.table) → ((other count : ℕ) → other ≢ held.table → HasRoom count was other → HasRoom count is other)
      → HasRooms rest is
  rooms_next is takes others table some = elim (cases_eq table held.table) as (λ _. HasRoom (deliveries_held table rest) is table) [
    | inl same ↦
        subst (λ (n : ℕ). HasRoom (deliveries_held n rest) is n) (sym same)
        (takes (deliveries_held held.table rest) (subst (λ (n : ℕ). HasRoom n was held.table) its (rooms held.table (omega (arith, its)))))
    | inr other ↦
        let as_many : deliveries_held table (held ∷ rest) ≡ deliveries_held table rest =
        omega (arith, held_first table held rest, ap one_if (ne_eqb held.table table (λ same. other (sym same)))) in
        others table (deliveries_held table rest) other (subst (λ (n : ℕ). HasRoom n was table) as_many (rooms table (omega (arith, some, as_many))))
  ]

-- one that holds what holds the same holds the same
pub holds_same_then : (was mid is : Store) → HoldsSame was mid → HoldsSame mid is → HoldsSame was is
holds_same_then was mid is one two = record {
  schema = two.schema ∙ one.schema;
  states = two.states ∙ one.states;
  within = two.within;
  placed = λ files placed. two.placed files (one.placed files placed);
  books = λ files payloads books held. two.books files payloads books (one.books files payloads books held);
  logs = λ files payloads commits held. two.logs files payloads commits (one.logs files payloads commits held);
}

-- a store that holds the same has the same entries, and the same tables
pub same_entries : (was is : Store) (table : ℕ) → HoldsSame was is → (state_of is table).entries ≡ (state_of was table).entries
same_entries was is table same = ap (λ (states : List State). (get_or states (table - 1) no_state).entries) same.states

pub same_table : (was is : Store) (table : ℕ) → HoldsSame was is → IsTable was table → IsTable is table
same_table was is table same here = record { first = here.first; last = omega (arith, here.last, ap (λ s. length s.catalog.tables) same.schema) }

-- one count more
module _ (counts : List ℕ) (tables : ℕ) (plan : List HeldDelivery) (place : ℕ) (held : HeldDelivery) (many : length counts ≡ tables) (there : slice_get plan place ≡ Some held) (numbered : IsNumbered tables held)
    (are : (p : ℕ) → p < tables → get_or counts p 0 ≡ deliveries_held (p + 1) (take place plan)) where
  -- which is that of its table
  pub count_few : get_or counts (held.table - 1) 0 ≤ place
  count_few = omega (arith, are (held.table - 1) (omega (arith, numbered.first, numbered.last)), held_most (held.table - 1 + 1) (take place plan), length-take plan place)
    where
      length-take : (plan : List HeldDelivery) (place : ℕ) → length (take place plan) ≤ place
      length-take plan zero = omega arith
      length-take [] (suc place) = omega arith
      length-take (first ∷ plan) (suc place) = omega (arith, length-take plan place)

  pub counts_next : (p : ℕ) → p < tables → get_or (slice_set counts (held.table - 1) (get_or counts (held.table - 1) 0 + 1)) p 0 ≡ deliveries_held (p + 1) (take (place + 1) plan)
  counts_next p below =
      let next = ap (deliveries_held (p + 1)) (take-there plan place held there) ∙ held_last (p + 1) (take place plan) held in
      elim (cases_eq p (held.table - 1)) as (λ _. get_or (slice_set counts (held.table - 1) (get_or counts (held.table - 1) 0 + 1)) p 0 ≡ deliveries_held (p + 1) (take (place + 1) plan)) [
        | inl same ↦
            let one : nat_eq held.table (p + 1) ≡ true = eq-eqb held.table (p + 1) (omega (arith, same, numbered.first)) in
            let here : get_or (slice_set counts (held.table - 1) (get_or counts (held.table - 1) 0 + 1)) p 0 ≡ get_or counts (held.table - 1) 0 + 1 =
            ap (λ (n : ℕ). get_or (slice_set counts (held.table - 1) (get_or counts (held.table - 1) 0 + 1)) n 0) same
            ∙ get_or-set_same counts (held.table - 1) (get_or counts (held.table - 1) 0 + 1) 0 (omega (arith, many, numbered.first, numbered.last)) in
            here ∙ ap (λ (n : ℕ). get_or counts n 0 + 1) (sym same) ∙ omega (arith, are p below, next, ap one_if one)
        | inr other ↦
            let none : nat_eq held.table (p + 1) ≡ false = ne_eqb held.table (p + 1) (λ same. other (omega (arith, same))) in
            get_or-set_other counts (held.table - 1) p (get_or counts (held.table - 1) 0 + 1) 0 other ∙ omega (arith, are p below, next, ap one_if none)
      ]
