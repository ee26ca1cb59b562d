-- Keys, their places, and the states of their groups.
use Rattle.std.proofs.Common.{◌≡◌, ◌∙◌, ◌+◌, ◌*◌, ◌-◌, ◌<◌, ◌≤◌, ℕ, ℤ, pos, true, false, List, [], ◌∷◌, ◌++◌, length, map, get_or, nat_eq, ne_eqb, eqb-true, refl, sym, ap, ap₂, subst, arith}
use Rattle.std.proofs.lemmas.Bool.{eqb-false}
use Rattle.std.proofs.lemmas.Cmp.{nat_eq_equiv}
use Rattle.std.proofs.lemmas.List.{append_assoc, get_or-append-add, get_or-map, get_or_append_left, length-append, length-map}
use Rattle.std.proofs.lemmas.List.Elements.{All-from_recursion}
use Rattle.std.proofs.lemmas.List.Sorted.{IsPermutation-map}
use Rattle.std.proofs.lemmas.Map.Keys.{IsDistinct-IsPermutation, IsDistinct-from_apart, IsDistinct-head}
use Rattle.std.specs.List.{All, IsDistinct}
use Rattle.std.specs.List.Sorted.{IsPermutation}
use Rattle.std.specs.Ordering.{int_cmp, ordering_then}
use Rattle.std.specs.declared.cmp.Ordering.{Ordering}
use Rattle.std.specs.declared.cmp.Ordering.TheVariants.{Less, Equal, Greater}
use Rattle.chv_agg.specs.declared.any_agg.AnyAgg.{AnyAgg}
use Rattle.chv_group.proofs.PartLemmas.{groups_of-at, keys-groups_of, length-groups_of, offset-within, other-same}
use Rattle.chv_group.proofs.TallyLemmas.{values_of-states_over}
use Rattle.chv_group.specs.Groups.{inputs_of, row_for}
use Rattle.chv_group.specs.Keys.{AreApart, ArePlaced, Group, HasStates, all_values, key_values, placed_groups, placed_row, states_at}
use Rattle.chv_group.specs.Takings.{HaveStates, IsOverInputs}
use Rattle.chv_group.specs.Tallies.{AreOver, KeepsOthers, part, states_over, values_of}
use Rattle.chv_group.specs.declared.call.AggCall.{AggCall}
use Rattle.chv_group.specs.declared.call.Keyed.{Keyed}
use Rattle.chv_group.specs.declared.placed_key.GroupKey.TheVariants.{Number}
use Rattle.chv_group.specs.declared.placed_key.PlacedKey.{PlacedKey}
use Rattle.chv_types.proofs.OrderLemmas.{value_cmp-whole}
use Rattle.chv_types.specs.Order.{row_cmp}
use Rattle.chv_types.specs.declared.value.Value.{Value}
use Rattle.chv_types.specs.declared.value.Value.TheVariants.{Whole}

-- keys that are numbers go by these
pub number_order : (m n : ℤ) → row_cmp (Whole m ∷ []) (Whole n ∷ []) ≡ int_cmp m n
number_order m n = ap (λ (o : Ordering). ordering_then o Equal) (value_cmp-whole m n) ∙ by (int_cmp m n)
  where
    by : (o : Ordering) → ordering_then o Equal ≡ o
    by Less = refl
    by Equal = refl
    by Greater = refl

-- one key more, in the next place
pub ArePlaced-push : (keys : List PlacedKey) (key : PlacedKey) → ArePlaced keys → key.place ≡ length keys → ArePlaced (keys ++ key ∷ [])
ArePlaced-push keys key placed next k d within =
    elim (nat_eq k (length keys)) as (λ b. nat_eq k (length keys) ≡ b → (get_or (keys ++ key ∷ []) k d).place ≡ k) [
      | true ↦ λ e.
          let is : k ≡ length keys + 0 = omega (arith, eqb-true k (length keys) e) in
          let last : get_or (keys ++ key ∷ []) k d ≡ key = ap (λ (n : ℕ). get_or (keys ++ key ∷ []) n d) is ∙ get_or-append-add keys (key ∷ []) 0 d in
          ap (λ (one : PlacedKey). one.place) last ∙ next ∙ sym (eqb-true k (length keys) e)
      | false ↦ λ e.
          let other : k ≡ length keys → ⊥ = eqb-false k (length keys) e in
          let some : length (keys ++ key ∷ []) ≡ length keys + 1 = length-append keys (key ∷ []) in
          let inside : k < length keys = omega (arith, within, some, other) in
          ap (λ (one : PlacedKey). one.place) (get_or_append_left keys (key ∷ []) d k inside) ∙ placed k d inside
    ] refl

-- a key for what lies behind the keys
some_key : PlacedKey
some_key = record { key = Number (pos 0); place = 0 }

places : List PlacedKey → List ℕ
places keys = map (λ (key : PlacedKey). key.place) keys

place-at : (keys : List PlacedKey) (i d : ℕ) → ArePlaced keys → i < length keys → get_or (places keys) i d ≡ i
unfolding places
place-at keys i d placed within = get_or-map (λ (key : PlacedKey). key.place) keys i some_key d within ∙ placed i some_key within

-- keys in places of their own are apart, in any order
pub AreApart-sorted : (keys sorted : List PlacedKey) → ArePlaced keys → IsPermutation keys sorted → AreApart sorted
unfolding places
AreApart-sorted keys sorted placed moved =
    IsDistinct-IsPermutation nat_eq nat_eq_equiv.symm (places keys) (places sorted) (IsPermutation-map (λ (key : PlacedKey). key.place) keys sorted moved)
    (IsDistinct-from_apart nat_eq (places keys) (λ i j d below within.
    let inside : j < length keys = rw length-map at within in
    let differ : i ≡ j → ⊥ = λ e. absurd (omega arith) in
    ap₂ nat_eq (place-at keys i d placed (omega arith)) (place-at keys j d placed inside) ∙ ne_eqb i j differ))

-- the first key is apart from the others
pub AreApart-first : (key : PlacedKey) (keys : List PlacedKey) → AreApart (key ∷ keys) → All (λ (other : PlacedKey). key.place ≡ other.place → ⊥) keys
AreApart-first key keys apart = λ k d within same.
    let other : ℕ = (get_or keys k d).place in
    let all : All (λ (place : ℕ). nat_eq key.place place ≡ false) (map (λ (one : PlacedKey). one.place) keys) =
    All-from_recursion (λ (place : ℕ). nat_eq key.place place ≡ false) (map (λ (one : PlacedKey). one.place) keys)
    (IsDistinct-head nat_eq key.place (map (λ (one : PlacedKey). one.place) keys) apart) in
    let inside : k < length (map (λ (one : PlacedKey). one.place) keys) = rw length-map within in
    let there : nat_eq key.place (get_or (map (λ (one : PlacedKey). one.place) keys) k 0) ≡ false = all k 0 inside in
    let differ : nat_eq key.place other ≡ false = ap (nat_eq key.place) (sym (get_or-map (λ (one : PlacedKey). one.place) keys k d 0 within)) ∙ there in
    eqb-false key.place other differ same

module _ (calls : List AggCall) where
  -- a group of its own for each key
  pub placed_groups-at : (keys : List PlacedKey) (tallies : List AnyAgg) (k : ℕ) (d : PlacedKey) (g : Group) → ArePlaced keys → k < length keys
      → (get_or (placed_groups (length calls) keys tallies) k g).tallies ≡ states_at calls tallies (get_or keys k d)
  placed_groups-at keys tallies k d g placed within =
      let inside : k < length (all_values keys) = rw length-map within in
      groups_of-at (length calls) (all_values keys) tallies k g inside ∙ ap (λ (place : ℕ). part (place * length calls) (length calls) tallies) (sym (placed k d within))

  pub length-placed_groups : (keys : List PlacedKey) (tallies : List AnyAgg) → length (placed_groups (length calls) keys tallies) ≡ length keys
  length-placed_groups keys tallies = length-groups_of (length calls) (all_values keys) tallies ∙ length-map keys (λ (key : PlacedKey). key_values key.key)

  pub placed_groups-key : (keys : List PlacedKey) (tallies : List AnyAgg) (k : ℕ) (d : PlacedKey) (g : Group) → k < length keys
      → (get_or (placed_groups (length calls) keys tallies) k g).key ≡ key_values (get_or keys k d).key
  placed_groups-key keys tallies k d g within =
      let inside : k < length (placed_groups (length calls) keys tallies) = omega (arith, length-placed_groups keys tallies) in
      sym (get_or-map (λ (group : Group). group.key) (placed_groups (length calls) keys tallies) k g g.key inside)
      ∙ ap (λ (values : List (List Value)). get_or values k g.key) (keys-groups_of (length calls) (all_values keys) tallies)
      ∙ get_or-map (λ (key : PlacedKey). key_values key.key) keys k d g.key within

  -- each key has its states
  pub have_states : (keys : List PlacedKey) (tallies : List AnyAgg) → ArePlaced keys → length tallies ≡ length keys * length calls → HaveStates calls (placed_groups (length calls) keys tallies)
      → All (HasStates calls tallies) keys
  have_states keys tallies placed whole over = λ k d within.
      let g : Group = record { key = []; tallies = [] } in
      let key : PlacedKey = get_or keys k d in
      let room : k * length calls + length calls ≤ length tallies = offset-within k (length keys) (length calls) (length tallies) within whole in
      let inside : k < length (placed_groups (length calls) keys tallies) = omega (arith, length-placed_groups keys tallies) in
      record {
        within = subst (λ (place : ℕ). place * length calls + length calls ≤ length tallies) (sym (placed k d within)) room;
        over = subst (AreOver calls) (placed_groups-at keys tallies k d g placed within) (over k g inside);
      }

  -- the row of each key is that of its inputs
  pub placed_rows : (keys : List PlacedKey) (tallies : List AnyAgg) (inputs : List Keyed) → ArePlaced keys → All (IsOverInputs calls inputs) (placed_groups (length calls) keys tallies)
      → All (λ (key : PlacedKey). placed_row calls tallies key ≡ row_for calls inputs (key_values key.key)) keys
  placed_rows keys tallies inputs placed over = λ k d within.
      let g : Group = record { key = []; tallies = [] } in
      let key : PlacedKey = get_or keys k d in
      let group : Group = get_or (placed_groups (length calls) keys tallies) k g in
      let inside : k < length (placed_groups (length calls) keys tallies) = omega (arith, length-placed_groups keys tallies) in
      let states : states_at calls tallies key ≡ states_over 0 calls (inputs_of (key_values key.key) inputs) =
      sym (placed_groups-at keys tallies k d g placed within) ∙ over k g inside
      ∙ ap (λ (values : List Value). states_over 0 calls (inputs_of values inputs)) (placed_groups-key keys tallies k d g within) in
      ap (λ (some : List AnyAgg). key_values key.key ++ values_of calls some) states
      ∙ ap (λ (values : List Value). key_values key.key ++ values) (values_of-states_over calls 0 (inputs_of (key_values key.key) inputs))

  -- the row of one key leaves the states of the others
  pub states-kept : (old new : List AnyAgg) (key other : PlacedKey) → (key.place ≡ other.place → ⊥) → KeepsOthers (key.place * length calls) (length calls) old new
      → states_at calls new other ≡ states_at calls old other
  states-kept old new key other apart kept = other-same (length calls) old new key.place other.place apart kept

  pub all-states-kept : (old new : List AnyAgg) (key : PlacedKey) (keys : List PlacedKey) → AreApart (key ∷ keys) → KeepsOthers (key.place * length calls) (length calls) old new
      → length new ≡ length old → All (HasStates calls old) keys → All (HasStates calls new) keys
  all-states-kept old new key keys apart kept size all = λ k d within.
      let other : PlacedKey = get_or keys k d in
      let same = states-kept old new key other (AreApart-first key keys apart k d within) kept in
      let has : HasStates calls old other = all k d within in
      record { within = omega (arith, has.within, size); over = subst (AreOver calls) (sym same) has.over }

  pub all-same-kept : (old new whole : List AnyAgg) (key : PlacedKey) (keys : List PlacedKey) → AreApart (key ∷ keys) → KeepsOthers (key.place * length calls) (length calls) old new
      → All (λ (other : PlacedKey). states_at calls old other ≡ states_at calls whole other) keys → All (λ (other : PlacedKey). states_at calls new other ≡ states_at calls whole other) keys
  all-same-kept old new whole key keys apart kept all = λ k d within.
      states-kept old new key (get_or keys k d) (AreApart-first key keys apart k d within) kept ∙ all k d within

  -- one row more
  pub placed-step : (tallies whole : List AnyAgg) (left rest : List PlacedKey) (key : PlacedKey) (rows new all : List (List Value)) (row : List Value) → left ≡ key ∷ rest
      → row ≡ placed_row calls tallies key → new ≡ rows ++ row ∷ [] → states_at calls tallies key ≡ states_at calls whole key → rows ++ map (placed_row calls whole) left ≡ all
      → new ++ map (placed_row calls whole) rest ≡ all
  placed-step tallies whole left rest key rows new all row is made pushed same so_far =
      let whole_row : row ≡ placed_row calls whole key = made ∙ ap (λ (states : List AnyAgg). key_values key.key ++ values_of calls states) same in
      rw (pushed, whole_row, append_assoc) (ap (λ (some : List PlacedKey). rows ++ map (placed_row calls whole) some) (sym is) ∙ so_far)
