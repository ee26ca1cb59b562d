-- Keys, and groups of states by them.
use Rattle.std.specs.Prelude.{ℕ, ◌≡◌, ◌+◌, ◌*◌, ◌<◌, ◌≤◌, Bool, List, [], ◌∷◌, ◌++◌, length, map, take, drop, nat_eq, slice_index_or}
use Rattle.std.specs.List.{IsDistinct}
use Rattle.std.specs.Ordering.{is_lt}
use Rattle.chv_agg.specs.declared.any_agg.AnyAgg.{AnyAgg}
use Rattle.chv_group.specs.Tallies.{AreOver, part, values_of}
use Rattle.chv_group.specs.declared.call.AggCall.{AggCall}
use Rattle.chv_group.specs.declared.placed_key.GroupKey.{GroupKey}
use Rattle.chv_group.specs.declared.placed_key.GroupKey.TheVariants.{Number, Values}
use Rattle.chv_group.specs.declared.placed_key.PlacedKey.{PlacedKey}
use Rattle.chv_types.specs.Order.{row_cmp}
use Rattle.chv_types.specs.declared.value.Value.{Value}
use Rattle.chv_types.specs.declared.value.Value.TheVariants.{Whole}

-- the values of a key
abbrev pub key_values : GroupKey → List Value
key_values (Number n) = Whole n ∷ []
key_values (Values row) = row

-- a key stands before another
abbrev pub key_below : PlacedKey → PlacedKey → Bool
key_below a b = is_lt (row_cmp (key_values a.key) (key_values b.key))

-- the values of keys
abbrev pub all_values : List PlacedKey → List (List Value)
all_values keys = map (λ (key : PlacedKey). key_values key.key) keys

-- each key has its own place, from 0 on
abbrev pub ArePlaced : List PlacedKey → Type 0
ArePlaced keys = (k : ℕ) (d : PlacedKey) → k < length keys → (slice_index_or keys k d).place ≡ k

-- no two keys have one place
abbrev pub AreApart : List PlacedKey → Type 0
AreApart keys = IsDistinct nat_eq (map (λ (key : PlacedKey). key.place) keys)

-- keys with one of these values behind them, in the next place
abbrev pub PushesKey : List PlacedKey → List PlacedKey → List Value → Type 0
PushesKey old new values = (key : PlacedKey) × (new ≡ old ++ key ∷ []) × (key_values key.key ≡ values) × (key.place ≡ length old)

-- a group: its key, and the states of the calls over its inputs
pub record Group : Type 0 where
  pub key : List Value
  pub tallies : List AnyAgg

-- the groups of keys, where each has so many of the states, one's behind the other's
abbrev pub groups_of : ℕ → List (List Value) → List AnyAgg → List Group
groups_of count [] tallies = []
groups_of count (key ∷ keys) tallies = record { key = key; tallies = take count tallies } ∷ groups_of count keys (drop count tallies)

abbrev pub placed_groups : ℕ → List PlacedKey → List AnyAgg → List Group
placed_groups count keys tallies = groups_of count (all_values keys) tallies

-- the states of the group of a key
abbrev pub states_at : List AggCall → List AnyAgg → PlacedKey → List AnyAgg
states_at calls tallies key = part (key.place * length calls) (length calls) tallies

-- there is a state of each call over the group of a key
pub record HasStates (calls : List AggCall) (tallies : List AnyAgg) (key : PlacedKey) : Type 0 where
  pub within : key.place * length calls + length calls ≤ length tallies
  pub over : AreOver calls (states_at calls tallies key)

-- the row of a key: its values, and behind them what the calls give of its states
abbrev pub placed_row : List AggCall → List AnyAgg → PlacedKey → List Value
placed_row calls tallies key = key_values key.key ++ values_of calls (states_at calls tallies key)
