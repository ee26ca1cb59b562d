-- What a grouping has taken.
use Rattle.std.specs.Prelude.{◌≡◌, ◌*◌, ℕ, List, map, length}
use Rattle.std.specs.List.{All, IsDistinct}
use Rattle.std.specs.Ordering.{eq_by_cmp}
use Rattle.chv_agg.specs.declared.any_agg.AnyAgg.{AnyAgg}
use Rattle.chv_group.specs.Groups.{inputs_of}
use Rattle.chv_group.specs.KeyBytes.{IsHeld, key_bytes}
use Rattle.chv_group.specs.Keys.{ArePlaced, Group, placed_groups}
use Rattle.chv_group.specs.Tallies.{AreOver, states_over}
use Rattle.chv_group.specs.declared.call.AggCall.{AggCall}
use Rattle.chv_group.specs.declared.call.Keyed.{Keyed}
use Rattle.chv_group.specs.declared.placed_key.PlacedKey.{PlacedKey}
use Rattle.chv_types.specs.Members.{HaveSame}
use Rattle.chv_types.specs.Order.{row_cmp}
use Rattle.chv_types.specs.declared.value.Value.{Value}

-- what a grouping holds: the calls, the bytes of the keys, and the groups in the order in which their keys came
pub record Gathered : Type 0 where
  pub calls : List AggCall
  pub names : List (List ℕ)
  pub groups : List Group

-- the keys of groups, and of inputs
abbrev pub group_keys : List Group → List (List Value)
group_keys groups = map (λ (group : Group). group.key) groups

abbrev pub input_keys : List Keyed → List (List Value)
input_keys inputs = map (λ (input : Keyed). input.key) inputs

-- each group has a state of each call
abbrev pub HaveStates : List AggCall → List Group → Type 0
HaveStates calls groups = All (λ (group : Group). AreOver calls group.tallies) groups

-- each key has its bytes, its place and a state of each call
pub record IsSound (calls : List AggCall) (names : List (List ℕ)) (keys : List PlacedKey) (tallies : List AnyAgg) : Type 0 where
  pub sizes : length names ≡ length keys
  pub placed : ArePlaced keys
  pub whole : length tallies ≡ length keys * length calls
  pub over : HaveStates calls (placed_groups (length calls) keys tallies)

-- the states of a group are those over its inputs
abbrev pub IsOverInputs : List AggCall → List Keyed → Group → Type 0
IsOverInputs calls inputs group = group.tallies ≡ states_over 0 calls (inputs_of group.key inputs)

-- groups are those of inputs: there is one for each key, found by its bytes, with the states over its inputs
pub record AreOf (calls : List AggCall) (names : List (List ℕ)) (groups : List Group) (inputs : List Keyed) : Type 0 where
  pub named : names ≡ map key_bytes (group_keys groups)
  pub apart : IsDistinct (eq_by_cmp row_cmp) (group_keys groups)
  pub held : All (All IsHeld) (group_keys groups)
  pub same : HaveSame (input_keys inputs) (group_keys groups)
  pub states : All (IsOverInputs calls inputs) groups

-- a grouping has taken these inputs, one after the other
abbrev pub HasTaken : Gathered → List Keyed → Type 0
HasTaken grouping taken = AreOf grouping.calls grouping.names grouping.groups taken
