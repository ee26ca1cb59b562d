-- A grouping that takes an input.
use Rattle.std.proofs.Common.{◌≡◌, ◌∙◌, ◌+◌, ◌*◌, ◌<◌, ◌≤◌, ℕ, suc, List, [], ◌∷◌, ◌++◌, length, get_or, set, None, Some, refl, sym, ap, ap₂, subst, arith}
use Rattle.std.proofs.Math.Nat.{suc-mul}
use Rattle.std.proofs.lemmas.List.{length-append, length-map, map_push}
use Rattle.std.proofs.lemmas.List.Elements.{All-push, All-set}
use Rattle.std.proofs.lemmas.List.Quantifiers.{position-Some}
use Rattle.std.specs.List.{All}
use Rattle.std.specs.Str.{bytes_eq}
use Rattle.chv_agg.specs.declared.any_agg.AnyAgg.{AnyAgg}
use Rattle.chv_group.proofs.GroupLemmas.{AreOf-known, AreOf-new}
use Rattle.chv_group.proofs.KeyLemmas.{ArePlaced-push}
use Rattle.chv_group.proofs.PartLemmas.{groups_of-at, groups_of-push, groups_of-set, length-groups_of, offset-within}
use Rattle.chv_group.proofs.TallyLemmas.{AreOver-length}
use Rattle.chv_group.specs.Groups.{TakesArguments}
use Rattle.chv_group.specs.KeyBytes.{IsHeld, key_bytes}
use Rattle.chv_group.specs.Keys.{ArePlaced, Group, PushesKey, all_values, groups_of, key_values, placed_groups}
use Rattle.chv_group.specs.Takings.{AreOf, HaveStates, IsSound}
use Rattle.chv_group.specs.Tallies.{AreOver, KeepsOthers, fed, part, units}
use Rattle.chv_group.specs.declared.call.AggCall.{AggCall}
use Rattle.chv_group.specs.declared.call.Keyed.{Keyed}
use Rattle.chv_group.specs.declared.placed_key.PlacedKey.{PlacedKey}
use Rattle.chv_types.specs.Names.{place_of}
use Rattle.chv_types.specs.declared.value.Value.{Value}

-- a group for what lies behind the groups
no_group : Group
no_group = record { key = []; tallies = [] }

module _ (calls : List AggCall) (names : List (List ℕ)) (keys : List PlacedKey) (tallies : List AnyAgg) (sound : IsSound calls names keys tallies) where
  known_place : (name : List ℕ) (place : ℕ) → place_of name names ≡ Some place → place < length keys
  known_place name place at =
      let p = position-Some (λ (other : List ℕ). bytes_eq other name) names place name at in
      omega (arith, p.0, sound.sizes)

  -- a key that is found has its states
  pub known-within : (name : List ℕ) (place : ℕ) → place_of name names ≡ Some place → place * length calls + length calls ≤ length tallies
  known-within name place at = offset-within place (length keys) (length calls) (length tallies) (known_place name place at) sound.whole

  pub known-over : (name : List ℕ) (place : ℕ) → place_of name names ≡ Some place → AreOver calls (part (place * length calls) (length calls) tallies)
  known-over name place at =
      let within : place < length keys = known_place name place at in
      let inside : place < length (all_values keys) = rw length-map within in
      let there : place < length (placed_groups (length calls) keys tallies) = omega (arith, inside, length-groups_of (length calls) (all_values keys) tallies) in
      subst (AreOver calls) (groups_of-at (length calls) (all_values keys) tallies place no_group inside) (sound.over place no_group there)

  module _ (new : List AnyAgg) (name : List ℕ) (place : ℕ) (at : place_of name names ≡ Some place) (others : KeepsOthers (place * length calls) (length calls) tallies new) where
    known_groups : placed_groups (length calls) keys new
        ≡ set (placed_groups (length calls) keys tallies) place (record { key = (get_or (placed_groups (length calls) keys tallies) place no_group).key; tallies = part (place * length calls) (length calls) new })
    known_groups =
        let within : place < length keys = known_place name place at in
        let inside : place < length (all_values keys) = rw length-map within in
        groups_of-set (length calls) (all_values keys) tallies new place no_group inside others

    -- with other states for it, all is sound
    pub known-sound : length new ≡ length tallies → AreOver calls (part (place * length calls) (length calls) new) → IsSound calls names keys new
    known-sound size over = record {
      sizes = sound.sizes;
      placed = sound.placed;
      whole = size ∙ sound.whole;
      over =
          subst (HaveStates calls) (sym known_groups)
          (All-set (λ (group : Group). AreOver calls group.tallies) (placed_groups (length calls) keys tallies) place
          (record { key = (get_or (placed_groups (length calls) keys tallies) place no_group).key; tallies = part (place * length calls) (length calls) new }) over sound.over);
    }

  -- an input of a key that is found goes to its group
  pub known-taken : (new : List AnyAgg) (inputs : List Keyed) (input : Keyed) (place : ℕ) → place_of (key_bytes input.key) names ≡ Some place
      → KeepsOthers (place * length calls) (length calls) tallies new → All IsHeld input.key → TakesArguments calls input.args
      → part (place * length calls) (length calls) new ≡ fed calls (part (place * length calls) (length calls) tallies) input.args
      → AreOf calls names (placed_groups (length calls) keys tallies) inputs → AreOf calls names (placed_groups (length calls) keys new) (inputs ++ input ∷ [])
  known-taken new inputs input place at others held takes taken of =
      let within : place < length keys = known_place (key_bytes input.key) place at in
      let inside : place < length (all_values keys) = rw length-map within in
      let there : (get_or (placed_groups (length calls) keys tallies) place no_group).tallies ≡ part (place * length calls) (length calls) tallies =
      groups_of-at (length calls) (all_values keys) tallies place no_group inside in
      subst (λ (groups : List Group). AreOf calls names groups (inputs ++ input ∷ [])) (sym (known_groups new (key_bytes input.key) place at others))
      (AreOf-known calls names (placed_groups (length calls) keys tallies) inputs input of held takes place no_group
      (record { key = (get_or (placed_groups (length calls) keys tallies) place no_group).key; tallies = part (place * length calls) (length calls) new }) at refl
      (taken ∙ ap (λ (states : List AnyAgg). fed calls states input.args) (sym there)))

  module _ (pushed : List PlacedKey) (new : List AnyAgg) (key : List Value) (args : List Value) (pushes : PushesKey keys pushed key) (taken : new ≡ tallies ++ fed calls (units calls) args)
      (over : AreOver calls (fed calls (units calls) args)) where
    new_groups : placed_groups (length calls) pushed new ≡ placed_groups (length calls) keys tallies ++ record { key = key; tallies = fed calls (units calls) args } ∷ []
    new_groups =
        let values : all_values pushed ≡ all_values keys ++ key ∷ [] =
        ap all_values pushes.1 ∙ map_push (λ (one : PlacedKey). key_values one.key) keys pushes.0 ∙ ap (λ (one : List Value). all_values keys ++ one ∷ []) pushes.2 in
        let size : length tallies ≡ length (all_values keys) * length calls =
        sound.whole ∙ ap (λ (n : ℕ). n * length calls) (sym (length-map keys (λ (one : PlacedKey). key_values one.key))) in
        ap₂ (λ (some : List (List Value)) (states : List AnyAgg). groups_of (length calls) some states) values taken
        ∙ groups_of-push (length calls) (all_values keys) key tallies (fed calls (units calls) args) size (AreOver-length calls (fed calls (units calls) args) over)

    -- with a group more, all is sound
    pub new-sound : (name : List ℕ) → IsSound calls (names ++ name ∷ []) pushed new
    new-sound name =
        let long : length pushed ≡ length keys + 1 = ap length pushes.1 ∙ length-append keys (pushes.0 ∷ []) in
        let more : length (names ++ name ∷ []) ≡ length names + 1 = length-append names (name ∷ []) in
        let states : length new ≡ length tallies + length (fed calls (units calls) args) = ap length taken ∙ length-append tallies (fed calls (units calls) args) in
        let width : length (fed calls (units calls) args) ≡ length calls = AreOver-length calls (fed calls (units calls) args) over in
        let times : length pushed * length calls ≡ length keys * length calls + length calls =
        ap (λ (n : ℕ). n * length calls) (long ∙ omega arith) ∙ suc-mul (length keys) (length calls) in
        record {
          sizes = omega (arith, long, more, sound.sizes);
          placed = subst ArePlaced (sym pushes.1) (ArePlaced-push keys pushes.0 sound.placed pushes.3);
          whole = omega (arith, states, width, times, sound.whole);
          over =
              subst (HaveStates calls) (sym new_groups)
              (All-push (λ (group : Group). AreOver calls group.tallies) (placed_groups (length calls) keys tallies) (record { key = key; tallies = fed calls (units calls) args }) sound.over over);
        }

  -- an input of a new key begins a group
  pub new-taken : (pushed : List PlacedKey) (new : List AnyAgg) (inputs : List Keyed) (input : Keyed) → PushesKey keys pushed input.key → new ≡ tallies ++ fed calls (units calls) input.args
      → AreOver calls (fed calls (units calls) input.args) → place_of (key_bytes input.key) names ≡ None → All IsHeld input.key → TakesArguments calls input.args
      → AreOf calls names (placed_groups (length calls) keys tallies) inputs
      → AreOf calls (names ++ key_bytes input.key ∷ []) (placed_groups (length calls) pushed new) (inputs ++ input ∷ [])
  new-taken pushed new inputs input pushes taken over none held takes of =
      subst (λ (groups : List Group). AreOf calls (names ++ key_bytes input.key ∷ []) groups (inputs ++ input ∷ [])) (sym (new_groups pushed new input.key input.args pushes taken over))
      (AreOf-new calls names (placed_groups (length calls) keys tallies) inputs input of held takes (record { key = input.key; tallies = fed calls (units calls) input.args }) none refl refl)
