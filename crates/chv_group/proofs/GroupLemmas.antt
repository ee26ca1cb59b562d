-- Groups with one input more.
use Rattle.std.proofs.Common.{◌≡◌, ℕ, zero, suc, ◌<◌, ◌||◌, Bool, true, false, Less, Greater, List, [], ◌∷◌, ◌++◌, length, map, set, get_or, Equal, None, Some, refl, sym, ap, subst, ◌∙◌, arith, ◌⊎◌, inl, inr, is_some}
use Rattle.std.proofs.lemmas.Cmp.{eq_by_cmp_equiv, tied_itself, nat_list_eq_equiv}
use Rattle.std.proofs.lemmas.List.{append-nil, get_or-map, length-map, map_push, map-set, set-get_or}
use Rattle.std.proofs.lemmas.List.Elements.{All-from_recursion, All-get_or, All-head, All-tail, All-cons, All-push, All-contains, Contains-get_or, Contains-append_left, Contains-push_cases, filter-append}
use Rattle.std.proofs.lemmas.List.Quantifiers.{position-Some}
use Rattle.std.proofs.lemmas.Map.Keys.{IsDistinct-head, IsDistinct-tail, IsDistinct-push}
use Rattle.std.proofs.lemmas.Slice.Eq.{bytes_eq-Decides}
use Rattle.std.specs.List.{All, Contains, IsDistinct, list_any}
use Rattle.std.specs.Ordering.{eq_by_cmp, is_eq}
use Rattle.std.specs.Str.{bytes_eq}
use Rattle.std.specs.declared.cmp.Ordering.{Ordering}
use Rattle.chv_group.proofs.KeyBytesLemmas.{same_key}
use Rattle.chv_group.proofs.KeyNameLemmas.{is_some-position}
use Rattle.chv_group.proofs.TallyLemmas.{fed-states_over, states_over-none}
use Rattle.chv_group.specs.Groups.{TakesArguments, inputs_of}
use Rattle.chv_group.specs.KeyBytes.{IsHeld, key_bytes}
use Rattle.chv_group.specs.Keys.{Group}
use Rattle.chv_group.specs.Takings.{AreOf, IsOverInputs, group_keys, input_keys}
use Rattle.chv_group.specs.Tallies.{fed, states_over, units}
use Rattle.chv_group.specs.declared.call.AggCall.{AggCall}
use Rattle.chv_group.specs.declared.call.Keyed.{Keyed}
use Rattle.chv_types.proofs.MemberLemmas.{HaveSame-append}
use Rattle.chv_types.specs.Members.{HaveSame}
use Rattle.chv_types.specs.Names.{place_of}
use Rattle.chv_types.specs.Order.{row_cmp}
use Rattle.chv_types.specs.OrderLaws.{row_cmp_total, row_cmp-IsAntisymmetric}
use Rattle.chv_types.specs.declared.value.Value.{Value}

-- two keys are the same
abbrev same_row : List Value → List Value → Bool
same_row = eq_by_cmp row_cmp

is_eq-Equal : (o : Ordering) → is_eq o ≡ true → o ≡ Equal
is_eq-Equal Less e = cc
is_eq-Equal Equal e = refl
is_eq-Equal Greater e = cc

pub same_row-true : (a b : List Value) → same_row a b ≡ true → a ≡ b
same_row-true a b e = row_cmp-IsAntisymmetric a b (is_eq-Equal (row_cmp a b) e)

pub same_row-itself : (a : List Value) → same_row a a ≡ true
same_row-itself a = ap is_eq (tied_itself row_cmp_total a)

-- the inputs of a key with one more: that one too, where it has the key
pub inputs_of-more : (key : List Value) (inputs : List Keyed) (input : Keyed) → input.key ≡ key → inputs_of key (inputs ++ input ∷ []) ≡ inputs_of key inputs ++ input ∷ []
inputs_of-more key inputs input same =
    let passes : is_eq (row_cmp input.key key) ≡ true = ap (λ (k : List Value). same_row input.key k) (sym same) ∙ same_row-itself input.key in
    rw (filter-append (λ (other : Keyed). is_eq (row_cmp other.key key)) inputs (input ∷ []), passes) refl

pub inputs_of-same : (key : List Value) (inputs : List Keyed) (input : Keyed) → same_row input.key key ≡ false → inputs_of key (inputs ++ input ∷ []) ≡ inputs_of key inputs
inputs_of-same key inputs input apart =
    rw (filter-append (λ (other : Keyed). is_eq (row_cmp other.key key)) inputs (input ∷ []), apart) (append-nil (inputs_of key inputs))

module _ (calls : List AggCall) (inputs : List Keyed) (input : Keyed) where
  -- groups of other keys stay
  others : (groups : List Group) → All (λ (key : List Value). same_row input.key key ≡ false) (group_keys groups)
      → All (IsOverInputs calls inputs) groups → All (IsOverInputs calls (inputs ++ input ∷ [])) groups
  others [] apart all = λ k d within. absurd (omega arith)
  others (group ∷ groups) apart all =
      All-cons (IsOverInputs calls (inputs ++ input ∷ [])) group groups
      (All-head (IsOverInputs calls inputs) group groups all
      ∙ ap (states_over 0 calls) (sym (inputs_of-same group.key inputs input (All-head (λ (key : List Value). same_row input.key key ≡ false) group.key (group_keys groups) apart))))
      (others groups (All-tail (λ (key : List Value). same_row input.key key ≡ false) group.key (group_keys groups) apart) (All-tail (IsOverInputs calls inputs) group groups all))

  -- the group of the input's key takes it
  own : (old new : Group) → IsOverInputs calls inputs old → old.key ≡ input.key → new.key ≡ old.key → TakesArguments calls input.args
      → new.tallies ≡ fed calls old.tallies input.args → IsOverInputs calls (inputs ++ input ∷ []) new
  own old new over same kept takes taken =
      taken ∙ ap (λ states. fed calls states input.args) over ∙ fed-states_over calls 0 (inputs_of old.key inputs) input input.args refl takes
      ∙ ap (states_over 0 calls) (sym (inputs_of-more old.key inputs input (sym same))) ∙ ap (λ (key : List Value). states_over 0 calls (inputs_of key (inputs ++ input ∷ []))) (sym kept)

  -- where the key of a group is that of an input, the others have other keys
  turned : (groups : List Group) (key : List Value) → key ≡ input.key → All (λ (other : List Value). same_row key other ≡ false) (group_keys groups)
      → All (λ (other : List Value). same_row input.key other ≡ false) (group_keys groups)
  turned groups key same apart = subst (λ (k : List Value). All (λ (other : List Value). same_row k other ≡ false) (group_keys groups)) same apart

  before : (groups : List Group) (place : ℕ) (d : Group) (key : List Value) → place < length groups → (get_or groups place d).key ≡ input.key
      → All (λ (other : List Value). same_row key other ≡ false) (group_keys groups) → same_row input.key key ≡ false
  before groups place d key within same apart =
      let there : same_row key (get_or groups place d).key ≡ false = All-get_or (λ (group : Group). same_row key group.key ≡ false) groups place d within (unmap groups apart) in
      (eq_by_cmp_equiv row_cmp_total).symm input.key key ∙ ap (same_row key) (sym same) ∙ there
    where
      unmap : (groups : List Group) → All (λ (other : List Value). same_row key other ≡ false) (group_keys groups) → All (λ (group : Group). same_row key group.key ≡ false) groups
      unmap groups all k d within = rw (get_or-map (λ (group : Group). group.key) groups k d d.key within) at (all k d.key (rw length-map within))

  pub one-takes : (groups : List Group) (place : ℕ) (d new : Group) → place < length groups → IsDistinct same_row (group_keys groups)
      → (get_or groups place d).key ≡ input.key → new.key ≡ (get_or groups place d).key → TakesArguments calls input.args
      → new.tallies ≡ fed calls (get_or groups place d).tallies input.args → All (IsOverInputs calls inputs) groups
      → All (IsOverInputs calls (inputs ++ input ∷ [])) (set groups place new)
  one-takes [] place d new within distinct same kept takes taken all = absurd (omega arith)
  one-takes (group ∷ groups) zero d new within distinct same kept takes taken all =
      All-cons (IsOverInputs calls (inputs ++ input ∷ [])) new groups
      (own group new (All-head (IsOverInputs calls inputs) group groups all) same kept takes taken)
      (others groups (turned groups group.key same (All-from_recursion (λ (other : List Value). same_row group.key other ≡ false) (group_keys groups) (IsDistinct-head same_row group.key (group_keys groups) distinct)))
      (All-tail (IsOverInputs calls inputs) group groups all))
  one-takes (group ∷ groups) (suc place) d new within distinct same kept takes taken all =
      All-cons (IsOverInputs calls (inputs ++ input ∷ [])) group (set groups place new)
      (All-head (IsOverInputs calls inputs) group groups all
      ∙ ap (states_over 0 calls) (sym (inputs_of-same group.key inputs input (before groups place d group.key (omega arith) same
      (All-from_recursion (λ (other : List Value). same_row group.key other ≡ false) (group_keys groups) (IsDistinct-head same_row group.key (group_keys groups) distinct))))))
      (one-takes groups place d new (omega arith) (IsDistinct-tail same_row group.key (group_keys groups) distinct) same kept takes taken (All-tail (IsOverInputs calls inputs) group groups all))

-- a key that is there adds none
known_key : (xs ys : List (List Value)) (key : List Value) → Contains ys key → HaveSame xs ys → HaveSame (xs ++ key ∷ []) ys
known_key xs ys key there same z = (
  (λ at. either (Contains-push_cases xs key z at)),
  (λ at. Contains-append_left xs (key ∷ []) z ((same z).1 at)),
)
  where
    either : Contains xs z ⊎ (key ≡ z) → Contains ys z
    either (inl at) = (same z).0 at
    either (inr e) = subst (Contains ys) e there

-- the bytes of a key are found where the key is
found : (keys : List (List Value)) (key : List Value) (place : ℕ) → All (All IsHeld) keys → All IsHeld key → place_of (key_bytes key) (map key_bytes keys) ≡ Some place
    → (place < length keys) × (get_or keys place key ≡ key)
found keys key place held own at =
    let p = position-Some (λ (other : List ℕ). bytes_eq other (key_bytes key)) (map key_bytes keys) place (key_bytes key) at in
    let within : place < length keys = rw (length-map keys key_bytes) at p.0 in
    let same : get_or (map key_bytes keys) place (key_bytes key) ≡ key_bytes key = (bytes_eq-Decides (get_or (map key_bytes keys) place (key_bytes key)) (key_bytes key)).0 p.1 in
    (within, same_key (get_or keys place key) key (All-get_or (All IsHeld) keys place key within held) own (sym (get_or-map key_bytes keys place key (key_bytes key) within) ∙ same))

either_false : (a b : Bool) → (a || b) ≡ false → (a ≡ false) × (b ≡ false)
either_false true b e = cc
either_false false b e = (refl, e)

-- a key whose bytes are not there is none of the keys
unknown : (keys : List (List Value)) (key : List Value) → list_any (λ (other : List ℕ). bytes_eq other (key_bytes key)) (map key_bytes keys) ≡ false
    → All (λ (other : List Value). same_row key other ≡ false) keys
unknown [] key none = λ k d within. absurd (omega arith)
unknown (other ∷ keys) key none =
    let p = either_false (bytes_eq (key_bytes other) (key_bytes key)) (list_any (λ (another : List ℕ). bytes_eq another (key_bytes key)) (map key_bytes keys)) none in
    All-cons (λ (another : List Value). same_row key another ≡ false) other keys (apart p.0) (unknown keys key p.1)
  where
    apart : bytes_eq (key_bytes other) (key_bytes key) ≡ false → same_row key other ≡ false
    apart differ = elim (same_row key other) as (λ b. same_row key other ≡ b → b ≡ false) [
      | true ↦ λ e.
          let same : bytes_eq (key_bytes other) (key_bytes key) ≡ true =
          ap (λ (k : List Value). bytes_eq (key_bytes other) (key_bytes k)) (same_row-true key other e) ∙ nat_list_eq_equiv.refl (key_bytes other) in cc
      | false ↦ λ e. refl
    ] refl

list_any-none : (key : List Value) (keys : List (List Value)) → All (λ (other : List Value). same_row key other ≡ false) keys → list_any (same_row key) keys ≡ false
list_any-none key [] all = refl
list_any-none key (other ∷ keys) all =
    rw (All-head (λ (another : List Value). same_row key another ≡ false) other keys all)
    (list_any-none key keys (All-tail (λ (another : List Value). same_row key another ≡ false) other keys all))

-- inputs of a key that is none of theirs are none
inputs_of-none : (key : List Value) (inputs : List Keyed) → All (λ (other : List Value). same_row key other ≡ false) (input_keys inputs) → inputs_of key inputs ≡ []
inputs_of-none key [] all = refl
inputs_of-none key (input ∷ inputs) all =
    let apart : is_eq (row_cmp input.key key) ≡ false =
    (eq_by_cmp_equiv row_cmp_total).symm input.key key ∙ All-head (λ (another : List Value). same_row key another ≡ false) input.key (input_keys inputs) all in
    rw apart (inputs_of-none key inputs (All-tail (λ (another : List Value). same_row key another ≡ false) input.key (input_keys inputs) all))

module _ (calls : List AggCall) (names : List (List ℕ)) (groups : List Group) (inputs : List Keyed) (input : Keyed) (of : AreOf calls names groups inputs) (held : All IsHeld input.key)
    (takes : TakesArguments calls input.args) where
  -- an input of a key that is known goes to its group
  pub AreOf-known : (place : ℕ) (d new : Group) → place_of (key_bytes input.key) names ≡ Some place → new.key ≡ (get_or groups place d).key
      → new.tallies ≡ fed calls (get_or groups place d).tallies input.args → AreOf calls names (set groups place new) (inputs ++ input ∷ [])
  AreOf-known place d new at kept taken =
      let there : (place < length (group_keys groups)) × (get_or (group_keys groups) place input.key ≡ input.key) =
      found (group_keys groups) input.key place of.held held (ap (place_of (key_bytes input.key)) (sym of.named) ∙ at) in
      let within : place < length groups = rw (length-map groups (λ (group : Group). group.key)) at there.0 in
      let own_key : (get_or groups place d).key ≡ input.key = sym (get_or-map (λ (group : Group). group.key) groups place d input.key within) ∙ there.1 in
      let keys : group_keys (set groups place new) ≡ group_keys groups =
      map-set (λ (group : Group). group.key) groups place new ∙ ap (set (group_keys groups) place) (kept ∙ own_key ∙ sym there.1) ∙ set-get_or (group_keys groups) place input.key in
      record {
        named = of.named ∙ ap (map key_bytes) (sym keys);
        apart = subst (IsDistinct same_row) (sym keys) of.apart;
        held = subst (All (All IsHeld)) (sym keys) of.held;
        same = rw (keys, map_push (λ (other : Keyed). other.key) inputs input)
            (known_key (input_keys inputs) (group_keys groups) input.key
            (subst (Contains (group_keys groups)) there.1 (Contains-get_or (group_keys groups) place input.key there.0)) of.same);
        states = one-takes calls inputs input groups place d new within of.apart own_key kept takes taken of.states;
      }

  -- one of a new key begins a group
  pub AreOf-new : (new : Group) → place_of (key_bytes input.key) names ≡ None → new.key ≡ input.key → new.tallies ≡ fed calls (units calls) input.args
      → AreOf calls (names ++ key_bytes input.key ∷ []) (groups ++ new ∷ []) (inputs ++ input ∷ [])
  AreOf-new new none is_key taken =
      let keys : group_keys (groups ++ new ∷ []) ≡ group_keys groups ++ input.key ∷ [] =
      map_push (λ (group : Group). group.key) groups new ∙ ap (λ (k : List Value). group_keys groups ++ k ∷ []) is_key in
      let absent : list_any (λ (other : List ℕ). bytes_eq other (key_bytes input.key)) (map key_bytes (group_keys groups)) ≡ false =
      sym (is_some-position (λ (other : List ℕ). bytes_eq other (key_bytes input.key)) (map key_bytes (group_keys groups)))
      ∙ ap is_some (ap (place_of (key_bytes input.key)) (sym of.named) ∙ none) in
      let apart : All (λ (other : List Value). same_row input.key other ≡ false) (group_keys groups) = unknown (group_keys groups) input.key absent in
      let none_yet : inputs_of input.key inputs ≡ [] =
      inputs_of-none input.key inputs (λ k d within. All-contains (λ (other : List Value). same_row input.key other ≡ false) (group_keys groups) (get_or (input_keys inputs) k d) apart
      ((of.same (get_or (input_keys inputs) k d)).0 (Contains-get_or (input_keys inputs) k d within))) in
      let first : IsOverInputs calls (inputs ++ input ∷ []) new =
      taken ∙ ap (λ states. fed calls states input.args) (sym (states_over-none calls 0)) ∙ fed-states_over calls 0 [] input input.args refl takes
      ∙ ap (λ (mine : List Keyed). states_over 0 calls (mine ++ input ∷ [])) (sym none_yet) ∙ ap (states_over 0 calls) (sym (inputs_of-more input.key inputs input refl))
      ∙ ap (λ (key : List Value). states_over 0 calls (inputs_of key (inputs ++ input ∷ []))) (sym is_key) in
      record {
        named = rw (keys, map_push key_bytes (group_keys groups) input.key) (ap (λ (some : List (List ℕ)). some ++ key_bytes input.key ∷ []) of.named);
        apart = subst (IsDistinct same_row) (sym keys) (IsDistinct-push (eq_by_cmp_equiv row_cmp_total) (group_keys groups) input.key of.apart (list_any-none input.key (group_keys groups) apart));
        held = subst (All (All IsHeld)) (sym keys) (All-push (All IsHeld) (group_keys groups) input.key of.held held);
        same = rw (keys, map_push (λ (other : Keyed). other.key) inputs input)
            (HaveSame-append (input_keys inputs) (input.key ∷ []) (group_keys groups) (input.key ∷ []) of.same (λ z. ((λ at. at), (λ at. at))));
        states = All-push (IsOverInputs calls (inputs ++ input ∷ [])) groups new (others calls inputs input groups apart of.states) first;
      }

-- no groups are those of no inputs
pub AreOf-nothing : (calls : List AggCall) → AreOf calls [] [] []
unfolding IsDistinct
AreOf-nothing calls = record {
  named = refl;
  apart = tt;
  held = λ k d within. absurd (omega arith);
  same = λ z. ((λ at. at), (λ at. at));
  states = λ k d within. absurd (omega arith);
}
