-- Items from a place on, and groups of them.
use Rattle.std.proofs.Common.{◌≡◌, ◌∙◌, ◌+◌, ◌*◌, ◌-◌, ◌<◌, ◌≤◌, ℕ, zero, suc, List, [], ◌∷◌, ◌++◌, length, get_or, set, take, drop, Less, Equal, Greater, refl, sym, ap, ap₂, arith}
use Rattle.std.proofs.Math.Nat.{suc-mul}
use Rattle.std.proofs.lemmas.Cmp.{ranked}
use Rattle.std.proofs.lemmas.List.{drop-append-le, drop-drop, drop-set-add, drop-set-lt, drop-take, get_or-drop, get_or-take, length-drop, length-take-le, take-append-le, take-set-le, take-take, take_all}
use Rattle.std.proofs.lemmas.Nat.{mul-le}
use Rattle.std.proofs.Math.Seq.{take-set-lt}
use Rattle.std.specs.Ordering.{nat_cmp}
use Rattle.chv_agg.specs.declared.any_agg.AnyAgg.{AnyAgg}
use Rattle.chv_group.specs.Keys.{Group, groups_of}
use Rattle.chv_group.specs.Takings.{group_keys}
use Rattle.chv_group.specs.Tallies.{KeepsOthers, part}
use Rattle.chv_types.specs.declared.value.Value.{Value}

module _ {A : Type 0} (first count : ℕ) where
  -- an item in the place of one of a part
  pub part-set : (xs : List A) (place : ℕ) (x : A) → place < count → part first count (set xs (first + place) x) ≡ set (part first count xs) place x
  part-set xs place x within = ap (take count) (drop-set-add first xs place x) ∙ take-set-lt count (drop first xs) place x within

  pub part-at : (xs : List A) (place : ℕ) (d : A) → place < count → get_or (part first count xs) place d ≡ get_or xs (first + place) d
  part-at xs place d within = get_or-take count (drop first xs) place d within ∙ get_or-drop first xs place d

  pub length-part : (xs : List A) → first + count ≤ length xs → length (part first count xs) ≡ count
  length-part xs within = length-take-le count (drop first xs) (omega (arith, length-drop first xs))

  -- the others stay
  pub KeepsOthers-itself : (xs : List A) → KeepsOthers first count xs xs
  KeepsOthers-itself xs = record { before = refl; behind = refl }

  pub KeepsOthers-set : (old new : List A) (place : ℕ) (x : A) → place < count → KeepsOthers first count old new → KeepsOthers first count old (set new (first + place) x)
  KeepsOthers-set old new place x within kept = record {
    before = take-set-le first new (first + place) x (omega arith) ∙ kept.before;
    behind = drop-set-lt (first + count) new (first + place) x (omega arith) ∙ kept.behind;
  }

-- where the states of a group begin
offset : ℕ → ℕ → ℕ
offset count zero = 0
offset count (suc place) = count + offset count place

offset-times : (count place : ℕ) → offset count place ≡ place * count
unfolding offset
offset-times count zero = omega arith
offset-times count (suc place) = ap (λ (n : ℕ). count + n) (offset-times count place) ∙ omega (arith, suc-mul place count)

-- the states of a group that is there are there
pub offset-within : (place keys count size : ℕ) → place < keys → size ≡ keys * count → place * count + count ≤ size
offset-within place keys count size within is =
    let more : suc place * count ≤ keys * count = mul-le (suc place) count keys count (omega arith) (omega arith) in
    omega (arith, more, is, suc-mul place count)

module _ (count : ℕ) where
  pub length-groups_of : (keys : List (List Value)) (tallies : List AnyAgg) → length (groups_of count keys tallies) ≡ length keys
  length-groups_of [] tallies = refl
  length-groups_of (key ∷ keys) tallies = ap suc (length-groups_of keys (drop count tallies))

  pub keys-groups_of : (keys : List (List Value)) (tallies : List AnyAgg) → group_keys (groups_of count keys tallies) ≡ keys
  keys-groups_of [] tallies = refl
  keys-groups_of (key ∷ keys) tallies = ap (λ (some : List (List Value)). key ∷ some) (keys-groups_of keys (drop count tallies))

  at_offset : (keys : List (List Value)) (tallies : List AnyAgg) (place : ℕ) (d : Group) → place < length keys
      → (get_or (groups_of count keys tallies) place d).tallies ≡ part (offset count place) count tallies
  unfolding offset
  at_offset [] tallies place d within = absurd (omega arith)
  at_offset (key ∷ keys) tallies zero d within = refl
  at_offset (key ∷ keys) tallies (suc place) d within = at_offset keys (drop count tallies) place d (omega arith) ∙ ap (take count) (drop-drop (offset count place) count tallies)

  -- the states of a group
  pub groups_of-at : (keys : List (List Value)) (tallies : List AnyAgg) (place : ℕ) (d : Group) → place < length keys
      → (get_or (groups_of count keys tallies) place d).tallies ≡ part (place * count) count tallies
  groups_of-at keys tallies place d within = at_offset keys tallies place d within ∙ ap (λ (first : ℕ). part first count tallies) (offset-times count place)

  front_same : (xs ys : List AnyAgg) (more : ℕ) → take (count + more) xs ≡ take (count + more) ys → take count xs ≡ take count ys
  front_same xs ys more same =
      sym (take-take count (count + more) xs (omega arith)) ∙ ap (take count) same ∙ take-take count (count + more) ys (omega arith)

  rest_same : (xs ys : List AnyAgg) (more : ℕ) → take (count + more) xs ≡ take (count + more) ys → take more (drop count xs) ≡ take more (drop count ys)
  rest_same xs ys more same = sym (drop-take count more xs) ∙ ap (drop count) same ∙ drop-take count more ys

  set_offset : (keys : List (List Value)) (old new : List AnyAgg) (place : ℕ) (d : Group) → place < length keys → KeepsOthers (offset count place) count old new
      → groups_of count keys new ≡ set (groups_of count keys old) place (record { key = (get_or (groups_of count keys old) place d).key; tallies = part (offset count place) count new })
  unfolding offset
  set_offset [] old new place d within kept = absurd (omega arith)
  set_offset (key ∷ keys) old new zero d within kept =
      let start : 0 + count ≡ count = omega arith in
      let behind : drop count new ≡ drop count old = ap (λ (n : ℕ). drop n new) (sym start) ∙ kept.behind ∙ ap (λ (n : ℕ). drop n old) start in
      ap (λ (tallies : List AnyAgg). record { key = key; tallies = take count new } ∷ groups_of count keys tallies) behind
  set_offset (key ∷ keys) old new (suc place) d within kept =
      let behind : drop (offset count place + count) (drop count new) ≡ drop (offset count place + count) (drop count old) =
      drop-drop (offset count place + count) count new ∙ ap (λ (n : ℕ). drop n new) (omega arith) ∙ kept.behind ∙ ap (λ (n : ℕ). drop n old) (omega arith)
      ∙ sym (drop-drop (offset count place + count) count old) in
      let rest = set_offset keys (drop count old) (drop count new) place d (omega arith)
      (record { before = rest_same new old (offset count place) kept.before; behind = behind }) in
      ap₂ (λ (tallies : List AnyAgg) (groups : List Group). record { key = key; tallies = tallies } ∷ groups) (front_same new old (offset count place) kept.before)
      (rest ∙ ap (λ (tallies : List AnyAgg). set (groups_of count keys (drop count old)) place (record { key = (get_or (groups_of count keys (drop count old)) place d).key; tallies = tallies }))
      (ap (take count) (drop-drop (offset count place) count new)))

  -- other states for one group
  pub groups_of-set : (keys : List (List Value)) (old new : List AnyAgg) (place : ℕ) (d : Group) → place < length keys → KeepsOthers (place * count) count old new
      → groups_of count keys new ≡ set (groups_of count keys old) place (record { key = (get_or (groups_of count keys old) place d).key; tallies = part (place * count) count new })
  groups_of-set keys old new place d within kept = rw (← offset-times count place) (set_offset keys old new place d within (rw (← offset-times count place) at kept))

  push_offset : (keys : List (List Value)) (key : List Value) (tallies more : List AnyAgg) → length tallies ≡ offset count (length keys) → length more ≡ count
      → groups_of count (keys ++ key ∷ []) (tallies ++ more) ≡ groups_of count keys tallies ++ record { key = key; tallies = more } ∷ []
  unfolding offset
  push_offset [] key [] more size width = ap (λ (some : List AnyAgg). record { key = key; tallies = some } ∷ []) (take_all count more (omega arith))
  push_offset [] key (tally ∷ tallies) more size width = absurd (omega arith)
  push_offset (first ∷ keys) key tallies more size width =
      let front : take count (tallies ++ more) ≡ take count tallies = take-append-le count tallies more (omega arith) in
      let behind : drop count (tallies ++ more) ≡ drop count tallies ++ more = drop-append-le count tallies more (omega arith) in
      ap₂ (λ (some : List AnyAgg) (groups : List Group). record { key = first; tallies = some } ∷ groups) front
      (ap (groups_of count (keys ++ key ∷ [])) behind ∙ push_offset keys key (drop count tallies) more (omega (arith, length-drop count tallies)) width)

  -- a group behind the others
  pub groups_of-push : (keys : List (List Value)) (key : List Value) (tallies more : List AnyAgg) → length tallies ≡ length keys * count → length more ≡ count
      → groups_of count (keys ++ key ∷ []) (tallies ++ more) ≡ groups_of count keys tallies ++ record { key = key; tallies = more } ∷ []
  groups_of-push keys key tallies more size width = push_offset keys key tallies more (size ∙ sym (offset-times count (length keys))) width

  before_same : (old new : List AnyAgg) (place other : ℕ) → other < place → KeepsOthers (place * count) count old new → part (other * count) count new ≡ part (other * count) count old
  before_same old new place other below kept =
      let room : other * count + count ≤ place * count = offset-within other place count (place * count) below refl in
      let same : take (other * count + count) new ≡ take (other * count + count) old =
      sym (take-take (other * count + count) (place * count) new room) ∙ ap (take (other * count + count)) kept.before ∙ take-take (other * count + count) (place * count) old room in
      sym (drop-take (other * count) count new) ∙ ap (drop (other * count)) same ∙ drop-take (other * count) count old

  behind_same : (old new : List AnyAgg) (place other : ℕ) → place < other → KeepsOthers (place * count) count old new → part (other * count) count new ≡ part (other * count) count old
  behind_same old new place other above kept =
      let room : place * count + count ≤ other * count = offset-within place other count (other * count) above refl in
      let gap : ℕ = other * count - (place * count + count) in
      let there : place * count + count + gap ≡ other * count = omega arith in
      let same : drop (other * count) new ≡ drop (other * count) old =
      ap (λ (n : ℕ). drop n new) (sym there) ∙ sym (drop-drop gap (place * count + count) new) ∙ ap (drop gap) kept.behind
      ∙ drop-drop gap (place * count + count) old ∙ ap (λ (n : ℕ). drop n old) there in
      ap (take count) same

  -- the states of other groups stay
  pub other-same : (old new : List AnyAgg) (place other : ℕ) → (place ≡ other → ⊥) → KeepsOthers (place * count) count old new → part (other * count) count new ≡ part (other * count) count old
  other-same old new place other apart kept =
      elim (nat_cmp place other) as (λ o. nat_cmp place other ≡ o → part (other * count) count new ≡ part (other * count) count old) [
        | Less ↦ λ e. behind_same old new place other (ranked place other Less (sym e)) kept
        | Equal ↦ λ e. absurd (apart (ranked place other Equal (sym e)))
        | Greater ↦ λ e. before_same old new place other (ranked place other Greater (sym e)) kept
      ] refl
