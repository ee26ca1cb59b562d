-- The parts that a merge joins.
use Rattle.std.proofs.Common.{◌≡◌, ℕ, zero, suc, ◌+◌, ◌<◌, ◌≤◌, nat_eq, nat_le, true, false, cond, if◌then◌else◌, List, [], ◌∷◌, length, Option, None, Some, Less, refl, sym, ap, ap₂, subst, ◌∙◌, ◌⊎◌, inl, inr, arith, rules, slice_get, drop, Bor, slice_index_or}
use Rattle.std.proofs.lemmas.List.Elements.{All-contains}
use Rattle.std.proofs.lemmas.Option.{get_or_from_slice_get, same_Some, slice_get-get_or, slice_get-map, slice_get_within}
use Rattle.std.specs.Cmp.{nat_cmp_total}
use Rattle.std.specs.FinMap.{nat_cmp-IsAntisymmetric}
use Rattle.std.specs.List.{All, Contains, cons_option, filter_map, prefix_len}
use Rattle.std.specs.Option.{option_copied, option_map}
use Rattle.std.specs.Ordering.{nat_cmp}
use Rattle.chv_types.proofs.MemberLemmas.{members-HaveSame, members-Rises}
use Rattle.chv_types.specs.Members.{Rises, members}
use Rattle.chv_merge.specs.Picks.{AreLowest, ShareLevel, first_eight, leftmost, levels_of, picked}
use Rattle.chv_commit.specs.declared.part_row.PartRow.{PartRow}
use Rattle.chv_merge.specs.declared.run.Run.{Run}

-- so many in front have a level
abbrev FrontHas : List ℕ → ℕ → ℕ → Type 0
FrontHas levels count level = (i : ℕ) → i < count → slice_get levels i ≡ Some level

FrontHas-more : (levels : List ℕ) (level first count : ℕ) → nat_eq level first ≡ true → FrontHas levels count level → FrontHas (first ∷ levels) (suc count) level
FrontHas-more levels level first count e h zero low = ap Some (search (rules, e))
FrontHas-more levels level first count e h (suc i) low = h i (omega (arith, low))

prefix-FrontHas : (levels : List ℕ) (level count : ℕ) → count ≤ prefix_len (nat_eq level) levels → FrontHas levels count level
prefix-FrontHas [] level count long = λ i low. absurd (omega (arith, long, low))
prefix-FrontHas (first ∷ levels) level zero long = λ i low. absurd (omega (arith, low))
prefix-FrontHas (first ∷ levels) level (suc count) long =
    elim (nat_eq level first) as (λ b. nat_eq level first ≡ b → suc count ≤ cond b (1 + prefix_len (nat_eq level) levels) 0 → FrontHas (first ∷ levels) (suc count) level) [
      | true ↦ λ e more. FrontHas-more levels level first count e (prefix-FrontHas levels level count (omega (arith, more)))
      | false ↦ λ e more. absurd (omega (arith, more))
    ] refl long

nat_eq-from : (m n : ℕ) → n ≡ m → nat_eq m n ≡ true
nat_eq-from m n e = search (rules, e)

FrontHas-prefix : (levels : List ℕ) (level count : ℕ) → FrontHas levels count level → count ≤ prefix_len (nat_eq level) levels
FrontHas-prefix levels level zero h = omega arith
FrontHas-prefix [] level (suc count) h = let none : ◌≡◌ {A = Option ℕ} None (Some level) = h 0 (omega arith) in cc
FrontHas-prefix (first ∷ levels) level (suc count) h =
    let same : nat_eq level first ≡ true = nat_eq-from level first (same_Some first level (h 0 (omega arith))) in
    let rest : count ≤ prefix_len (nat_eq level) levels = FrontHas-prefix levels level count (λ i low. h (suc i) (omega (arith, low))) in
    let long : ◌≡◌ {A = ℕ} (cond (nat_eq level first) (1 + prefix_len (nat_eq level) levels) 0) (1 + prefix_len (nat_eq level) levels) = rw same refl in
    omega (arith, rest, long)

-- eight that share a level, and the place of the first
module _ (level : ℕ) where
  at_front : (levels : List ℕ) → ShareLevel levels 0 level → 8 ≤ prefix_len (nat_eq level) levels
  at_front levels h = FrontHas-prefix levels level 8 (λ i low. subst (λ n. slice_get levels n ≡ Some level) (omega arith) (h i low))

  from_front : (levels : List ℕ) → 8 ≤ prefix_len (nat_eq level) levels → ShareLevel levels 0 level
  from_front levels long i low = subst (λ n. slice_get levels n ≡ Some level) (omega arith) (prefix-FrontHas levels level 8 long i low)

  behind : (first : ℕ) (levels : List ℕ) (from : ℕ) → ShareLevel (first ∷ levels) (suc from) level → ShareLevel levels from level
  behind first levels from h i low =
      let next : suc from + i ≡ suc (from + i) = omega arith in
      subst (λ n. slice_get (first ∷ levels) n ≡ Some level) next (h i low)

  in_front : (first : ℕ) (levels : List ℕ) (from : ℕ) → ShareLevel levels from level → ShareLevel (first ∷ levels) (suc from) level
  in_front first levels from h i low =
      let next : suc (from + i) ≡ suc from + i = omega arith in
      subst (λ n. slice_get (first ∷ levels) n ≡ Some level) next (h i low)

  -- a place is that of the leftmost eight of the level, or there are none
  abbrev IsFirst : List ℕ → Option ℕ → Type 0
  IsFirst levels None = (from : ℕ) → ShareLevel levels from level → ⊥
  IsFirst levels (Some from) = ShareLevel levels from level × ((other : ℕ) → ShareLevel levels other level → from ≤ other)

  first_none : (first : ℕ) (levels : List ℕ) → (8 ≤ prefix_len (nat_eq level) (first ∷ levels) → ⊥) → ((from : ℕ) → ShareLevel levels from level → ⊥)
      → (from : ℕ) → ShareLevel (first ∷ levels) from level → ⊥
  first_none first levels short h zero share = short (at_front (first ∷ levels) share)
  first_none first levels short h (suc from) share = h from (behind first levels from share)

  first_some : (first : ℕ) (levels : List ℕ) (from : ℕ) → (8 ≤ prefix_len (nat_eq level) (first ∷ levels) → ⊥) → ((other : ℕ) → ShareLevel levels other level → from ≤ other)
      → (other : ℕ) → ShareLevel (first ∷ levels) other level → suc from ≤ other
  first_some first levels from short h zero share = absurd (short (at_front (first ∷ levels) share))
  first_some first levels from short h (suc other) share = let least : from ≤ other = h other (behind first levels other share) in omega (arith, least)

  first_behind : (first : ℕ) (levels : List ℕ) (o : Option ℕ) → (8 ≤ prefix_len (nat_eq level) (first ∷ levels) → ⊥) → IsFirst levels o → IsFirst (first ∷ levels) (option_map suc o)
  first_behind first levels None short h = first_none first levels short h
  first_behind first levels (Some from) short h = (in_front first levels from h.0, first_some first levels from short h.1)

  first_eight-IsFirst : (levels : List ℕ) → IsFirst levels (first_eight level levels)
  first_eight-IsFirst [] = λ from share. let none : ◌≡◌ {A = Option ℕ} None (Some level) = share 0 (omega arith) in cc
  first_eight-IsFirst (first ∷ levels) =
      elim (nat_le 8 (prefix_len (nat_eq level) (first ∷ levels))) as (λ b. nat_le 8 (prefix_len (nat_eq level) (first ∷ levels)) ≡ b
      → IsFirst (first ∷ levels) (if b then Some 0 else option_map suc (first_eight level levels))) [
        | true ↦ λ e. (from_front (first ∷ levels) (search (rules, e)), λ other share. omega arith)
        | false ↦ λ e. first_behind first levels (first_eight level levels) (λ long. search (rules, e, long)) (first_eight-IsFirst levels)
      ] refl

-- an item of a list is the first or one of the others
contains_cases : (first : ℕ) (others : List ℕ) (x : ℕ) → Contains (first ∷ others) x → (first ≡ x) ⊎ Contains others x
contains_cases first others x (zero, low, e) = inl e
contains_cases first others x (suc k, low, e) = inr (k, omega (arith, low), e)

-- the leftmost eight of the lowest of levels that has eight, or none where none of them has
abbrev Among : List ℕ → List ℕ → Option Run → Type 0
Among levels some None = (level : ℕ) → Contains some level → first_eight level levels ≡ None
Among levels some (Some run) =
    (first_eight run.level levels ≡ Some run.from) × (run.count ≡ 8) × ((level from : ℕ) → Contains some level → first_eight level levels ≡ Some from → run.level ≤ level)

less : (m n : ℕ) → nat_cmp m n ≡ Less → m < n
less m n e = search (rules, e)

first_among : (levels : List ℕ) (first : ℕ) (others : List ℕ) (from : ℕ) → Rises nat_cmp (first ∷ others) → first_eight first levels ≡ Some from
    → Among levels (first ∷ others) (Some (record { from = from; count = 8; level = first }))
first_among levels first others from h e = (
  e,
  refl,
  λ level other has found. elim (contains_cases first others level has) [
    | inl same ↦ omega (arith, same)
    | inr in_others ↦ let below : first < level = less first level (All-contains (λ y. nat_cmp first y ≡ Less) others level h.0 in_others) in omega (arith, below)
  ],
)

other_among : (levels : List ℕ) (first : ℕ) (others : List ℕ) (o : Option Run) → first_eight first levels ≡ None → Among levels others o → Among levels (first ∷ others) o
other_among levels first others None e h = λ level has. elim (contains_cases first others level has) [
  | inl same ↦ ap (λ n. first_eight n levels) (sym same) ∙ e
  | inr in_others ↦ h level in_others
]
other_among levels first others (Some run) e h = (
  h.0,
  h.1,
  λ level from has found. elim (contains_cases first others level has) [
    | inl same ↦ let none : ◌≡◌ {A = Option ℕ} None (Some from) = sym e ∙ ap (λ n. first_eight n levels) same ∙ found in cc
    | inr in_others ↦ h.2 level from in_others found
  ],
)

nothing : (x : ℕ) → Contains [] x → ⊥
nothing x (k, low, e) = omega (arith, low)

lowest_among : (levels some : List ℕ) → Rises nat_cmp some → Among levels some (slice_get (filter_map (leftmost levels) some) 0)
lowest_among levels [] h = λ level has. absurd (nothing level has)
lowest_among levels (first ∷ others) h =
    elim (first_eight first levels) as (λ o. first_eight first levels ≡ o
    → Among levels (first ∷ others) (slice_get (cons_option (option_map (λ from. record { from = from; count = 8; level = first }) o) (filter_map (leftmost levels) others)) 0)) [
      | None ↦ λ e. other_among levels first others (slice_get (filter_map (leftmost levels) others) 0) e (lowest_among levels others h.1)
      | Some from ↦ λ e. first_among levels first others from h e
    ] refl

-- eight that share a level: the level is there, and they begin within
share-found : (levels : List ℕ) (from level : ℕ) → ShareLevel levels from level → slice_get levels from ≡ Some level
share-found levels from level h = subst (λ n. slice_get levels n ≡ Some level) (omega arith) (h 0 (omega arith))

share-member : (levels : List ℕ) (from level : ℕ) → ShareLevel levels from level → Contains (members nat_cmp levels) level
share-member levels from level h =
    let found : slice_get levels from ≡ Some level = share-found levels from level h in
    (members-HaveSame nat_cmp nat_cmp_total nat_cmp-IsAntisymmetric levels level).0
    (from, slice_get_within levels from level found, get_or_from_slice_get levels from level level found)

among-lowest : (levels : List ℕ) (o : Option Run) → Among levels (members nat_cmp levels) o → AreLowest levels (length levels) o
among-lowest levels None h = λ from level before share.
    let none : first_eight level levels ≡ None = h level (share-member levels from level share) in
    subst (IsFirst level levels) none (first_eight-IsFirst level levels) from share
among-lowest levels (Some run) h =
    let first : IsFirst run.level levels (Some run.from) = subst (IsFirst run.level levels) h.0 (first_eight-IsFirst run.level levels) in
    record {
      before = slice_get_within levels run.from run.level (share-found levels run.from run.level first.0);
      count = h.1;
      share = first.0;
      lowest = λ from level before share.
          elim (first_eight level levels) as (λ o. first_eight level levels ≡ o → run.level ≤ level) [
            | None ↦ λ e. absurd (subst (IsFirst level levels) e (first_eight-IsFirst level levels) from share)
            | Some other ↦ λ e. h.2 level other (share-member levels from level share) e
          ] refl;
      leftmost = first.1;
    }

pub picked-AreLowest : (levels : List ℕ) → AreLowest levels (length levels) (picked levels)
picked-AreLowest levels =
    among-lowest levels (picked levels) (lowest_among levels (members nat_cmp levels) (members-Rises nat_cmp nat_cmp_total nat_cmp-IsAntisymmetric levels))

-- what is picked are eight adjacent parts of one level
pub picked-Some : (levels : List ℕ) (run : Run) → picked levels ≡ Some run → (run.count ≡ 8) × ShareLevel levels run.from run.level
picked-Some levels run is =
    let lowest : AreLowest levels (length levels) (Some run) = subst (AreLowest levels (length levels)) is (picked-AreLowest levels) in
    (lowest.count, lowest.share)

abbrev run_of : ℕ → ℕ → ℕ → Run
run_of from count level = record { from = from; count = count; level = level }

same_run : (a b : Run) → a.from ≡ b.from → a.count ≡ b.count → a.level ≡ b.level → a ≡ b
same_run a b e f g =
    ap₂ (λ (from count : ℕ). run_of from count a.level) e f ∙ ap (run_of b.from b.count) g

AreLowest-unique : (levels : List ℕ) (place : ℕ) (a b : Option Run) → AreLowest levels place a → AreLowest levels place b → a ≡ b
AreLowest-unique levels place None None h k = refl
AreLowest-unique levels place None (Some run) h k = absurd (h run.from run.level k.before k.share)
AreLowest-unique levels place (Some run) None h k = absurd (k run.from run.level h.before h.share)
AreLowest-unique levels place (Some a) (Some b) h k =
    let below : a.level ≤ b.level = h.lowest b.from b.level k.before k.share in
    let above : b.level ≤ a.level = k.lowest a.from a.level h.before h.share in
    let level : a.level ≡ b.level = omega (arith, below, above) in
    let left : a.from ≤ b.from = h.leftmost b.from (subst (ShareLevel levels b.from) (sym level) k.share) in
    let right : b.from ≤ a.from = k.leftmost a.from (subst (ShareLevel levels a.from) level h.share) in
    ap Some (same_run a b (omega (arith, left, right)) (h.count ∙ sym k.count) level)

pub AreLowest-picked : (levels : List ℕ) (found : Option Run) → AreLowest levels (length levels) found → found ≡ picked levels
AreLowest-picked levels found h = AreLowest-unique levels (length levels) found (picked levels) h (picked-AreLowest levels)

pub AreLowest-zero : (levels : List ℕ) → AreLowest levels 0 None
AreLowest-zero levels from level before share = absurd (omega (arith, before))

-- of eight that begin up to a place, those that begin at it or those before
last_or_before : (from place : ℕ) → from < place + 1 → (from ≡ place) ⊎ (from < place)
last_or_before from place low =
    elim (nat_le place from) as (λ b. nat_le place from ≡ b → (from ≡ place) ⊎ (from < place)) [
      | true ↦ λ e. let above : place ≤ from = search (rules, e) in inl (omega (arith, above, low))
      | false ↦ λ e. inr (search (rules, e))
    ] refl

-- the lowest stay the lowest where a level is no lower at the next place
AreLowest-stay : (levels : List ℕ) (place : ℕ) (run : Run) → AreLowest levels place (Some run)
    → ((level : ℕ) → ShareLevel levels place level → run.level ≤ level) → AreLowest levels (place + 1) (Some run)
AreLowest-stay levels place run h no_lower = record {
  before = omega (arith, h.before);
  count = h.count;
  share = h.share;
  lowest = λ from level before share. elim (last_or_before from place before) [
    | inl here ↦ no_lower level (subst (λ n. ShareLevel levels n level) here share)
    | inr low ↦ h.lowest from level low share
  ];
  leftmost = h.leftmost;
}

-- the level of a place is one
one_level : (levels : List ℕ) (place level other : ℕ) → slice_get levels place ≡ Some level → ShareLevel levels place other → level ≡ other
one_level levels place level other is share = same_Some level other (sym is ∙ share-found levels place other share)

pub AreLowest-past : (levels : List ℕ) (place level : ℕ) (before : Option Run) → slice_get levels place ≡ Some level → (ShareLevel levels place level → ⊥)
    → AreLowest levels place before → AreLowest levels (place + 1) before
AreLowest-past levels place level None is not_eight h = λ from other low share. elim (last_or_before from place low) [
  | inl here ↦
      let there : ShareLevel levels place other = subst (λ n. ShareLevel levels n other) here share in
      not_eight (subst (ShareLevel levels place) (sym (one_level levels place level other is there)) there)
  | inr earlier ↦ h from other earlier share
]
AreLowest-past levels place level (Some run) is not_eight h =
    AreLowest-stay levels place run h (λ other share.
    absurd (not_eight (subst (ShareLevel levels place) (sym (one_level levels place level other is share)) share)))

pub AreLowest-lower : (levels : List ℕ) (place level : ℕ) (run : Run) → slice_get levels place ≡ Some level → run.level ≤ level
    → AreLowest levels place (Some run) → AreLowest levels (place + 1) (Some run)
AreLowest-lower levels place level run is lower h = AreLowest-stay levels place run h (λ other share. omega (arith, lower, one_level levels place level other is share))

-- no eight that begin before have a level that is as low
abbrev pub AreHigher : List ℕ → ℕ → ℕ → Type 0
AreHigher levels place level = (from other : ℕ) → from < place → ShareLevel levels from other → level < other

pub AreHigher-none : (levels : List ℕ) (place level : ℕ) → AreLowest levels place None → AreHigher levels place level
AreHigher-none levels place level h from other low share = absurd (h from other low share)

pub AreHigher-some : (levels : List ℕ) (place level : ℕ) (run : Run) → AreLowest levels place (Some run) → level < run.level → AreHigher levels place level
AreHigher-some levels place level run h lower from other low share = let least : run.level ≤ other = h.lowest from other low share in omega (arith, least, lower)

pub AreLowest-next : (levels : List ℕ) (place level : ℕ) → ShareLevel levels place level → AreHigher levels place level
    → AreLowest levels (place + 1) (Some (record { from = place; count = 8; level = level }))
AreLowest-next levels place level share higher = record {
  before = omega arith;
  count = refl;
  share = share;
  lowest = λ from other low also. elim (last_or_before from place low) [
    | inl here ↦
        let same : level ≡ other = one_level levels place level other (share-found levels place level share) (subst (λ n. ShareLevel levels n other) here also) in
        omega (arith, same)
    | inr earlier ↦ let above : level < other = higher from other earlier also in omega (arith, above)
  ];
  leftmost = λ from also.
      elim (nat_le place from) as (λ b. nat_le place from ≡ b → place ≤ from) [
        | true ↦ λ e. search (rules, e)
        | false ↦ λ e. let above : level < level = higher from level (search (rules, e)) also in absurd (omega (arith, above))
      ] refl;
}

-- the level of a part that is at a place
pub level_found : (parts : List PartRow) (place : ℕ) (o : Option (Bor PartRow)) (part : Bor PartRow) → option_copied o ≡ slice_get parts place → o ≡ Some part
    → slice_get (levels_of parts) place ≡ Some part.now.level
level_found parts place o part e f = slice_get-map (λ (p : PartRow). p.level) parts place ∙ ap (option_map (λ (p : PartRow). p.level)) (sym e ∙ ap option_copied f)

pub level_missing : (parts : List PartRow) (place : ℕ) (o : Option (Bor PartRow)) → option_copied o ≡ slice_get parts place → o ≡ None → slice_get (levels_of parts) place ≡ None
level_missing parts place o e f = slice_get-map (λ (p : PartRow). p.level) parts place ∙ ap (option_map (λ (p : PartRow). p.level)) (sym e ∙ ap option_copied f)

-- the levels of the parts from a place on
rest_level : (layout : List PartRow) (from i : ℕ) → slice_get (levels_of (drop from layout)) i ≡ slice_get (levels_of layout) (from + i)
rest_level layout zero i = ap (slice_get (levels_of layout)) (omega arith)
rest_level [] (suc from) i = refl
rest_level (part ∷ layout) (suc from) i =
    let next : suc (from + i) ≡ suc from + i = omega arith in
    rest_level layout from i ∙ ap (slice_get (levels_of (part ∷ layout))) next

pub share-from_rest : (layout : List PartRow) (from level : ℕ) → ShareLevel (levels_of (drop from layout)) 0 level → ShareLevel (levels_of layout) from level
share-from_rest layout from level h i low =
    let same : 0 + i ≡ i = omega arith in
    sym (rest_level layout from i) ∙ ap (slice_get (levels_of (drop from layout))) (sym same) ∙ h i low

pub share-to_rest : (layout : List PartRow) (from level : ℕ) → ShareLevel (levels_of layout) from level → ShareLevel (levels_of (drop from layout)) 0 level
share-to_rest layout from level h i low =
    let same : 0 + i ≡ i = omega arith in
    ap (slice_get (levels_of (drop from layout))) same ∙ rest_level layout from i ∙ h i low

-- where one of the eight in front has another level, they do not share the level
pub not_shared : (levels : List ℕ) (level place : ℕ) (other : Option ℕ) → place < 8 → slice_get levels place ≡ other → (other ≡ Some level → ⊥) → ShareLevel levels 0 level → ⊥
not_shared levels level place other low e apart share =
    let same : 0 + place ≡ place = omega arith in
    apart (sym e ∙ ap (slice_get levels) (sym same) ∙ share place low)

-- so many in front share the level, and one more
pub shared_more : (levels : List ℕ) (level count : ℕ) → ((i : ℕ) → i < count → slice_get levels i ≡ Some level) → slice_get levels count ≡ Some level
    → (i : ℕ) → i < count + 1 → slice_get levels i ≡ Some level
shared_more levels level count h e i low = elim (last_or_before i count low) [
  | inl here ↦ ap (slice_get levels) here ∙ e
  | inr before ↦ h i before
]

pub shared_all : (levels : List ℕ) (level count : ℕ) → 8 ≤ count → ((i : ℕ) → i < count → slice_get levels i ≡ Some level) → ShareLevel levels 0 level
shared_all levels level count many h i low =
    let same : 0 + i ≡ i = omega arith in
    ap (slice_get levels) same ∙ h i (omega (arith, low, many))

pub level_indexed : (layout : List PartRow) (from : ℕ) (other : PartRow) → from < length layout → slice_get (levels_of layout) from ≡ Some (slice_index_or layout from other).level
level_indexed layout from other low =
    slice_get-map (λ (p : PartRow). p.level) layout from ∙ ap (option_map (λ (p : PartRow). p.level)) (slice_get-get_or layout from other low)
