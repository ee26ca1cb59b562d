-- What holds wherever commits fit one behind the other.
use Rattle.std.proofs.Common.{◌≡◌, ◌≢◌, ◌+◌, ◌-◌, ◌<◌, ◌≤◌, ◌++◌, ◌∷◌, [], ℕ, zero, suc, List, Some, length, map, get_or, sym, subst, arith, refl, length-append}
use Rattle.std.proofs.lemmas.Option.{same_Some}
use Rattle.std.proofs.lemmas.List.{map-append, take_at, drop_at}
use Rattle.std.proofs.lemmas.List.Elements.{All-nil, All-cons, All-head, All-tail, All-append, All-push, All-weaker, All-take, All-drop}
use Rattle.std.proofs.lemmas.List.Kept.{AllPairs-cons}
use Rattle.std.proofs.lemmas.List.Quantifiers.{all_pairs_push}
use Rattle.std.specs.List.{All, AllPairs}
use Rattle.chv_sip.specs.declared.block_id.BlockId.{BlockId}
use Rattle.chv_commit.specs.Replays.{MAX_ENTRIES, State, no_state, span_of, IsJoined, IsSound, added, greatest_level, taken, replayed}
use Rattle.chv_commit.specs.declared.commit.Commit.{Commit}
use Rattle.chv_commit.specs.declared.commit.Commit.TheVariants.{Add, Merge}
use Rattle.chv_commit.specs.declared.part_row.PartRow.{PartRow}
use Rattle.chv_commit.proofs.ReplayLemmas.{at_place-Some}
use Rattle.chv_commit.proofs.RunLemmas.{length-joined, AreRuns-append, AreRuns-joined}
use Rattle.chv_commit.proofs.TakenLemmas.{taken-Some_add, taken-Some_merge}

-- what holds of each of a list holds of each of a part of it
module _ {X : Type 0} where
  pub All-front : (P : X → Type 0) (xs ys : List X) → All P (xs ++ ys) → All P xs
  All-front P xs ys all = subst (All P) (take_at xs ys (length xs) refl) (All-take P (length xs) (xs ++ ys) all)

  pub All-behind : (P : X → Type 0) (xs ys : List X) → All P (xs ++ ys) → All P ys
  All-behind P xs ys all = subst (All P) (drop_at xs ys (length xs) refl) (All-drop P (length xs) (xs ++ ys) all)

  AllPairs-head : (R : X → X → Type 0) (x : X) (xs : List X) → AllPairs R (x ∷ xs) → All (R x) xs
  AllPairs-head R x xs all = λ k d inside. all zero (suc k) d (omega arith) (omega arith)

  AllPairs-tail : (R : X → X → Type 0) (x : X) (xs : List X) → AllPairs R (x ∷ xs) → AllPairs R xs
  AllPairs-tail R x xs all = λ i j d order inside. all (suc i) (suc j) d (omega arith) (omega arith)

  AllPairs-behind : (R : X → X → Type 0) (xs ys : List X) → AllPairs R (xs ++ ys) → AllPairs R ys
  AllPairs-behind R [] ys all = all
  AllPairs-behind R (x ∷ xs) ys all = AllPairs-behind R xs ys (AllPairs-tail R x (xs ++ ys) all)

  -- one takes the place of several
  All-replaced : (P : X → Type 0) (x : X) (front run behind : List X) → P x → All P (front ++ (run ++ behind)) → All P (front ++ x ∷ behind)
  All-replaced P x front run behind of all =
      All-append P front (x ∷ behind) (All-front P front (run ++ behind) all)
      (All-cons P x behind of (All-behind P run behind (All-behind P front (run ++ behind) all)))

  AllPairs-replaced : (R : X → X → Type 0) (x : X) (front run behind : List X) → All (λ (y : X). R y x) front → All (R x) behind
      → AllPairs R (front ++ (run ++ behind)) → AllPairs R (front ++ x ∷ behind)
  AllPairs-replaced R x [] run behind to_front to_behind all = AllPairs-cons R x behind to_behind (AllPairs-behind R run behind all)
  AllPairs-replaced R x (y ∷ front) run behind to_front to_behind all =
      AllPairs-cons R y (front ++ x ∷ behind)
      (All-replaced (R y) x front run behind (All-head (λ (z : X). R z x) y front to_front) (AllPairs-head R y (front ++ (run ++ behind)) all))
      (AllPairs-replaced R x front run behind (All-tail (λ (z : X). R z x) y front to_front) to_behind (AllPairs-tail R y (front ++ (run ++ behind)) all))

  -- each of the first is related to each behind them
  AllPairs-cross : (R : X → X → Type 0) (xs ys : List X) → AllPairs R (xs ++ ys) → All (λ (x : X). All (R x) ys) xs
  AllPairs-cross R [] ys all = All-nil (λ (x : X). All (R x) ys)
  AllPairs-cross R (x ∷ xs) ys all =
      All-cons (λ (y : X). All (R y) ys) x xs (All-behind (R x) xs ys (AllPairs-head R x (xs ++ ys) all)) (AllPairs-cross R xs ys (AllPairs-tail R x (xs ++ ys) all))

-- before the first commit
pub IsSound-no_state : IsSound no_state
IsSound-no_state = record {
  runs = refl;
  parts = All-nil _;
  apart = λ i j d order inside. absurd (omega arith);
  levels = All-nil _;
  next = omega arith;
  bounded = omega arith;
  counted = omega arith;
}

-- new entries keep what holds
pub IsSound-added : (window part rows : ℕ) (ids : List BlockId) (old : State) → IsSound old → part ≡ old.next_part → 1 ≤ length ids
    → old.entries + length ids ≤ MAX_ENTRIES → IsSound (added window part rows ids old)
IsSound-added window part rows ids old held in_turn some room =
    let row : PartRow = record { lo = old.entries + 1; hi = old.entries + length ids; level = 0; part = part; rows = rows } in
    let spans : map span_of (old.layout ++ row ∷ []) ≡ map span_of old.layout ++ span_of row ∷ [] = map-append span_of old.layout (row ∷ []) in
    let first : 8 ≤ old.next_part = held.next in
    record {
      runs = rw spans (AreRuns-append 1 old.entries (old.entries + length ids) (map span_of old.layout) (span_of row ∷ []) held.runs (refl, omega arith, refl));
      parts = All-push (λ (r : PartRow). (8 ≤ r.part) × (r.part < old.next_part + 1)) old.layout row
          (All-weaker (λ (r : PartRow). (8 ≤ r.part) × (r.part < old.next_part)) (λ (r : PartRow). (8 ≤ r.part) × (r.part < old.next_part + 1)) (λ r of. (of.0, omega (arith, of.1))) old.layout held.parts)
          (omega arith, omega arith);
      apart = all_pairs_push (λ (a b : PartRow). a.part ≢ b.part) old.layout row held.apart (λ k d inside e. absurd (omega (arith, e, (held.parts k d inside).1)));
      levels = All-push (λ (r : PartRow). r.level + 8 ≤ r.part) old.layout row held.levels (omega arith);
      next = omega arith;
      bounded = room;
      counted = omega (arith, held.counted, length-append old.layout (row ∷ []));
    }

-- no part has a greater level than the greatest
greatest_level-bound : (most : ℕ) (rows : List PartRow) → All (λ (r : PartRow). r.level ≤ most) rows → greatest_level rows ≤ most
greatest_level-bound most [] all = omega arith
greatest_level-bound most (row ∷ rows) all =
    omega (arith, All-head (λ (r : PartRow). r.level ≤ most) row rows all, greatest_level-bound most rows (All-tail (λ (r : PartRow). r.level ≤ most) row rows all))

-- parts that become one keep what holds
pub IsSound-merged : (row : PartRow) (old : State) (layout : List PartRow) → IsSound old → row.part ≡ old.next_part → IsJoined row old.layout layout
    → IsSound (record old { layout = layout; next_part = old.next_part + 1 })
IsSound-merged row old layout held in_turn is =
    let first : 8 ≤ old.next_part = held.next in
    let IsOld : PartRow → Type 0 = λ r. (8 ≤ r.part) × (r.part < old.next_part) in
    let IsNew : PartRow → Type 0 = λ r. (8 ≤ r.part) × (r.part < old.next_part + 1) in
    let IsLow : PartRow → Type 0 = λ r. r.level + 8 ≤ r.part in
    let Differ : PartRow → PartRow → Type 0 = λ a b. a.part ≢ b.part in
    let parts : All IsOld (is.front ++ (is.run ++ is.behind)) = subst (All IsOld) is.old_is held.parts in
    let levels : All IsLow (is.front ++ (is.run ++ is.behind)) = subst (All IsLow) is.old_is held.levels in
    let front_parts : All IsOld is.front = All-front IsOld is.front (is.run ++ is.behind) parts in
    let rest_parts : All IsOld (is.run ++ is.behind) = All-behind IsOld is.front (is.run ++ is.behind) parts in
    let run_parts : All IsOld is.run = All-front IsOld is.run is.behind rest_parts in
    let behind_parts : All IsOld is.behind = All-behind IsOld is.run is.behind rest_parts in
    let run_levels : All IsLow is.run = All-front IsLow is.run is.behind (All-behind IsLow is.front (is.run ++ is.behind) levels) in
    let greatest : greatest_level is.run ≤ old.next_part - 9 =
    greatest_level-bound (old.next_part - 9) is.run (λ k d inside. omega (arith, run_levels k d inside, (run_parts k d inside).1)) in
    let one : IsOld (get_or is.run 0 row) = run_parts 0 row (omega (arith, is.several)) in
    let low : IsLow row = omega (arith, is.level, greatest, in_turn, one.0, one.1) in
    record {
      runs = AreRuns-joined row old.entries old.layout layout is held.runs;
      parts = subst (All IsNew) (sym is.new_is)
          (All-replaced IsNew row is.front is.run is.behind (omega arith, omega arith)
          (All-weaker IsOld IsNew (λ r of. (of.0, omega (arith, of.1))) (is.front ++ (is.run ++ is.behind)) parts));
      apart = subst (AllPairs Differ) (sym is.new_is)
          (AllPairs-replaced Differ row is.front is.run is.behind
          (λ k d inside e. absurd (omega (arith, e, in_turn, (front_parts k d inside).1)))
          (λ k d inside e. absurd (omega (arith, e, in_turn, (behind_parts k d inside).1)))
          (subst (AllPairs Differ) is.old_is held.apart));
      levels = subst (All IsLow) (sym is.new_is) (All-replaced IsLow row is.front is.run is.behind low levels);
      next = omega arith;
      bounded = held.bounded;
      counted = omega (arith, held.counted, length-joined row old.layout layout is);
    }

-- the live parts behind a merge are none of those that became one
pub IsJoined-apart : (row : PartRow) (old : State) (layout : List PartRow) → IsSound old → row.part ≡ old.next_part → (is : IsJoined row old.layout layout)
    → All (λ (stays : PartRow). All (λ (gone : PartRow). stays.part ≢ gone.part) is.run) layout
IsJoined-apart row old layout held in_turn is =
    let IsApart : PartRow → Type 0 = λ stays. All (λ (gone : PartRow). stays.part ≢ gone.part) is.run in
    let Differ : PartRow → PartRow → Type 0 = λ a b. a.part ≢ b.part in
    let IsOld : PartRow → Type 0 = λ r. (8 ≤ r.part) × (r.part < old.next_part) in
    let all : AllPairs Differ (is.front ++ (is.run ++ is.behind)) = subst (AllPairs Differ) is.old_is held.apart in
    let run_parts : All IsOld is.run =
    All-front IsOld is.run is.behind (All-behind IsOld is.front (is.run ++ is.behind) (subst (All IsOld) is.old_is held.parts)) in
    let to_behind : All (λ (gone : PartRow). All (Differ gone) is.behind) is.run = AllPairs-cross Differ is.run is.behind (AllPairs-behind Differ is.front (is.run ++ is.behind) all) in
    subst (All IsApart) (sym is.new_is)
    (All-append IsApart is.front (row ∷ is.behind)
    (All-weaker (λ (stays : PartRow). All (Differ stays) (is.run ++ is.behind)) IsApart (λ stays apart. All-front (Differ stays) is.run is.behind apart) is.front
    (AllPairs-cross Differ is.front (is.run ++ is.behind) all))
    (All-cons IsApart row is.behind (λ k d inside e. absurd (omega (arith, e, in_turn, (run_parts k d inside).1)))
    (λ k d inside j e within same. to_behind j e within k d inside (sym same))))

-- a commit that is taken keeps what holds
pub IsSound-taken : (window : ℕ) (old new : State) (commit : Commit) → IsSound old → taken window old commit ≡ Some new → IsSound new
IsSound-taken window old new (Add part rows ids) held e =
    let adds = taken-Some_add window part rows ids old new e in
    subst IsSound (sym adds.new_is) (IsSound-added window part rows ids old held adds.in_turn adds.some adds.room)
IsSound-taken window old new (Merge lo hi part level rows) held e =
    let merges = taken-Some_merge window lo hi part level rows old new e in
    subst IsSound (sym merges.new_is) (IsSound-merged _ old merges.layout held merges.in_turn merges.is)

-- commits that are taken one behind the other keep what holds
pub IsSound-replayed : (window : ℕ) (old new : State) (commits : List Commit) → IsSound old → replayed window old commits ≡ Some new → IsSound new
IsSound-replayed window old new [] held e = subst IsSound (same_Some old new e) held
IsSound-replayed window old new (commit ∷ commits) held e =
    let one = at_place-Some (taken window old commit) (λ next. replayed window next commits) new e in
    IsSound-replayed window one.0 new commits (IsSound-taken window old one.0 commit held one.1) one.2
