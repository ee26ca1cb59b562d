-- Live parts that cut the entries into runs, and parts of them that become one.
use Rattle.std.proofs.Common.{◌≡◌, ◌≢◌, ◌⊎◌, inl, inr, ◌+◌, ◌-◌, ◌<◌, ◌≤◌, ◌++◌, ◌∷◌, [], ◌∙◌, ◌&&◌, ℕ, zero, suc, Bool, true, false, nat_eq, nat_lt, List, Some, length, map, take, drop, get_or, slice_range, sym, ap, ap₂, subst, arith, refl, length-append, length-drop, take-append-drop}
use Rattle.std.proofs.lemmas.Bool.{eqb-true, eq-eqb, ltb-true, lt-ltb, cases_lt}
use Rattle.std.proofs.lemmas.Bool.Decides.{nat_tests}
use Rattle.std.proofs.lemmas.Option.{cond_some}
use Rattle.std.proofs.lemmas.List.{length-take-le, drop-drop, take_at, drop_at, get_or-take, get_or-drop, get_or_append_left, get_or-append-add, map-append}
use Rattle.std.proofs.lemmas.List.Elements.{All-nil, All-cons, All-weaker}
use Rattle.std.proofs.lemmas.List.Sums.{position_or_len_is}
use Rattle.std.proofs.lemmas.List.Quantifiers.{position-Some}
use Rattle.std.specs.List.{All, position, position_or_len}
use Rattle.chv_commit.specs.Replays.{Span, span_of, AreRuns, IsJoined, greatest_level, joined}
use Rattle.chv_commit.specs.declared.part_row.PartRow.{PartRow}
use Rattle.chv_commit.proofs.ReplayLemmas.{at_place-Some}

-- adjacent runs come one behind the other
pub AreRuns-append : (first middle last : ℕ) (xs ys : List Span) → AreRuns first middle xs → AreRuns (middle + 1) last ys → AreRuns first last (xs ++ ys)
AreRuns-append first middle last [] ys front behind = rw front behind
AreRuns-append first middle last (x ∷ xs) ys front behind = (front.0, front.1, AreRuns-append (x.hi + 1) middle last xs ys front.2 behind)

-- adjacent runs are cut in two
pub AreRuns-cut : (first last : ℕ) (xs ys : List Span) → 1 ≤ first → AreRuns first last (xs ++ ys)
    → (middle : ℕ) × (first ≤ middle + 1) × AreRuns first middle xs × AreRuns (middle + 1) last ys
AreRuns-cut first last [] ys some runs =
    let is : first ≡ (first - 1) + 1 = omega arith in
    (first - 1, omega arith, is, rw (← is) runs)
AreRuns-cut first last (x ∷ xs) ys some runs =
    let rest = AreRuns-cut (x.hi + 1) last xs ys (omega arith) runs.2 in
    (rest.0, omega (arith, rest.1, runs.1), (runs.0, runs.1, rest.2), rest.3)

-- runs end no earlier than before the first
pub AreRuns-order : (first last : ℕ) (xs : List Span) → AreRuns first last xs → first ≤ last + 1
AreRuns-order first last [] runs = omega (arith, runs)
AreRuns-order first last (x ∷ xs) runs = omega (arith, runs.1, AreRuns-order (x.hi + 1) last xs runs.2)

-- the first of runs begins where they begin
pub AreRuns-first : (first last : ℕ) (rows : List PartRow) (d : PartRow) → AreRuns first last (map span_of rows) → 0 < length rows → (get_or rows 0 d).lo ≡ first
AreRuns-first first last [] d runs some = absurd (omega arith)
AreRuns-first first last (row ∷ rows) d runs some = runs.0

-- the last of runs ends where they end
pub AreRuns-last : (first last n : ℕ) (rows : List PartRow) (d : PartRow) → AreRuns first last (map span_of rows) → length rows ≡ n + 1 → (get_or rows n d).hi ≡ last
AreRuns-last first last n [] d runs long = absurd (omega arith)
AreRuns-last first last zero (row ∷ []) d runs long = omega (arith, runs.2)
AreRuns-last first last zero (row ∷ other ∷ rows) d runs long = absurd (omega arith)
AreRuns-last first last (suc n) (row ∷ rows) d runs long = AreRuns-last (row.hi + 1) last n rows d runs.2 (omega arith)

-- both of two tests passed
pub both : (a b : Bool) → (a && b) ≡ true → (a ≡ true) × (b ≡ true)
both true b e = (refl, e)
both false b e = cc

-- the parts from one place to before another, of which there are two or more, become a part that begins and ends as they do
pub IsJoined-range : (row : PartRow) (old : List PartRow) (from to : ℕ) → from + 2 ≤ to → to ≤ length old → row.lo ≡ (get_or old from row).lo
    → row.hi ≡ (get_or old (to - 1) row).hi → row.level ≡ greatest_level (slice_range old from to) + 1 → IsJoined row old (take from old ++ row ∷ drop to old)
IsJoined-range row old from to order inside lo hi level =
    let size : ℕ = to - from in
    let run : List PartRow = slice_range old from to in
    let rest : drop size (drop from old) ≡ drop to old = drop-drop size from old ∙ ap (λ (n : ℕ). drop n old) (omega arith) in
    let long : length run ≡ size = length-take-le size (drop from old) (omega (arith, length-drop from old)) in
    let in_run : (k n : ℕ) → k < size → from + k ≡ n → get_or run k row ≡ get_or old n row =
    λ k n within is. get_or-take size (drop from old) k row within ∙ get_or-drop from old k row ∙ ap (λ (place : ℕ). get_or old place row) is in
    record {
      front = take from old;
      run = run;
      behind = drop to old;
      old_is = sym (take-append-drop from old)
          ∙ ap (λ (xs : List PartRow). take from old ++ xs) (sym (take-append-drop size (drop from old)) ∙ ap (λ (xs : List PartRow). run ++ xs) rest);
      new_is = refl;
      several = omega (arith, long);
      begins = ap (λ (part : PartRow). part.lo) (in_run 0 from (omega arith) (omega arith)) ∙ sym lo;
      ends = ap (λ (part : PartRow). part.hi) (in_run (length run - 1) (to - 1) (omega (arith, long)) (omega (arith, long))) ∙ sym hi;
      level = level;
    }

-- and those are the parts
pub IsJoined-range-run : (row : PartRow) (old : List PartRow) (from to : ℕ) (order : from + 2 ≤ to) (inside : to ≤ length old) (lo : row.lo ≡ (get_or old from row).lo)
    (hi : row.hi ≡ (get_or old (to - 1) row).hi) (level : row.level ≡ greatest_level (slice_range old from to) + 1)
    → (IsJoined-range row old from to order inside lo hi level).run ≡ slice_range old from to
unfolding IsJoined-range
IsJoined-range-run row old from to order inside lo hi level = refl

-- what parts that become one are
pub joined-Some : (row : PartRow) (old new : List PartRow) → joined row old ≡ Some new → IsJoined row old new
joined-Some row old new e =
    let begin = at_place-Some (position (λ (part : PartRow). nat_eq part.lo row.lo) old) _ new e in
    let from : ℕ = begin.0 in
    let end = at_place-Some (position (λ (part : PartRow). nat_eq part.hi row.hi) old) _ new begin.2 in
    let last : ℕ = end.0 in
    let fits = cond_some _ _ new end.2 in
    let tests = both (nat_lt from last) _ fits.0 in
    let before : from < last = ltb-true from last tests.0 in
    let at_from = position-Some (λ (part : PartRow). nat_eq part.lo row.lo) old from row begin.1 in
    let at_last = position-Some (λ (part : PartRow). nat_eq part.hi row.hi) old last row end.1 in
    let before_end : last + 1 - 1 ≡ last = omega arith in
    subst (IsJoined row old) fits.1
    (IsJoined-range row old from (last + 1) (omega arith) (omega (arith, at_last.0)) (sym (eqb-true _ _ at_from.1))
    (sym (eqb-true _ _ at_last.1) ∙ ap (λ (n : ℕ). (get_or old n row).hi) (sym before_end)) (eqb-true _ _ tests.1))

-- the runs of parts that become one, and of those in front of them and behind them
pub record HasRuns (row : PartRow) (last : ℕ) (front run behind : List PartRow) : Type 0 where
  pub before : ℕ
  pub front_runs : AreRuns 1 before (map span_of front)
  pub lo : row.lo ≡ before + 1
  pub some : row.lo ≤ row.hi
  pub run_runs : AreRuns row.lo row.hi (map span_of run)
  pub behind_runs : AreRuns (row.hi + 1) last (map span_of behind)

AreRuns-some : (first last : ℕ) (rows : List PartRow) → AreRuns first last (map span_of rows) → 0 < length rows → first ≤ last
AreRuns-some first last [] runs some = absurd (omega arith)
AreRuns-some first last (row ∷ rows) runs some = omega (arith, runs.1, AreRuns-order (row.hi + 1) last (map span_of rows) runs.2)

-- parts that become one cut the entries from its first to its last
pub IsJoined-runs : (row : PartRow) (last : ℕ) (old new : List PartRow) (is : IsJoined row old new) → AreRuns 1 last (map span_of old)
    → HasRuns row last is.front is.run is.behind
IsJoined-runs row last old new is runs =
    let spans : map span_of old ≡ map span_of is.front ++ (map span_of is.run ++ map span_of is.behind) =
    ap (map span_of) is.old_is ∙ map-append span_of is.front (is.run ++ is.behind)
    ∙ ap (λ (xs : List Span). map span_of is.front ++ xs) (map-append span_of is.run is.behind) in
    let outer = AreRuns-cut 1 last (map span_of is.front) (map span_of is.run ++ map span_of is.behind) (omega arith) (rw spans at runs) in
    let inner = AreRuns-cut (outer.0 + 1) last (map span_of is.run) (map span_of is.behind) (omega arith) outer.3 in
    let lo : row.lo ≡ outer.0 + 1 = sym is.begins ∙ AreRuns-first (outer.0 + 1) inner.0 is.run row inner.2 (omega (arith, is.several)) in
    let hi : row.hi ≡ inner.0 = sym is.ends ∙ AreRuns-last (outer.0 + 1) inner.0 (length is.run - 1) is.run row inner.2 (omega (arith, is.several)) in
    record {
      before = outer.0;
      front_runs = outer.2;
      lo = lo;
      some = omega (arith, lo, hi, AreRuns-some (outer.0 + 1) inner.0 is.run inner.2 (omega (arith, is.several)));
      run_runs = rw (lo, hi) inner.2;
      behind_runs = rw hi inner.3;
    }

-- parts that become one leave runs
pub AreRuns-joined : (row : PartRow) (last : ℕ) (old new : List PartRow) → IsJoined row old new → AreRuns 1 last (map span_of old) → AreRuns 1 last (map span_of new)
AreRuns-joined row last old new is runs =
    let has = IsJoined-runs row last old new is runs in
    let spans : map span_of new ≡ map span_of is.front ++ span_of row ∷ map span_of is.behind =
    ap (map span_of) is.new_is ∙ map-append span_of is.front (row ∷ is.behind) in
    rw spans (AreRuns-append 1 has.before last (map span_of is.front) (span_of row ∷ map span_of is.behind) has.front_runs (has.lo, omega (arith, has.lo, has.some), has.behind_runs))

-- parts that become one are fewer
pub length-joined : (row : PartRow) (old new : List PartRow) → IsJoined row old new → length new + 1 ≤ length old
length-joined row old new is =
    omega (arith, ap length is.old_is, ap length is.new_is, length-append is.front (is.run ++ is.behind), length-append is.run is.behind, length-append is.front (row ∷ is.behind), is.several)

-- each of runs is within them
pub AreRuns-within : (first last : ℕ) (rows : List PartRow) → AreRuns first last (map span_of rows)
    → All (λ (row : PartRow). (first ≤ row.lo) × (row.lo ≤ row.hi) × (row.hi ≤ last)) rows
AreRuns-within first last [] runs = All-nil _
AreRuns-within first last (row ∷ rows) runs =
    let order : row.hi + 1 ≤ last + 1 = AreRuns-order (row.hi + 1) last (map span_of rows) runs.2 in
    All-cons (λ (r : PartRow). (first ≤ r.lo) × (r.lo ≤ r.hi) × (r.hi ≤ last)) row rows (omega (arith, runs.0), omega (arith, runs.0, runs.1), omega arith)
    (All-weaker (λ (r : PartRow). (row.hi + 1 ≤ r.lo) × (r.lo ≤ r.hi) × (r.hi ≤ last)) (λ (r : PartRow). (first ≤ r.lo) × (r.lo ≤ r.hi) × (r.hi ≤ last))
    (λ r of. (omega (arith, of.0, runs.1), of.1, of.2)) rows (AreRuns-within (row.hi + 1) last rows runs.2))

-- only the last of runs ends where they end
AreRuns-earlier : (first last k : ℕ) (rows : List PartRow) (d : PartRow) → AreRuns first last (map span_of rows) → k + 1 < length rows → (get_or rows k d).hi < last
AreRuns-earlier first last k [] d runs inside = absurd (omega arith)
AreRuns-earlier first last zero (row ∷ rows) d runs inside = omega (arith, AreRuns-some (row.hi + 1) last rows runs.2 (omega arith))
AreRuns-earlier first last (suc k) (row ∷ rows) d runs inside = AreRuns-earlier (row.hi + 1) last k rows d runs.2 (omega arith)

position-is : (test : PartRow → Bool) (rows : List PartRow) (n : ℕ) (d : PartRow) → n < length rows → ((k : ℕ) → k < n → test (get_or rows k d) ≡ false)
    → test (get_or rows n d) ≡ true → position test rows ≡ Some n
position-is test rows n d inside before here =
    let is : position_or_len test rows ≡ n = position_or_len_is test rows n d (omega arith) before (λ _. here) in
    rw (is, lt-ltb n (length rows) inside) refl

differ : (a b : ℕ) → a ≢ b → nat_eq a b ≡ false
differ a b apart = grind (arith, nat_tests)

joined-at : (row : PartRow) (old : List PartRow) (from last : ℕ) → position (λ (part : PartRow). nat_eq part.lo row.lo) old ≡ Some from
    → position (λ (part : PartRow). nat_eq part.hi row.hi) old ≡ Some last → from < last → row.level ≡ greatest_level (slice_range old from (last + 1)) + 1
    → joined row old ≡ Some (take from old ++ row ∷ drop (last + 1) old)
joined-at row old from last is_from is_last order level = rw (is_from, is_last, lt-ltb from last order, eq-eqb row.level _ level) refl

-- a run of two live parts or more becomes a part that begins and ends as it
pub joined-run : (row : PartRow) (last : ℕ) (front run behind : List PartRow) → AreRuns 1 last (map span_of (front ++ (run ++ behind))) → 2 ≤ length run
    → row.lo ≡ (get_or run 0 row).lo → row.hi ≡ (get_or run (length run - 1) row).hi → row.level ≡ greatest_level run + 1
    → joined row (front ++ (run ++ behind)) ≡ Some (front ++ row ∷ behind)
joined-run row last front run behind runs several lo hi level =
    let old : List PartRow = front ++ (run ++ behind) in
    let is : IsJoined row old (front ++ row ∷ behind) = record {
      front = front;
      run = run;
      behind = behind;
      old_is = refl;
      new_is = refl;
      several = several;
      begins = sym lo;
      ends = sym hi;
      level = level;
    } in
    let has = IsJoined-runs row last old (front ++ row ∷ behind) is runs in
    let end : ℕ = length front + length run - 1 in
    let long : length old ≡ length front + (length run + length behind) = omega (arith, length-append front (run ++ behind), length-append run behind) in
    let in_front : (k : ℕ) → k < length front → get_or old k row ≡ get_or front k row = λ k inside. get_or_append_left front (run ++ behind) row k inside in
    let in_run : (k n : ℕ) → k < length run → n ≡ length front + k → get_or old n row ≡ get_or run k row =
    λ k n inside at. ap (λ (place : ℕ). get_or old place row) at ∙ get_or-append-add front (run ++ behind) k row ∙ get_or_append_left run behind row k inside in
    let in_front_runs : All (λ (r : PartRow). (1 ≤ r.lo) × (r.lo ≤ r.hi) × (r.hi ≤ has.before)) front = AreRuns-within 1 has.before front has.front_runs in
    let place_of_from : position (λ (part : PartRow). nat_eq part.lo row.lo) old ≡ Some (length front) =
    position-is (λ (part : PartRow). nat_eq part.lo row.lo) old (length front) row (omega (arith, long))
    (λ k inside. differ (get_or old k row).lo row.lo
    (λ e. absurd (omega (arith, e, has.lo, ap (λ (r : PartRow). r.lo) (in_front k inside), (in_front_runs k row inside).1, (in_front_runs k row inside).2))))
    (eq-eqb (get_or old (length front) row).lo row.lo (ap (λ (r : PartRow). r.lo) (in_run 0 (length front) (omega arith) (omega arith)) ∙ sym lo)) in
    let earlier : (k : ℕ) → k < end → (k < length front) ⊎ (length front ≤ k) → (get_or old k row).hi < row.hi =
    λ k inside at. elim at as (λ _. (get_or old k row).hi < row.hi) [
      | inl before ↦ omega (arith, ap (λ (r : PartRow). r.hi) (in_front k before), (in_front_runs k row before).2, has.lo, has.some)
      | inr behind_front ↦ omega (
        arith,
        ap (λ (r : PartRow). r.hi) (in_run (k - length front) k (omega arith) (omega arith)),
        AreRuns-earlier row.lo row.hi (k - length front) run row has.run_runs (omega arith),
      )
    ] in
    let place_of_end : position (λ (part : PartRow). nat_eq part.hi row.hi) old ≡ Some end =
    position-is (λ (part : PartRow). nat_eq part.hi row.hi) old end row (omega (arith, long))
    (λ k inside. differ (get_or old k row).hi row.hi (λ e. absurd (omega (arith, e, earlier k inside (cases_lt k (length front))))))
    (eq-eqb (get_or old end row).hi row.hi (ap (λ (r : PartRow). r.hi) (in_run (length run - 1) end (omega arith) (omega arith)) ∙ sym hi)) in
    let cut : drop (length front) old ≡ run ++ behind = drop_at front (run ++ behind) (length front) refl in
    let middle : slice_range old (length front) (end + 1) ≡ run =
    ap (take (end + 1 - length front)) cut ∙ take_at run behind (end + 1 - length front) (omega arith) in
    let rest : drop (end + 1) old ≡ behind =
    ap (λ (n : ℕ). drop n old) (omega arith) ∙ sym (drop-drop (length run) (length front) old) ∙ ap (drop (length run)) cut ∙ drop_at run behind (length run) refl in
    joined-at row old (length front) end place_of_from place_of_end (omega arith) (level ∙ ap (λ (rows : List PartRow). greatest_level rows + 1) (sym middle))
    ∙ ap₂ (λ (a b : List PartRow). Some (a ++ row ∷ b)) (take_at front (run ++ behind) (length front) refl) rest
