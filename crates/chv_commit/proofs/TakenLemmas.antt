-- Commits that are taken, and what a log says behind them.
use Rattle.std.proofs.Common.{◌≡◌, ◌+◌, ◌≤◌, ◌++◌, ◌∷◌, [], ◌∙◌, ◌&&◌, not, ℕ, Bool, true, false, if◌then◌else◌, nat_eq, nat_lt, List, Option, None, Some, length, map, sym, ap, subst, arith, refl}
use Rattle.std.proofs.lemmas.Bool.{eqb-true, eq-eqb, ltb-true}
use Rattle.std.proofs.lemmas.Bool.Decides.{nat_tests}
use Rattle.std.proofs.lemmas.Option.{cond_some, same_Some}
use Rattle.std.proofs.lemmas.List.{map_push}
use Rattle.std.proofs.lemmas.List.Elements.{All-push}
use Rattle.chv_sip.specs.declared.block_id.BlockId.{BlockId}
use Rattle.chv_commit.specs.Commits.{commit_spelling, IsCommit}
use Rattle.chv_commit.specs.Replays.{MAX_ENTRIES, State, no_state, add_fits, added, IsJoined, joined, Adds, Merges, Takes, AreRuns, span_of, IsSound, at_place, taken, replayed, AreCommits}
use Rattle.chv_commit.specs.declared.commit.Commit.{Commit}
use Rattle.chv_commit.specs.declared.commit.Commit.TheVariants.{Add, Merge}
use Rattle.chv_commit.specs.declared.part_row.PartRow.{PartRow}
use Rattle.chv_commit.proofs.CommitLemmas.{map_commit_spelling-injective}
use Rattle.chv_commit.proofs.ReplayLemmas.{at_place-Some, replayed-more}
use Rattle.chv_commit.proofs.RunLemmas.{joined-Some, joined-run, both}

in_turn-Some : {A : Type 0} (turn : Bool) (o : Option A) (y : A) → (if turn then o else None) ≡ Some y → (turn ≡ true) × (o ≡ Some y)
in_turn-Some true o y e = (refl, e)
in_turn-Some false o y e = cc

-- new entries that are taken fit
pub taken-Some_add : (window part rows : ℕ) (ids : List BlockId) (old new : State) → taken window old (Add part rows ids) ≡ Some new → Adds window part rows ids old new
taken-Some_add window part rows ids old new e =
    let fits = cond_some (add_fits part (length ids) old) (added window part rows ids old) new e in
    let turn = both (nat_eq part old.next_part) _ fits.0 in
    let size = both (nat_lt 0 (length ids)) (not (nat_lt MAX_ENTRIES (old.entries + length ids))) turn.1 in
    record {
      in_turn = eqb-true part old.next_part turn.0;
      some = ltb-true 0 (length ids) size.0;
      room = grind (arith, nat_tests, size.1);
      new_is = sym fits.1;
    }

-- parts that become one fit where they are taken
pub taken-Some_merge : (window lo hi part level rows : ℕ) (old new : State) → taken window old (Merge lo hi part level rows) ≡ Some new
    → Merges (record { lo = lo; hi = hi; level = level; part = part; rows = rows }) old new
taken-Some_merge window lo hi part level rows old new e =
    let row : PartRow = record { lo = lo; hi = hi; level = level; part = part; rows = rows } in
    let turn : (nat_eq part old.next_part ≡ true) × (at_place (joined row old.layout) (λ layout. Some (record old { layout = layout; next_part = old.next_part + 1 })) ≡ Some new) = in_turn-Some (nat_eq part old.next_part) _ new e in
    let joins = at_place-Some (joined row old.layout) _ new turn.1 in
    record {
      in_turn = eqb-true part old.next_part turn.0;
      layout = joins.0;
      is = joined-Some row old.layout joins.0 joins.1;
      new_is = sym (same_Some _ new joins.2);
    }

-- new entries that fit are taken
pub taken-add : (window part rows : ℕ) (ids : List BlockId) (old : State) → part ≡ old.next_part → 1 ≤ length ids → old.entries + length ids ≤ MAX_ENTRIES
    → taken window old (Add part rows ids) ≡ Some (added window part rows ids old)
taken-add window part rows ids old in_turn some room =
    let fits : (nat_lt 0 (length ids) && not (nat_lt MAX_ENTRIES (old.entries + length ids))) ≡ true = grind (arith, nat_tests) in
    rw (eq-eqb part old.next_part in_turn, fits) refl

-- parts that become one are taken where the one is the next part
pub taken-merge : (window : ℕ) (row : PartRow) (old : State) (layout : List PartRow) → row.part ≡ old.next_part → joined row old.layout ≡ Some layout
    → taken window old (Merge row.lo row.hi row.part row.level row.rows) ≡ Some (record old { layout = layout; next_part = old.next_part + 1 })
taken-merge window row old layout in_turn joins = rw (eq-eqb row.part old.next_part in_turn, joins) refl

-- a commit that is taken fits
pub taken-Takes : (window : ℕ) (old new : State) (commit : Commit) → taken window old commit ≡ Some new → Takes window old commit new
taken-Takes window old new (Add part rows ids) e = taken-Some_add window part rows ids old new e
taken-Takes window old new (Merge lo hi part level rows) e = taken-Some_merge window lo hi part level rows old new e

-- a run of live parts that cut the entries is found where it becomes one
joined-IsJoined : (row : PartRow) (state : State) (new : List PartRow) → IsSound state → IsJoined row state.layout new → joined row state.layout ≡ Some new
joined-IsJoined row state new sound is =
    ap (joined row) is.old_is
    ∙ joined-run row state.entries is.front is.run is.behind (subst (λ (l : List PartRow). AreRuns 1 state.entries (map span_of l)) is.old_is sound.runs)
    is.several (sym is.begins) (sym is.ends) is.level
    ∙ ap (λ (l : List PartRow). Some l) (sym is.new_is)

-- a commit that fits is taken
pub taken-from_Takes : (window : ℕ) (old new : State) (commit : Commit) → IsSound old → Takes window old commit new → taken window old commit ≡ Some new
taken-from_Takes window old new (Add part rows ids) sound adds =
    taken-add window part rows ids old adds.in_turn adds.some adds.room ∙ ap (λ (s : State). Some s) (sym adds.new_is)
taken-from_Takes window old new (Merge lo hi part level rows) sound merges =
    let row : PartRow = record { lo = lo; hi = hi; level = level; part = part; rows = rows } in
    taken-merge window row old merges.layout merges.in_turn (joined-IsJoined row old merges.layout sound merges.is)
    ∙ ap (λ (s : State). Some s) (sym merges.new_is)

-- payloads that are a log's, and one more behind them
pub AreCommits-append : (window : ℕ) (payloads : List (List ℕ)) (commit : Commit) (end : State) (are : AreCommits window payloads) → IsCommit commit
    → taken window are.state commit ≡ Some end → AreCommits window (payloads ++ commit_spelling commit ∷ [])
AreCommits-append window payloads commit end are is taken_is = record {
  commits = are.commits ++ commit ∷ [];
  right = All-push IsCommit are.commits commit are.right is;
  are = ap (λ (front : List (List ℕ)). front ++ commit_spelling commit ∷ []) are.are ∙ sym (map_push commit_spelling are.commits commit);
  state = end;
  replays = replayed-more window no_state are.state end are.commits commit are.replays taken_is;
}

-- payloads are those of one log
pub AreCommits-unique : (window : ℕ) (payloads : List (List ℕ)) (one other : AreCommits window payloads) → (one.commits ≡ other.commits) × (one.state ≡ other.state)
AreCommits-unique window payloads one other =
    let same : one.commits ≡ other.commits = map_commit_spelling-injective one.commits other.commits one.right other.right (sym one.are ∙ other.are) in
    (same, same_Some one.state other.state (sym one.replays ∙ ap (replayed window no_state) same ∙ other.replays))
