-- How long the frames of a log are.
use Rattle.std.proofs.Common.{◌≡◌, ◌+◌, ◌*◌, ◌≤◌, ◌∷◌, [], ℕ, List, length, Some, arith, ap, length-append}
use Rattle.std.proofs.lemmas.Option.{same_Some}
use Rattle.chv_commit.specs.Commits.{commit_spelling}
use Rattle.chv_commit.specs.Replays.{State, taken, replayed}
use Rattle.chv_commit.specs.declared.commit.Commit.{Commit}
use Rattle.chv_commit.specs.declared.commit.Commit.TheVariants.{Add, Merge}
use Rattle.chv_commit.proofs.CommitLemmas.{length-commit_spelling_add, length-commit_spelling_merge}
use Rattle.chv_commit.proofs.ReplayLemmas.{at_place-Some}
use Rattle.chv_commit.proofs.RunLemmas.{length-joined}
use Rattle.chv_commit.proofs.TakenLemmas.{taken-Some_add, taken-Some_merge}

-- new entries pay for their frame and their part, and parts that become one for their frame
pub taken-short : (window : ℕ) (old new : State) (commit : Commit) → taken window old commit ≡ Some new
    → length (commit_spelling commit) + 5 + 46 * length new.layout + 88 * old.entries ≤ 88 * new.entries + 46 * length old.layout
taken-short window old new (Add part rows ids) e =
    let adds = taken-Some_add window part rows ids old new e in
    omega (
      arith,
      length-commit_spelling_add part rows ids,
      ap (λ (s : State). length s.layout) adds.new_is,
      ap (λ (s : State). s.entries) adds.new_is,
      length-append old.layout (record { lo = old.entries + 1; hi = old.entries + length ids; level = 0; part = part; rows = rows } ∷ []),
      adds.some,
    )
taken-short window old new (Merge lo hi part level rows) e =
    let merges = taken-Some_merge window lo hi part level rows old new e in
    omega (
      arith,
      length-commit_spelling_merge lo hi part level rows,
      ap (λ (s : State). length s.layout) merges.new_is,
      ap (λ (s : State). s.entries) merges.new_is,
      length-joined _ old.layout merges.layout merges.is,
    )

-- the bytes of the frames of commits: each has its length in four bytes, its payload, and a gate
abbrev pub frames_size : List Commit → ℕ
frames_size [] = 0
frames_size (commit ∷ commits) = length (commit_spelling commit) + 5 + frames_size commits

-- the frames of commits that fit one behind the other
pub replayed-short : (window : ℕ) (old new : State) (commits : List Commit) → replayed window old commits ≡ Some new
    → frames_size commits + 46 * length new.layout + 88 * old.entries ≤ 88 * new.entries + 46 * length old.layout
replayed-short window old new [] e =
    let same : old ≡ new = same_Some old new e in
    omega (arith, ap (λ (s : State). length s.layout) same, ap (λ (s : State). s.entries) same)
replayed-short window old new (commit ∷ commits) e =
    let one = at_place-Some (taken window old commit) (λ next. replayed window next commits) new e in
    omega (arith, taken-short window old one.0 commit one.1, replayed-short window one.0 new commits one.2)
