-- Where a table's log is damaged.
use Rattle.std.proofs.Common.{◌≡◌, ℕ, ◌+◌, List, [], ◌∷◌, ◌++◌, map, get_or, drop, Some, refl, sym, ap, ap₂, subst, ◌∙◌}
use Rattle.std.specs.List.{All}
use Rattle.std.proofs.lemmas.List.Elements.{All-head}
use Rattle.std.proofs.lemmas.Option.{same_Some}
use Rattle.chv_commit.specs.Commits.{commit_spelling, IsCommit}
use Rattle.chv_commit.specs.Replays.{State, AreCommits, no_state, taken, replayed}
use Rattle.chv_commit.specs.declared.commit.Commit.{Commit}
use Rattle.chv_commit.proofs.CommitLemmas.{map_commit_spelling-injective}
use Rattle.chv_commit.proofs.ReplayLemmas.{at_place-Some, replayed-front}
use Rattle.chv_commit.proofs.SoundLemmas.{All-front, All-behind}
use Rattle.chv_gate.specs.GateLog.{HasFrames}
use Rattle.chv_gate.specs.Reading.{IsFollowed, IsReadUpTo, IsDamagedAt}
use Rattle.chv_gate.proofs.DamageLaws.{damage_unique, damage_excludes}
use Rattle.chv_part.specs.declared.damage.Damage.{Damage}
use Rattle.chv_table.specs.Damage.{IsLogDamage}
use Rattle.chv_table.specs.Opening.{LacksCommit}

-- payloads of commits are cut where the commits are
front-payloads : (xs ys : List (List ℕ)) (commits : List Commit) → xs ++ ys ≡ map commit_spelling commits
    → (front more : List Commit) × (commits ≡ front ++ more) × (xs ≡ map commit_spelling front) × (ys ≡ map commit_spelling more)
front-payloads [] ys commits same = ([], commits, refl, refl, same)
front-payloads (x ∷ xs) ys [] same = absurd (cc same)
front-payloads (x ∷ xs) ys (commit ∷ commits) same =
    let rest = front-payloads xs ys commits (ap (λ (l : List (List ℕ)). drop 1 l) same) in (
      commit ∷ rest.0,
      rest.1,
      ap (λ (l : List Commit). commit ∷ l) rest.2,
      ap₂ (λ (p : List ℕ) (ps : List (List ℕ)). p ∷ ps) (ap (λ (l : List (List ℕ)). get_or l 0 []) same) rest.3,
      rest.4,
    )

-- payloads that are right stay so where the end of their list is left out
pub front-AreCommits : (window : ℕ) (xs ys : List (List ℕ)) → AreCommits window (xs ++ ys) → AreCommits window xs
front-AreCommits window xs ys right =
    let front = front-payloads xs ys right.commits right.are in
    let state = replayed-front window no_state right.state front.0 front.1 (rw front.2 at right.replays) in
    record {
      commits = front.0;
      right = All-front IsCommit front.0 front.1 (rw front.2 at right.right);
      are = front.3;
      state = state.0;
      replays = state.1;
    }

-- the damage of a log names its table and a place
pub log_damage_at : (number window : ℕ) (file : List ℕ) (damage : Damage) → IsLogDamage number window file damage → (at : ℕ) × (damage ≡ Damage.Log number at) × IsDamagedAt (AreCommits window) at file
log_damage_at number window file (Damage.Catalog at) is = absurd is
log_damage_at number window file (Damage.Log table at) is = (at, ap (λ (n : ℕ). Damage.Log n at) is.0, is.1)
log_damage_at number window file (Damage.PartHash table part kept found) is = absurd is
log_damage_at number window file (Damage.PartShape table part) is = absurd is

-- a log is damaged in one way at most
pub log_damage_unique : (number window : ℕ) (file : List ℕ) (a b : Damage) → IsLogDamage number window file a → IsLogDamage number window file b → a ≡ b
log_damage_unique number window file a b of_a of_b =
    let x = log_damage_at number window file a of_a in
    let y = log_damage_at number window file b of_b in
    x.1 ∙ ap (λ (at : ℕ). Damage.Log number at) (damage_unique (AreCommits window) (front-AreCommits window) file x.0 y.0 x.2 y.2) ∙ sym y.1

-- a damaged log has no list of frames that is right
pub log_damage_excludes : (number window : ℕ) (file : List ℕ) (damage : Damage) → IsLogDamage number window file damage → (payloads : List (List ℕ)) → HasFrames payloads file → AreCommits window payloads → ⊥
log_damage_excludes number window file damage is payloads has right =
    let x = log_damage_at number window file damage is in
    damage_excludes (AreCommits window) (front-AreCommits window) file x.0 x.2 payloads has right

-- a payload behind a log that is right is that of a commit that fits
pub record FitsBehind (window : ℕ) (state : State) (payload : List ℕ) : Type 0 where
  pub commit : Commit
  pub right : IsCommit commit
  pub spelled : payload ≡ commit_spelling commit
  pub new : State
  pub fits : taken window state commit ≡ Some new

fits_alone : (window : ℕ) (state end : State) (payload : List ℕ) (commits : List Commit) → payload ∷ [] ≡ map commit_spelling commits → All IsCommit commits → replayed window state commits ≡ Some end → FitsBehind window state payload
fits_alone window state end payload [] same right replays = absurd (cc same)
fits_alone window state end payload (commit ∷ []) same right replays =
    let one = at_place-Some (taken window state commit) (λ next. replayed window next []) end replays in
    record { commit = commit; right = All-head IsCommit commit [] right; spelled = ap (λ (l : List (List ℕ)). get_or l 0 []) same; new = one.0; fits = one.1 }
fits_alone window state end payload (commit ∷ next ∷ commits) same right replays = absurd (cc (ap (λ (l : List (List ℕ)). drop 1 l) same))

fits_behind : (window : ℕ) (state : State) (commits : List Commit) (payload : List ℕ) → All IsCommit commits → replayed window no_state commits ≡ Some state
    → AreCommits window (map commit_spelling commits ++ payload ∷ []) → FitsBehind window state payload
fits_behind window state commits payload right replays all =
    let front = front-payloads (map commit_spelling commits) (payload ∷ []) all.commits all.are in
    let rights : All IsCommit (front.0 ++ front.1) = rw front.2 at all.right in
    let same : commits ≡ front.0 = map_commit_spelling-injective commits front.0 right (All-front IsCommit front.0 front.1 rights) front.3 in
    let cut = replayed-front window no_state all.state front.0 front.1 (rw front.2 at all.replays) in
    let middle : state ≡ cut.0 = same_Some state cut.0 (sym replays ∙ ap (replayed window no_state) same ∙ cut.1) in
    fits_alone window state all.state payload front.1 front.4 (All-behind IsCommit front.0 front.1 rights) (subst (λ (s : State). replayed window s front.1 ≡ Some all.state) (sym middle) cut.2)

-- behind the commits that were read, an open gate that lacks a commit that fits is damage
pub lacks_damage : (window gate : ℕ) (state : State) (file : List ℕ) (commits : List Commit) → All IsCommit commits → replayed window no_state commits ≡ Some state
    → IsReadUpTo gate (map commit_spelling commits) file → LacksCommit gate window state file → IsDamagedAt (AreCommits window) (gate + 1) file
lacks_damage window gate state file commits right replays read lacks = record {
  payloads = map commit_spelling commits;
  right = record { commits = commits; right = right; are = refl; state = state; replays = replays };
  gate = gate;
  read = read;
  opened = lacks.opened;
  place = refl;
  wrong = λ payload next follows all.
      let fits = fits_behind window state commits payload right replays all in
      let none = lacks.lacks fits.commit next fits.right (subst (λ (p : List ℕ). IsFollowed gate p next file) fits.spelled follows) in
      absurd (cc (sym none ∙ fits.fits));
}
