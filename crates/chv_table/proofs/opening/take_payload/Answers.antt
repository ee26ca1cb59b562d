-- A payload is that of one commit at most: where the one that was read does not fit, none fits.
use Rattle.std.proofs.Common.{◌≡◌, ◌∙◌, ℕ, Bool, false, if◌then◌else◌, List, Option, Some, None, IfSome, Result, Ok, Err, IfOk, sym, ap, subst}
use Rattle.chv_commit.specs.Commits.{commit_spelling, IsCommit}
use Rattle.chv_commit.specs.Replays.{State, taken}
use Rattle.chv_commit.specs.declared.commit.Commit.{Commit}
use Rattle.chv_commit.proofs.CommitLemmas.{commit_spelling-injective}
use Rattle.chv_table.proofs.opening.take_payload.Goals as goal

none_fits : {E : Type 0} (window : ℕ) (old new : State) (payload : List ℕ) (one : Commit) (result : Result Bool E) → IsCommit one → payload ≡ commit_spelling one
    → IfOk result (λ fits. taken window old one ≡ (if fits then Some new else None))
    → IfOk result (λ fits. fits ≡ false → (commit : Commit) → IsCommit commit → payload ≡ commit_spelling commit → taken window old commit ≡ None)
none_fits window old new payload one (Ok fits) is are taken_one = λ not_fit commit right spelled.
    ap (taken window old) (commit_spelling-injective commit one right is (sym spelled ∙ are)) ∙ taken_one ∙ ap (λ (b : Bool). if b then Some new else None) not_fit
none_fits window old new payload one (Err e) is are taken_one = taken_one

pub returns-in-Some-clause-lacks : goal.returns-in-Some-clause-lacks
returns-in-Some-clause-lacks c =
    let payload = c.args.payload.now in
    let read = subst (λ (o : Option Commit). IfSome o (λ commit. IsCommit commit × (payload ≡ commit_spelling commit))) c.in-Some.is c.in_ok-commit.ensures.some in
    none_fits c.args.replay.now.window c.args.replay.now.state c.take.new.self.state payload c.in-Some.commit c.take.result read.0 read.1 c.take.ensures.taken
