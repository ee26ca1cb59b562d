-- New entries begin with 1, and parts that become one with 2.
use Rattle.std.proofs.Common.{◌≡◌, ◌≢◌, ◌∷◌, rules, List, ℕ}
use Rattle.std.proofs.lemmas.Result.{IfOk-weaker}
use Rattle.chv_sip.specs.declared.block_id.BlockId.{BlockId}
use Rattle.chv_commit.specs.Commits.{commit_spelling, IsCommit}
use Rattle.chv_commit.specs.declared.commit.Commit.{Commit}
use Rattle.chv_commit.specs.declared.commit.Commit.TheVariants.{Add, Merge}
use Rattle.chv_commit.proofs.reading.read_commit.Goals as goal

-- bytes behind a 1 that are those of no new entries
no_entries : (bytes : List ℕ) → ((part rows : ℕ) (ids : List BlockId) → IsCommit (Add part rows ids) → 1 ∷ bytes ≢ commit_spelling (Add part rows ids))
    → (commit : Commit) → IsCommit commit → 1 ∷ bytes ≢ commit_spelling commit
no_entries bytes none (Add part rows ids) of = none part rows ids of
no_entries bytes none (Merge lo hi part level rows) of = λ e. cc

-- bytes behind a 2 that are those of no parts that become one
no_parts : (bytes : List ℕ) → ((lo hi part level rows : ℕ) → 2 ∷ bytes ≢ commit_spelling (Merge lo hi part level rows))
    → (commit : Commit) → IsCommit commit → 2 ∷ bytes ≢ commit_spelling commit
no_parts bytes none (Add part rows ids) of = λ e. cc
no_parts bytes none (Merge lo hi part level rows) of = none lo hi part level rows

pub returns-in-Some-eq1-default-clause-none : goal.returns-in-Some-eq1-default-clause-none
returns-in-Some-eq1-default-clause-none c =
    let bytes = c.in-Some-eq1-default.rest.now in
    let is : c.args.payload.now ≡ 1 ∷ bytes = search rules in
    IfOk-weaker c.read_add.result _ _ (λ read none is_none. rw is (no_entries bytes (none is_none))) c.read_add.ensures.none

pub returns-in-Some-eq2-default-clause-none : goal.returns-in-Some-eq2-default-clause-none
returns-in-Some-eq2-default-clause-none c = λ is_none.
    let bytes = c.in-Some-eq2-default.rest.now in
    let is : c.args.payload.now ≡ 2 ∷ bytes = search rules in
    rw is (no_parts bytes (c.read_merge.ensures.none is_none))
