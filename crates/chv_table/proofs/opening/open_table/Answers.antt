-- The log is begun, and then its commits are read.
use Rattle.std.proofs.Common.{◌≡◌, ◌+◌, ◌≤◌, List, ℕ, length, Option, IfSome, IsNone, Err, refl, sym, ap, subst, ◌∙◌, arith, rules}
use Rattle.std.proofs.lemmas.Bool.{false≢true}
use Rattle.std.proofs.lemmas.Result.{err_from_is_err_and}
use Rattle.chv_site.specs.declared.file_id.FileId.{FileId}
use Rattle.chv_site.specs.Effects.{ChangesOnly}
use Rattle.chv_site.specs.FileIds.{table_log}
use Rattle.chv_site.specs.Files.{FileState, settled}
use Rattle.chv_site.specs.During.{During}
use Rattle.chv_site.specs.Outside.{bytes_in}
use Rattle.chv_site.proofs.Moments.{started}
use Rattle.chv_commit.specs.Replays.{Seen, State}
use Rattle.chv_gate.specs.GateLog.{HasFrames, begun}
use Rattle.chv_gate.specs.Crashes.{Leaves, LeavesFrames}
use Rattle.chv_gate.proofs.BegunLemmas.{during_begun}
use Rattle.chv_part.specs.Books.{Book}
use Rattle.chv_part.specs.Forms.{form_of}
use Rattle.chv_part.specs.declared.damage.Damage.{Damage}
use Rattle.chv_table.specs.declared.fault.TableFault.{TableFault}
use Rattle.chv_table.specs.declared.table.Table.{Table}
use Rattle.chv_table.specs.Tables.{held_state, IsWithin, SettlesBook}
use Rattle.chv_table.specs.Opening.{OpeningLeft, ReadsCommit, TakesCommit, LacksCommit}
use Rattle.chv_gate.proofs.EffectLemmas.{changes_then_reads}
use Rattle.chv_table.proofs.OpeningLemmas.{HasTaken, took_none, took_next, took_sound, took_part, HasRead, read_none, read_next, read_damage, HasOpened, opened_within, opened_commits, opened_placed, opened_frames, opened_book, unopened_left, opening_left, begun_long, changes_well}
use Rattle.chv_table.proofs.opening.open_table.Given.{Over}
use Rattle.chv_table.proofs.opening.open_table.Goals.{After-begin, After-take_commit, In_ok-replayed_table-in-None}
use Rattle.chv_table.proofs.opening.open_table.Goals as goal

pub returns-in_err-replay-clause-book : goal.returns-in_err-replay-clause-book
returns-in_err-replay-clause-book g c = λ tells book stood.
    let old = g.W.Site.outside c.args.site.now in
    let number = c.args.number in
    let form = form_of c.args.def.now in
    record {
      done = search rules;
      during = started old (OpeningLeft number form book old.files old.said)
          (λ image text left. unopened_left number form book old.files old.said image text stood (g.met.W.Site.only_now c.args.site.now image text left));
    }

-- once the log was begun, or not
module _ (g : Over) (c : After-begin g) where
  -- a crash until then leaves its frames
  pub begin_left : g.W.Site.tells → (payloads : List (List ℕ)) → LeavesFrames payloads ((g.W.Site.outside c.args.site.now).files (table_log c.args.number))
      → Leaves (table_log c.args.number) (HasFrames payloads) (g.W.Site.outside c.args.site.now) (g.W.Site.outside c.begin.new.site)
  begin_left tells payloads leaves =
      let S = g.W.Site in
      let before = S.outside c.args.site.now in
      let is = c.table_log-file.ensures in
      subst (λ (f : FileId). Leaves f (HasFrames payloads) before (S.outside c.begin.new.site)) is
      (c.begin.ensures.during tells payloads (subst (λ (f : FileId). LeavesFrames payloads (before.files f)) (sym is) leaves))

pub returns-in_err-begin-clause-during : goal.returns-in_err-begin-clause-during
returns-in_err-begin-clause-during g c = begin_left g (goal.at.returns-in_err-begin-clause-during g c).After-begin

pub returns-in_err-begin-clause-book : goal.returns-in_err-begin-clause-book
returns-in_err-begin-clause-book g c = λ tells book stood. record {
  done = search rules;
  during = opening_left c.args.number (form_of c.args.def.now) book (g.W.Site.outside c.args.site.now) (g.W.Site.outside c.begin.new.site) stood (begin_left g (goal.at.returns-in_err-begin-clause-book g c).After-begin tells);
}

pub commits-init : goal.commits-init
commits-init g c =
    let S = g.W.Site in
    let before = S.outside c.args.site.now in
    let now = S.outside c.begin.new.site in
    let log = table_log c.args.number in
    let is = c.table_log-file.ensures in
    let window : ℕ = c.in_ok-replay.replay.window in
    record {
      window = c.in_ok-replay.ensures.0;
      took = subst (λ (s : State). HasTaken 0 window s) (sym c.in_ok-replay.ensures.1) (took_none window);
      read = λ tells. subst (λ (s : State). HasRead 0 window s (begun (bytes_in before log))) (sym c.in_ok-replay.ensures.1)
          (read_none window (begun (bytes_in before log)));
      begun_now = λ tells. subst (λ (f : FileId). now.files f ≡ settled (begun (bytes_in before f))) is (c.in_ok-begin.ensures.begun tells);
      left = begin_left g (goal.at.commits-init g c).After-begin;
      keeps = subst (λ (f : FileId). ChangesOnly S.tells ⊥ f before now) is (changes_well S.tells _ c.table_log-file.result before now false≢true c.in_ok-begin.ensures.keeps);
    }

-- once a commit was looked for
module _ (g : Over) (c : After-take_commit g) where
  -- a crash leaves the frames of the log from before the call
  pub frames_left : g.W.Site.tells → (payloads : List (List ℕ)) → LeavesFrames payloads ((g.W.Site.outside c.args.site.now).files (table_log c.args.number))
      → Leaves (table_log c.args.number) (HasFrames payloads) (g.W.Site.outside c.args.site.now) (g.W.Site.outside c.take_commit.new.site)
  frames_left tells payloads leaves =
      let S = g.W.Site in
      let log = table_log c.args.number in
      let so_far = c.commits.invariant in
      during_begun log payloads (S.outside c.args.site.now) (S.outside c.commits.site) (S.outside c.take_commit.new.site) leaves (g.met.W.Site.reads c.args.site.now log)
      (so_far.begun_now tells) (so_far.keeps.others tells) (so_far.keeps.said tells) (so_far.left tells payloads leaves) (c.take_commit.ensures.keeps.during tells)

  -- and the book for which the files stood
  pub left_book : g.W.Site.tells → (book : Book) → SettlesBook c.args.number (form_of c.args.def.now) (g.W.Site.outside c.args.site.now).files book
      → During (g.W.Site.outside c.args.site.now) (g.W.Site.outside c.take_commit.new.site) (OpeningLeft c.args.number (form_of c.args.def.now) book (g.W.Site.outside c.args.site.now).files (g.W.Site.outside c.args.site.now).said)
  left_book tells book stood =
      opening_left c.args.number (form_of c.args.def.now) book (g.W.Site.outside c.args.site.now) (g.W.Site.outside c.take_commit.new.site) stood (frames_left tells)

  -- what was read is the log once it is begun
  pub log_read : g.W.Site.tells → bytes_in (g.W.Site.outside c.commits.site) c.table_log-file.result ≡ begun (bytes_in (g.W.Site.outside c.args.site.now) (table_log c.args.number))
  log_read tells = ap (λ (f : FileId). bytes_in (g.W.Site.outside c.commits.site) f) c.table_log-file.ensures ∙ ap (λ (s : FileState). s.bytes) (c.commits.invariant.begun_now tells)

  -- and a log of two bytes or more has its bytes
  pub log_kept : g.W.Site.tells → 2 ≤ length (bytes_in (g.W.Site.outside c.args.site.now) (table_log c.args.number))
      → bytes_in (g.W.Site.outside c.take_commit.new.site) (table_log c.args.number) ≡ bytes_in (g.W.Site.outside c.args.site.now) (table_log c.args.number)
  log_kept tells long =
      let S = g.W.Site in
      let log = table_log c.args.number in
      ap (λ (s : FileState). s.bytes) (c.take_commit.ensures.keeps.files tells log ∙ c.commits.invariant.begun_now tells) ∙ begun_long (bytes_in (S.outside c.args.site.now) log) long

pub returns-in_err-next-clause-during : goal.returns-in_err-next-clause-during
returns-in_err-next-clause-during g c = frames_left g (goal.at.returns-in_err-next-clause-during g c).After-take_commit

pub returns-in_err-replayed_table-in-None-clause-during : goal.returns-in_err-replayed_table-in-None-clause-during
returns-in_err-replayed_table-in-None-clause-during g c = frames_left g (goal.at.returns-in_err-replayed_table-in-None-clause-during g c).After-take_commit

pub returns-in-None-clause-during : goal.returns-in-None-clause-during
returns-in-None-clause-during g c = frames_left g (goal.at.returns-in-None-clause-during g c).After-take_commit

pub returns-in_err-next-clause-book : goal.returns-in_err-next-clause-book
returns-in_err-next-clause-book g c = λ tells book stood. record { done = search rules; during = left_book g (goal.at.returns-in_err-next-clause-book g c).After-take_commit tells book stood }

pub returns-in_err-replayed_table-in-None-clause-book : goal.returns-in_err-replayed_table-in-None-clause-book
returns-in_err-replayed_table-in-None-clause-book g c = λ tells book stood. record { done = search rules; during = left_book g (goal.at.returns-in_err-replayed_table-in-None-clause-book g c).After-take_commit tells book stood }

pub returns-in_err-next-clause-kept : goal.returns-in_err-next-clause-kept
returns-in_err-next-clause-kept g c = log_kept g (goal.at.returns-in_err-next-clause-kept g c).After-take_commit

pub returns-in_err-replayed_table-in-None-clause-kept : goal.returns-in_err-replayed_table-in-None-clause-kept
returns-in_err-replayed_table-in-None-clause-kept g c = log_kept g (goal.at.returns-in_err-replayed_table-in-None-clause-kept g c).After-take_commit

pub returns-in-None-clause-kept : goal.returns-in-None-clause-kept
returns-in-None-clause-kept g c = log_kept g (goal.at.returns-in-None-clause-kept g c).After-take_commit

pub returns-in_err-next-clause-damaged : goal.returns-in_err-next-clause-damaged
returns-in_err-next-clause-damaged g c = λ tells damage is.
    let so_far = c.commits.invariant in
    let p = err_from_is_err_and c.from_residual-in_err-next.result c.from_residual-in_err-next.ensures.1 in
    let same : p.0 ≡ TableFault.Damaged damage = cc (sym p.1 ∙ is) in
    let told = c.in_err-next.ensures.damaged tells damage (ap Err (sym p.2 ∙ same)) in
    let state = c.commits.replay.state in
    let window = c.args.def.now.window in
    let file = ((g.W.Site.outside c.args.site.now).files (table_log c.args.number)).bytes in
    read_damage c.args.number c.commits.gate window state file damage (subst (λ (n : ℕ). HasRead c.commits.gate n state (begun file)) so_far.window (so_far.read tells)) (
      told.0 ∙ ap (λ (f : FileId). Damage.Log f.table (c.commits.gate + 1)) c.table_log-file.ensures,
      subst (LacksCommit c.commits.gate window state) (log_read g (goal.at.returns-in_err-next-clause-damaged g c).After-take_commit tells)
          (subst (λ (n : ℕ). LacksCommit c.commits.gate n state ((g.W.Site.outside c.commits.site).files c.table_log-file.result).bytes) so_far.window told.1),
    )

-- a commit was taken
took_one : (g : Over) (c : goal.In-Some g) → TakesCommit c.commits.gate c.commits.replay.window c.commits.replay.state c.in-Some.next c.take_commit.new.replay.state
took_one g c =
    let old = c.commits.replay in
    subst (λ (read : Option ℕ). IfSome read (λ next. TakesCommit c.commits.gate old.window old.state next c.take_commit.new.replay.state)) c.in-Some.is c.in_ok-next.ensures.forward

pub commits-smaller : goal.commits-smaller
commits-smaller g c =
    let old = c.commits.replay in
    let new = c.take_commit.new.replay in
    let took = took_one g c in
    let sound = took_sound c.in-Some.next old.window new.state (took_next c.commits.gate old.window old.state c.in-Some.next new.state c.commits.invariant.took took) in
    omega (arith, took_part c.commits.gate old.window old.state c.in-Some.next new.state took, sound.counted, sound.bounded)

pub commits-preserved : goal.commits-preserved
commits-preserved g c =
    let S = g.W.Site in
    let log = table_log c.args.number in
    let file = ((S.outside c.args.site.now).files log).bytes in
    let so_far = c.commits.invariant in
    let at = (goal.at.commits-preserved g c).After-take_commit in
    let old = c.commits.replay in
    let new = c.take_commit.new.replay in
    let next = c.in-Some.next in
    let same = c.take_commit.ensures.window in
    let took = took_one g c in
    record {
      window = same ∙ so_far.window;
      took = subst (λ (n : ℕ). HasTaken next n new.state) (sym same) (took_next c.commits.gate old.window old.state next new.state so_far.took took);
      read = λ tells.
          let read = subst (λ (read : Option ℕ). ReadsCommit c.commits.gate old.window old.state (begun file) read new.state) c.in-Some.is
          (subst (λ (bytes : List ℕ). ReadsCommit c.commits.gate old.window old.state bytes c.in_ok-next.field-0 new.state) (log_read g at tells) (c.in_ok-next.ensures.read tells)) in
          subst (λ (n : ℕ). HasRead next n new.state (begun file)) (sym same) (read_next c.commits.gate old.window old.state new.state (begun file) next (so_far.read tells) read);
      begun_now = λ tells. c.take_commit.ensures.keeps.files tells log ∙ so_far.begun_now tells;
      left = frames_left g at;
      keeps = changes_then_reads ⊥ _ ⊥ (S.outside c.args.site.now) (S.outside c.commits.site) (S.outside c.take_commit.new.site)
          (λ none. none) (λ none. absurd none) (λ failed. absurd (cc failed)) S.tells log so_far.keeps c.in_ok-next.ensures.keeps;
    }

-- the log was read to its end
module _ (g : Over) (c : In_ok-replayed_table-in-None g) where
  abbrev table : Table
  table = c.in_ok-replayed_table-in-None.field-0

  -- and nothing was taken at its end
  kept : c.take_commit.new.replay ≡ c.commits.replay
  kept = c.in_ok-next.ensures.end (subst IsNone (sym c.in-None.is) refl)

  state_is : held_state table ≡ c.commits.replay.state
  state_is = c.in_ok-replayed_table-in-None.ensures.state ∙ ap (λ (r : Seen). r.state) kept

  pub within : IsWithin table
  within =
      opened_within c.args.number c.commits.gate c.args.def.now c.commits.replay.state table c.in_ok-replayed_table-in-None.ensures.table c.in_ok-replayed_table-in-None.ensures.log state_is c.requires.columns
      (subst (λ (n : ℕ). HasTaken c.commits.gate n c.commits.replay.state) c.commits.invariant.window c.commits.invariant.took)

  pub opened : g.W.Site.tells → HasOpened c.args.number c.commits.gate c.args.def.now c.commits.replay.state (g.W.Site.outside c.args.site.now).files (g.W.Site.outside c.take_commit.new.site).files table
  opened tells =
      let S = g.W.Site in
      let log = table_log c.args.number in
      let file = ((S.outside c.args.site.now).files log).bytes in
      let so_far = c.commits.invariant in
      let old = c.commits.replay in
      let was_read : bytes_in (S.outside c.commits.site) c.table_log-file.result ≡ begun file =
      ap (λ (f : FileId). bytes_in (S.outside c.commits.site) f) c.table_log-file.ensures ∙ ap (λ (s : FileState). s.bytes) (so_far.begun_now tells) in
      let read = subst (λ (read : Option ℕ). ReadsCommit c.commits.gate old.window old.state (begun file) read c.take_commit.new.replay.state) c.in-None.is
      (subst (λ (bytes : List ℕ). ReadsCommit c.commits.gate old.window old.state bytes c.in_ok-next.field-0 c.take_commit.new.replay.state) was_read (c.in_ok-next.ensures.read tells)) in
      record {
        is = c.in_ok-replayed_table-in-None.ensures.table;
        log = c.in_ok-replayed_table-in-None.ensures.log;
        state_is = state_is;
        begun_now = c.take_commit.ensures.keeps.files tells log ∙ so_far.begun_now tells;
        others = λ f apart. c.take_commit.ensures.keeps.files tells f ∙ so_far.keeps.others tells f apart;
        read = subst (λ (n : ℕ). HasRead c.commits.gate n old.state (begun file)) so_far.window (so_far.read tells);
        ended = read.0;
      }

pub returns-in-None-clause-within : goal.returns-in-None-clause-within
returns-in-None-clause-within g c = (within g (goal.at.returns-in-None-clause-within g c).In_ok-replayed_table-in-None, c.in_ok-replayed_table-in-None.ensures.table)

pub returns-in-None-clause-placed : goal.returns-in-None-clause-placed
returns-in-None-clause-placed g c = λ tells.
    let S = g.W.Site in
    let is = opened g (goal.at.returns-in-None-clause-placed g c).In_ok-replayed_table-in-None tells in
    opened_placed c.args.number c.commits.gate c.args.def.now c.commits.replay.state (S.outside c.args.site.now).files (S.outside c.take_commit.new.site).files c.in_ok-replayed_table-in-None.field-0 is

pub returns-in-None-clause-commits : goal.returns-in-None-clause-commits
returns-in-None-clause-commits g c = λ tells.
    let before = (g.W.Site.outside c.args.site.now).files in
    let now = (g.W.Site.outside c.take_commit.new.site).files in
    let table = c.in_ok-replayed_table-in-None.field-0 in
    let is = opened g (goal.at.returns-in-None-clause-commits g c).In_ok-replayed_table-in-None tells in (
      is.read.commits,
      opened_commits c.args.number c.commits.gate c.args.def.now c.commits.replay.state before now table is,
      opened_frames c.args.number c.commits.gate c.args.def.now c.commits.replay.state before now table is,
    )

pub returns-in-None-clause-book : goal.returns-in-None-clause-book
returns-in-None-clause-book g c = λ tells book stood.
    let S = g.W.Site in
    let at = goal.at.returns-in-None-clause-book g c in
    record {
      done = opened_book c.args.number c.commits.gate c.args.def.now c.commits.replay.state (S.outside c.args.site.now).files (S.outside c.take_commit.new.site).files c.in_ok-replayed_table-in-None.field-0
          (opened g at.In_ok-replayed_table-in-None tells) book stood;
      during = left_book g at.After-take_commit tells book stood;
    }
