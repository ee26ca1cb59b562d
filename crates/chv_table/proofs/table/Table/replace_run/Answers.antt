-- The run becomes one part in the book; until its commit is appended the table has its book from before.
use Rattle.std.proofs.Common.{rules, ◌≡◌, ◌≢◌, ◌++◌, ◌∷◌, [], ◌+◌, ◌<◌, ℕ, List, Some, length, refl, sym, ap, subst, ◌∙◌, arith}
use Rattle.std.proofs.lemmas.Option.{same_Some}
use Rattle.chv_site.specs.declared.file_id.FileId.{FileId}
use Rattle.chv_site.specs.During.{During}
use Rattle.chv_site.specs.FileIds.{part_of, table_log}
use Rattle.chv_site.specs.Files.{FileState}
use Rattle.chv_site.proofs.Moments.{goes_on}
use Rattle.chv_commit.specs.Commits.{IsCommit, commit_spelling}
use Rattle.chv_commit.specs.Replays.{IsSound, Merges, State, merge_of, taken}
use Rattle.chv_commit.specs.declared.commit.Commit.{Commit}
use Rattle.chv_commit.proofs.RunLemmas.{length-joined}
use Rattle.chv_gate.specs.GateLog.{frame_of}
use Rattle.chv_part.specs.Books.{AreColumns, Book, part_rows}
use Rattle.chv_part.specs.Merging.{merged}
use Rattle.chv_part.specs.Parts.{IsPartFile}
use Rattle.chv_part.proofs.MergingLemmas.{IsJoined-run}
use Rattle.chv_table.specs.Delivering.{DeliveryLeft}
use Rattle.chv_table.specs.Merging.{IsLeftBut, IsNoneOf, run_parts}
use Rattle.chv_table.specs.Tables.{HoldsBook, HoldsCommits, KeepsHeld, held_form, held_state}
use Rattle.chv_table.specs.Turning.{Becomes, noted}
use Rattle.chv_table.specs.declared.table.Table.{Table}
use Rattle.chv_table.proofs.MergeLemmas.{Noted, discards_kept, discards_left, frame_of-merge_of, is_merge, log_stays, merge_becomes, merge_fits, merge_sound, merge_taken, state_merged}
use Rattle.chv_table.proofs.TableLemmas.{HoldsBook-held, HoldsCommits-held, holds_commits_kept}
use Rattle.chv_table.proofs.table.Table.replace_run.Given.{Over}
use Rattle.chv_table.proofs.table.Table.replace_run.Goals.{After-write_and_append, After-discard_run, After-note_merge}
use Rattle.chv_table.proofs.table.Table.replace_run.Goals as goal

module _ (g : Over) (c : After-write_and_append g) where
  -- what its log says behind the merge
  abbrev pub state : State
  state = state_merged c.args.self.now c.args.run c.args.row c.requires.within c.requires.row c.requires.part

  pub is_commit : IsCommit (merge_of c.args.row)
  is_commit = search rules

  pub framed : c.frame_of_merge.result ≡ frame_of (commit_spelling (merge_of c.args.row))
  framed = c.frame_of_merge.ensures ∙ frame_of-merge_of c.args.row

  pub becomes : (book : Book) → HoldsBook c.args.self.now (g.W.Site.outside c.args.site.now).files book
      → c.args.row.rows ≡ length (part_rows (held_form c.args.self.now) book c.args.row.lo c.args.row.hi)
      → IsPartFile (held_form c.args.self.now) (part_rows (held_form c.args.self.now) book c.args.row.lo c.args.row.hi) c.args.encoded.now
      → Becomes c.args.self.now book (merged c.args.run book) (merge_of c.args.row) state c.args.encoded.now
  becomes book held counted file =
      merge_becomes c.args.self.now c.args.run c.args.row c.requires.within c.requires.row c.requires.part (g.W.Site.outside c.args.site.now).files book c.args.encoded.now is_commit held counted file

  -- the run is taken where it is noted
  pub still_taken : taken c.write_and_append.new.self.replay.window c.write_and_append.new.self.replay.state (merge_of c.args.row) ≡ Some state
  still_taken =
      subst (λ (t : Table). taken t.replay.window t.replay.state (merge_of c.args.row) ≡ Some state) (sym c.write_and_append.ensures.same)
      (merge_taken c.args.self.now c.args.run c.args.row c.requires.within c.requires.row c.requires.part)

module _ (g : Over) (c : After-discard_run g) where
  -- a crash leaves the book from before or behind the merge
  pub discarded : g.W.Site.tells → During (g.W.Site.outside c.write_and_append.new.site) (g.W.Site.outside c.discard_run.new.site)
      (IsLeftBut c.args.self.now.number (run_parts c.args.run c.args.self.now.replay.state.layout) (g.W.Site.outside c.write_and_append.new.site).files (g.W.Site.outside c.write_and_append.new.site).said)
  discarded tells =
      let S = g.W.Site in
      let mid = S.outside c.write_and_append.new.site in
      subst (λ (t : Table). During mid (S.outside c.discard_run.new.site) (IsLeftBut t.number (run_parts c.args.run t.replay.state.layout) mid.files mid.said)) c.write_and_append.ensures.same
      (c.discard_run.ensures.during tells)

  pub others_kept : g.W.Site.tells → (f : FileId) → IsNoneOf c.args.self.now.number (run_parts c.args.run c.args.self.now.replay.state.layout) f
      → (g.W.Site.outside c.discard_run.new.site).files f ≡ (g.W.Site.outside c.write_and_append.new.site).files f
  others_kept tells f none =
      c.discard_run.ensures.keeps.others tells f
      (subst (λ (t : Table). IsNoneOf t.number (run_parts c.args.run t.replay.state.layout) f) (sym c.write_and_append.ensures.same) none)

  -- files of other tables are as they were
  pub elsewhere : g.W.Site.tells → (f : FileId) → f.table ≢ c.args.self.now.number → (g.W.Site.outside c.write_and_append.new.site).files f ≡ (g.W.Site.outside c.args.site.now).files f
  elsewhere tells f other =
      c.write_and_append.ensures.keeps.others tells f (λ same. other (ap (λ (h : FileId). h.table) same)) (λ same. other (ap (λ (h : FileId). h.table) same))

pub note_merge-requires : goal.note_merge-requires
note_merge-requires g c =
    let at = (goal.at.note_merge-requires g c).After-write_and_append in
    record { fits = (state g at, still_taken g at) }

-- its table as it is at the end
module _ (g : Over) (c : After-note_merge g) (at : After-write_and_append g) (state_now : State) (taken_now : taken c.write_and_append.new.self.replay.window c.write_and_append.new.self.replay.state (merge_of c.args.row) ≡ Some state_now) where
  abbrev pub Merged : Table
  Merged = record c.write_and_append.new.self { replay = c.note_merge.new.replay }

  pub state_is : c.note_merge.new.replay.state ≡ state_now
  state_is = same_Some c.note_merge.new.replay.state state_now (sym c.note_merge.ensures.state ∙ taken_now)

  pub is_noted : KeepsHeld (noted state_now (record c.args.self.now { log = c.write_and_append.new.self.log })) Merged
  is_noted =
      let same = c.write_and_append.ensures.same in
      record {
        number = ap (λ (t : Table). t.number) same;
        form = ap (λ (n : ℕ). record (held_form c.write_and_append.new.self) { window = n }) c.note_merge.ensures.window ∙ ap held_form same;
        log = refl;
        state = state_is;
      }

pub returns-in_err-write_and_append-clause-turned : goal.returns-in_err-write_and_append-clause-turned
returns-in_err-write_and_append-clause-turned g c = λ tells book held counted file.
    let at = (goal.at.returns-in_err-write_and_append-clause-turned g c).After-write_and_append in
    record {
      done = search rules;
      during = (c.write_and_append.ensures.turned tells (merge_of c.args.row) (state g at) book (merged c.args.run book) held (becomes g at book held counted file) (framed g at)).during;
    }

-- the commit is appended, and then files that are not live are discarded
module _ (g : Over) (c : After-discard_run g) (right : IsCommit (merge_of c.args.row)) (frame_is : c.frame_of_merge.result ≡ frame_of (commit_spelling (merge_of c.args.row))) where
  abbrev behind_merge : State
  behind_merge = state_merged c.args.self.now c.args.run c.args.row c.requires.within c.requires.row c.requires.part

  becoming : (book : Book) → HoldsBook c.args.self.now (g.W.Site.outside c.args.site.now).files book
      → c.args.row.rows ≡ length (part_rows (held_form c.args.self.now) book c.args.row.lo c.args.row.hi)
      → IsPartFile (held_form c.args.self.now) (part_rows (held_form c.args.self.now) book c.args.row.lo c.args.row.hi) c.args.encoded.now
      → Becomes c.args.self.now book (merged c.args.run book) (merge_of c.args.row) behind_merge c.args.encoded.now
  becoming book held counted file =
      merge_becomes c.args.self.now c.args.run c.args.row c.requires.within c.requires.row c.requires.part (g.W.Site.outside c.args.site.now).files book c.args.encoded.now right held counted file

  abbrev pub Turned : Table
  Turned = Noted c.args.self.now c.args.run c.args.row c.requires.within c.requires.row c.requires.part c.write_and_append.new.self.log c.write_and_append.ensures.file

  -- the table holds the next book before the discards
  pub held_between : g.W.Site.tells → (book : Book) → HoldsBook c.args.self.now (g.W.Site.outside c.args.site.now).files book
      → c.args.row.rows ≡ length (part_rows (held_form c.args.self.now) book c.args.row.lo c.args.row.hi)
      → IsPartFile (held_form c.args.self.now) (part_rows (held_form c.args.self.now) book c.args.row.lo c.args.row.hi) c.args.encoded.now
      → HoldsBook Turned (g.W.Site.outside c.write_and_append.new.site).files (merged c.args.run book)
  held_between tells book held counted file =
      subst (λ (t : Table). HoldsBook (noted behind_merge t) (g.W.Site.outside c.write_and_append.new.site).files (merged c.args.run book)) c.write_and_append.ensures.same
      (c.in_ok-write_and_append.ensures.turned tells (merge_of c.args.row) behind_merge book (merged c.args.run book) held (becoming book held counted file) frame_is).done

  pub during_all : g.W.Site.tells → (book : Book) → HoldsBook c.args.self.now (g.W.Site.outside c.args.site.now).files book
      → c.args.row.rows ≡ length (part_rows (held_form c.args.self.now) book c.args.row.lo c.args.row.hi)
      → IsPartFile (held_form c.args.self.now) (part_rows (held_form c.args.self.now) book c.args.row.lo c.args.row.hi) c.args.encoded.now
      → During (g.W.Site.outside c.args.site.now) (g.W.Site.outside c.discard_run.new.site)
      (DeliveryLeft c.args.self.now book (merged c.args.run book) (g.W.Site.outside c.args.site.now).files (g.W.Site.outside c.args.site.now).said)
  during_all tells book held counted file =
      let S = g.W.Site in
      let table = c.args.self.now in
      let start = S.outside c.args.site.now in
      let mid = S.outside c.write_and_append.new.site in
      let next = merged c.args.run book in
      goes_on start mid (S.outside c.discard_run.new.site) (DeliveryLeft table book next start.files start.said)
      (IsLeftBut table.number (run_parts c.args.run table.replay.state.layout) mid.files mid.said)
      (c.write_and_append.ensures.turned tells (merge_of c.args.row) behind_merge book next held (becoming book held counted file) frame_is).during
      (discarded g c tells)
      (λ image text left. discards_left table c.args.run c.args.row c.requires.within c.requires.row c.requires.part c.write_and_append.new.self.log c.write_and_append.ensures.file
      mid.files start.said book next start.files (held_between tells book held counted file) (elsewhere g c tells) image text (left.0, left.1 ∙ c.write_and_append.ensures.keeps.said tells))

  -- and its log is none of the files that are discarded
  pub log_kept : g.W.Site.tells → (g.W.Site.outside c.discard_run.new.site).files c.write_and_append.new.self.log.file ≡ (g.W.Site.outside c.write_and_append.new.site).files c.write_and_append.new.self.log.file
  log_kept tells =
      others_kept g c tells c.write_and_append.new.self.log.file
      (log_stays c.args.self.now c.args.run c.args.row c.requires.within c.requires.row c.requires.part c.write_and_append.new.self.log c.write_and_append.ensures.file)

pub returns-in_err-discard_run-clause-turned : goal.returns-in_err-discard_run-clause-turned
returns-in_err-discard_run-clause-turned g c = λ tells book held counted file.
    let all = goal.at.returns-in_err-discard_run-clause-turned g c in
    record { done = search rules; during = during_all g all.After-discard_run (is_commit g all.After-write_and_append) (framed g all.After-write_and_append) tells book held counted file }

pub returns-clause-turned : goal.returns-clause-turned
returns-clause-turned g c = λ tells book held counted file.
    let S = g.W.Site in
    let all = goal.at.returns-clause-turned g c in
    let at = all.After-write_and_append in
    let behind = all.After-discard_run in
    let end = (S.outside c.discard_run.new.site).files in
    let next = merged c.args.run book in
    record {
      done = HoldsBook-held (Turned g behind (is_commit g at) (framed g at)) (Merged g all.After-note_merge at (state g at) (still_taken g at)) end next (is_noted g all.After-note_merge at (state g at) (still_taken g at))
          (discards_kept c.args.self.now c.args.run c.args.row c.requires.within c.requires.row c.requires.part c.write_and_append.new.self.log c.write_and_append.ensures.file
          (S.outside c.write_and_append.new.site).files end next (held_between g behind (is_commit g at) (framed g at) tells book held counted file) (others_kept g behind tells));
      during = during_all g behind (is_commit g at) (framed g at) tells book held counted file;
    }

pub returns-clause-commits : goal.returns-clause-commits
returns-clause-commits g c = λ tells commits held.
    let S = g.W.Site in
    let all = goal.at.returns-clause-commits g c in
    let at = all.After-write_and_append in
    let behind = all.After-discard_run in
    let mid = (S.outside c.write_and_append.new.site).files in
    let end = (S.outside c.discard_run.new.site).files in
    let more = commits ++ merge_of c.args.row ∷ [] in
    HoldsCommits-held (Turned g behind (is_commit g at) (framed g at)) (Merged g all.After-note_merge at (state g at) (still_taken g at)) end more (is_noted g all.After-note_merge at (state g at) (still_taken g at))
    (holds_commits_kept (Turned g behind (is_commit g at) (framed g at)) mid end more (log_kept g behind (is_commit g at) (framed g at) tells)
    (subst (λ (t : Table). HoldsCommits (noted (state g at) t) mid more) c.write_and_append.ensures.same
    (c.in_ok-write_and_append.ensures.commits tells (merge_of c.args.row) (state g at) commits held
    (merge_fits c.args.self.now c.args.run c.args.row c.requires.within c.requires.row c.requires.part (is_commit g at)) (framed g at))))

pub returns-clause-merges : goal.returns-clause-merges
returns-clause-merges g c =
    let all = goal.at.returns-clause-merges g c in
    let at = all.After-write_and_append in
    subst (Merges c.args.row (held_state c.args.self.now)) (sym (state_is g all.After-note_merge at (state g at) (still_taken g at)))
    (is_merge c.args.self.now c.args.run c.args.row c.requires.within c.requires.row c.requires.part)

pub returns-clause-ready : goal.returns-clause-ready
returns-clause-ready g c =
    let all = goal.at.returns-clause-ready g c in
    let at = all.After-write_and_append in
    let table = c.args.self.now in
    let within = c.requires.within in
    let same = c.write_and_append.ensures.same in
    let said = state_is g all.After-note_merge at (state g at) (still_taken g at) in
    let long : length c.frame_of_merge.result ≡ 46 = search rules in (
      record {
        log = c.write_and_append.ensures.file ∙ within.log ∙ ap (λ (t : Table). table_log t.number) (sym same);
        columns = subst (λ (t : Table). AreColumns t.kinds) (sym same) within.columns;
        sound = subst IsSound (sym said) (merge_sound table c.args.run c.args.row within c.requires.row c.requires.part);
        gate = omega (
          arith,
          ap (λ (s : State). length s.layout) said,
          ap (λ (s : State). s.entries) said,
          length-joined c.args.row table.replay.state.layout (state g at).layout (IsJoined-run table.replay.state.layout c.args.run c.args.row c.requires.row),
          c.in_ok-write_and_append.ensures.gate,
          long,
          within.gate,
        );
      },
      (λ tells. subst (λ (s : FileState). c.write_and_append.new.self.log.gate < length s.bytes) (sym (log_kept g all.After-discard_run (is_commit g at) (framed g at) tells)) (c.in_ok-write_and_append.ensures.placed tells)),
    )
