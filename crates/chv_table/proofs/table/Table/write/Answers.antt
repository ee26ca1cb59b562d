-- A written block is one entry more in the book; until then the table has its book from before.
use Rattle.std.proofs.Common.{rules, ◌≡◌, ◌+◌, ◌*◌, ◌∷◌, [], ◌++◌, ℕ, length, refl, ap, subst, sym, ◌∙◌, arith, length-append}
use Rattle.chv_commit.specs.Commits.{commit_spelling}
use Rattle.chv_commit.specs.Replays.{State, IsSound, added}
use Rattle.chv_commit.specs.declared.commit.Commit.{Commit}
use Rattle.chv_commit.specs.declared.part_row.PartRow.{PartRow}
use Rattle.chv_site.specs.FileIds.{table_log}
use Rattle.chv_gate.specs.GateLog.{frame_of}
use Rattle.chv_part.specs.Books.{AreColumns, Book, Entry, appended}
use Rattle.chv_table.specs.Delivering.{Brings, state_after}
use Rattle.chv_table.specs.Tables.{HoldsBook, KeepsHeld, IsWithin, IsPlaced, held_form}
use Rattle.chv_table.specs.Turning.{Becomes, noted}
use Rattle.chv_table.specs.declared.table.Delivered.TheVariants.{Written}
use Rattle.chv_table.specs.declared.table.Table.{Table}
use Rattle.chv_table.proofs.EntryLemmas.{commit_of, frame_of-commit_of}
use Rattle.chv_table.proofs.DeliveryLemmas.{IsWritten, recent_lacks, written_fits, written_sound, written_becomes}
use Rattle.chv_table.proofs.TableLemmas.{HoldsCommits-held, HoldsBook-held}
use Rattle.chv_table.proofs.table.Table.write.Given.{Over}
use Rattle.chv_table.proofs.table.Table.write.Goals.{After-write_and_append, After-take_one}
use Rattle.chv_table.proofs.table.Table.write.Goals as goal

-- what is known once its part was written and its commit appended
module _ (g : Over) (c : After-write_and_append g) where
  abbrev pub table : Table
  table = c.args.self.now

  abbrev pub commit : Commit
  commit = commit_of table.replay.state.next_part c.args.rows c.args.id

  abbrev pub state : State
  state = state_after Written table c.args.rows c.args.id

  pub is_written : IsWritten table c.args.id c.args.rows
  is_written = record {
    within = c.requires.takes.within;
    room = c.requires.takes.room;
    words = (c.well_formed.1.1.0.1.1.0.1, c.well_formed.1.1.0.1.1.1.0.1);
    few = c.ranges.rows.fits;
  }

  -- what is appended is the frame of its commit
  pub framed : c.frame_of_one-frame.result ≡ frame_of (commit_spelling commit)
  framed =
      c.frame_of_one-frame.ensures ∙ frame_of-commit_of c.next_part.result c.args.rows c.args.id
      ∙ ap (λ (part : ℕ). frame_of (commit_spelling (commit_of part c.args.rows c.args.id))) c.next_part.ensures.next

  pub becomes : (book : Book) (entry : Entry) → Brings table c.args.id c.args.rows c.args.encoded.now entry → HoldsBook table (g.W.Site.outside c.args.site.now).files book
      → Becomes table book (appended entry book) commit state c.args.encoded.now
  becomes book entry brings held =
      written_becomes table c.args.id c.args.rows is_written (g.W.Site.outside c.args.site.now).files book entry c.args.encoded.now held brings
      (recent_lacks table (g.W.Site.outside c.args.site.now).files book entry c.args.id held brings.id_is c.requires.new)

-- its table is as it was but for its log and what that says
module _ (g : Over) (c : After-take_one g) where
  abbrev pub written : Table
  written = record c.write_and_append.new.self { replay = c.take_one.new.self }

  pub state_is : c.take_one.new.self.state ≡ state_after Written c.args.self.now c.args.rows c.args.id
  state_is =
      c.take_one.ensures.state
      ∙ ap (λ (t : Table). added t.replay.window t.replay.state.next_part c.args.rows (c.args.id ∷ []) t.replay.state) c.write_and_append.ensures.same

  pub is_noted : KeepsHeld (noted (state_after Written c.args.self.now c.args.rows c.args.id) c.write_and_append.new.self) written
  is_noted = record {
    number = refl;
    form = ap (λ (n : ℕ). record (held_form c.write_and_append.new.self) { window = n }) c.take_one.ensures.window;
    log = refl;
    state = state_is;
  }

pub returns-in_err-write_and_append-clause-turned : goal.returns-in_err-write_and_append-clause-turned
returns-in_err-write_and_append-clause-turned g c = λ tells book entry brings held.
    let at = (goal.at.returns-in_err-write_and_append-clause-turned g c).After-write_and_append in
    record {
      done = search rules;
      during = (c.write_and_append.ensures.turned tells (commit g at) (state g at) book (appended entry book) held (becomes g at book entry brings held) (framed g at)).during;
    }

pub returns-clause-turned : goal.returns-clause-turned
returns-clause-turned g c = λ tells book entry brings held.
    let all = goal.at.returns-clause-turned g c in
    let at = all.After-write_and_append in
    let turned = becomes g at book entry brings held in
    record {
      done = HoldsBook-held (noted (state g at) c.write_and_append.new.self) (written g all.After-take_one) (g.W.Site.outside c.write_and_append.new.site).files (appended entry book) (is_noted g all.After-take_one)
          (c.in_ok-write_and_append.ensures.turned tells (commit g at) (state g at) book (appended entry book) held turned (framed g at)).done;
      during = (c.write_and_append.ensures.turned tells (commit g at) (state g at) book (appended entry book) held turned (framed g at)).during;
    }

pub returns-clause-commits : goal.returns-clause-commits
returns-clause-commits g c = λ tells commits held.
    let all = goal.at.returns-clause-commits g c in
    let at = all.After-write_and_append in
    HoldsCommits-held (noted (state g at) c.write_and_append.new.self) (written g all.After-take_one) (g.W.Site.outside c.write_and_append.new.site).files (commits ++ commit g at ∷ []) (is_noted g all.After-take_one)
    (c.in_ok-write_and_append.ensures.commits tells (commit g at) (state g at) commits held (written_fits c.args.self.now c.args.id c.args.rows (is_written g at)) (framed g at))

pub returns-clause-ready : goal.returns-clause-ready
returns-clause-ready g c =
    let all = goal.at.returns-clause-ready g c in
    let table = c.args.self.now in
    let now = c.write_and_append.new.self in
    let within = c.requires.takes.within in
    let same = c.write_and_append.ensures.same in
    let said = state_is g all.After-take_one in
    let layout = table.replay.state.layout in
    let row : PartRow = record { lo = table.replay.state.entries + 1; hi = table.replay.state.entries + 1; level = 0; part = table.replay.state.next_part; rows = c.args.rows } in
    let long : length c.frame_of_one-frame.result ≡ 42 = search rules in (
      record {
        log = c.write_and_append.ensures.file ∙ within.log ∙ ap (λ (t : Table). table_log t.number) (sym same);
        columns = subst (λ (t : Table). AreColumns t.kinds) (sym same) within.columns;
        sound = subst IsSound (sym said) (written_sound table c.args.id c.args.rows (is_written g all.After-write_and_append));
        gate = omega (
          arith,
          ap (λ (s : State). length s.layout) said,
          ap (λ (s : State). s.entries) said,
          length-append layout (row ∷ []),
          c.in_ok-write_and_append.ensures.gate,
          long,
          within.gate,
        );
      },
      c.in_ok-write_and_append.ensures.placed,
    )
