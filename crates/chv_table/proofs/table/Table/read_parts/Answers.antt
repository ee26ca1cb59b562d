-- The first part that is damaged ends the reading.
use Rattle.std.proofs.Common.{◌≡◌, ◌∙◌, ◌<◌, ◌^◌, ◌≤◌, List, ℕ, length, Ok, Err, refl, sym, ap, subst, arith}
use Rattle.std.proofs.lemmas.List.{take_all}
use Rattle.std.proofs.lemmas.Result.{err_from_is_err_and}
use Rattle.chv_site.specs.FileIds.{part_of}
use Rattle.chv_site.specs.Files.{FileState}
use Rattle.chv_site.specs.Outside.{bytes_in}
use Rattle.chv_commit.specs.declared.part_row.PartRow.{PartRow}
use Rattle.chv_part.specs.Parts.{IsPartFile}
use Rattle.chv_part.proofs.BookRowLemmas.{rows_of_parts}
use Rattle.chv_table.specs.Damage.{ArePartsWhole, IsDamageOfPart}
use Rattle.chv_table.specs.Tables.{held_form}
use Rattle.chv_table.specs.declared.fault.TableFault.{TableFault}
use Rattle.chv_gate.proofs.EffectLemmas.{reads_on}
use Rattle.chv_table.proofs.RowsLemmas.{AllAreOf-append, row_at, rows_more, whole_more, first_damaged}
use Rattle.chv_table.proofs.table.Table.read_parts.Goals as goal

pub returns-in_err-read-clause-damaged : goal.returns-in_err-read-clause-damaged
returns-in_err-read-clause-damaged g c = λ tells damage is.
    let S = g.W.Site in
    let table = c.args.self.now in
    let form = held_form table in
    let layout : List PartRow = c.args.parts.now in
    let place : ℕ = c.loop-row.row-index in
    let p = err_from_is_err_and c.from_residual.result c.from_residual.ensures.1 in
    let same : p.0 ≡ TableFault.Damaged damage = cc (sym p.1 ∙ is) in
    let is_of : IsDamageOfPart table.number form (row_at layout place).part (bytes_in (S.outside c.loop-row.site) (part_of table.number (row_at layout place).part)) damage =
    c.in_err-read.ensures.damaged tells damage (ap Err (sym p.2 ∙ same)) form refl in
    first_damaged table.number form layout place (bytes_in (S.outside c.args.site.now)) damage (omega arith) (c.loop-row.invariant.whole tells)
    (subst (λ (s : FileState). IsDamageOfPart table.number form (row_at layout place).part s.bytes damage) (c.loop-row.invariant.keeps.files tells (part_of table.number (row_at layout place).part)) is_of)

pub loop-row-preserved : goal.loop-row-preserved
loop-row-preserved g c =
    let S = g.W.Site in
    let table = c.args.self.now in
    let form = held_form table in
    let layout : List PartRow = c.args.parts.now in
    let place : ℕ = c.loop-row.row-index in
    let before = S.outside c.args.site.now in
    let part = part_of table.number (row_at layout place).part in
    let within : place < length layout = omega arith in
    let read_is : S.tells → IsPartFile form c.in_ok-read.read (bytes_in before part) = λ tells.
    subst (λ (s : FileState). IsPartFile form c.in_ok-read.read s.bytes) (c.loop-row.invariant.keeps.files tells part) (c.in_ok-read.ensures.read tells form refl) in
    let short : length c.in_ok-read.read < 2 ^ 64 = omega (arith, ap length c.into_vec.ensures, c.into_vec.result.ok, c.into_vec.result.small) in
    record {
      rows = λ tells book lawful parts.
          rw (c.in_ok-append.ensures.items, c.into_vec.ensures)
          (rows_more (bytes_in before) table.number form book layout place c.loop-row.rows.items c.in_ok-read.read lawful parts within short (read_is tells) (c.loop-row.invariant.rows tells book lawful parts));
      whole = λ tells. whole_more table.number form layout place (bytes_in before) within (c.loop-row.invariant.whole tells) (c.in_ok-read.read, read_is tells);
      kinds = rw (c.in_ok-append.ensures.items, c.into_vec.ensures) (AllAreOf-append table.kinds c.loop-row.rows.items c.in_ok-read.read c.loop-row.invariant.kinds c.in_ok-read.ensures.kinds);
      keeps = reads_on ⊥ (Ok c.in_ok-read.read ≡ Err TableFault.Failed) ⊥ before (S.outside c.loop-row.site) (S.outside c.read_live_part.new.site)
          (λ none. none) (λ none. absurd none) (λ failed. absurd (cc failed)) S.tells c.loop-row.invariant.keeps c.in_ok-read.ensures.keeps;
    }

pub returns-clause-whole : goal.returns-clause-whole
returns-clause-whole g c = λ tells.
    let table = c.args.self.now in
    let layout : List PartRow = c.args.parts.now in
    subst (λ (l : List PartRow). ArePartsWhole table.number (held_form table) l (bytes_in (g.W.Site.outside c.args.site.now))) (take_all c.loop-row.row-index layout (omega arith)) (c.loop-row.invariant.whole tells)

pub returns-clause-rows : goal.returns-clause-rows
returns-clause-rows g c = λ tells book lawful parts.
    let layout : List PartRow = c.args.parts.now in
    c.loop-row.invariant.rows tells book lawful parts ∙ ap (rows_of_parts (held_form c.args.self.now) book) (take_all c.loop-row.row-index layout (omega arith))
