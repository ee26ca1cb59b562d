-- The rows of the parts of a run have the normal form that the one part has.
use Rattle.std.proofs.Common.{◌≡◌, ◌+◌, ◌-◌, List, length, drop, sym, ap, subst, ◌∙◌}
use Rattle.std.specs.List.{All}
use Rattle.std.proofs.lemmas.List.Elements.{All-drop, All-take}
use Rattle.chv_block.specs.Spellings.{AllAreOf}
use Rattle.chv_commit.specs.declared.part_row.PartRow.{PartRow}
use Rattle.chv_site.specs.Outside.{bytes_in}
use Rattle.chv_part.specs.Books.{normal_rows, part_rows}
use Rattle.chv_part.specs.Parts.{part_file}
use Rattle.chv_part.specs.Standing.{IsPart}
use Rattle.chv_part.proofs.BookRowLemmas.{rows_of_parts}
use Rattle.chv_part.proofs.MergingLemmas.{part_rows-run}
use Rattle.chv_table.specs.Damage.{ArePartsWhole}
use Rattle.chv_table.specs.Merging.{run_parts}
use Rattle.chv_table.specs.Tables.{held_form}
use Rattle.chv_table.proofs.table.Table.read_run.Goals as goal

pub returns-clause-rows : goal.returns-clause-rows
returns-clause-rows g c = λ tells book lawful parts.
    let table = c.args.self.now in
    let form = held_form table in
    let run = c.args.run in
    let layout : List PartRow = table.replay.state.layout in
    let row = c.row_of_run-row.result in
    let Holds : PartRow → Type 0 = IsPart (bytes_in (g.W.Site.outside c.args.site.now)) table.number form book in
    let layout_is : c.layout.result.now ≡ layout = c.layout.ensures in
    let here : All Holds (run_parts run layout) = All-take Holds (run.from + run.count - run.from) (drop run.from layout) (All-drop Holds run.from layout parts) in
    let same : c.in_ok-rows.rows ≡ part_rows form book row.lo row.hi =
    c.in_ok-rows.ensures.rows tells book lawful (subst (λ (l : List PartRow). All Holds (run_parts run l)) (sym layout_is) here)
    ∙ ap (λ (l : List PartRow). normal_rows form (rows_of_parts form book (run_parts run l))) layout_is
    ∙ part_rows-run layout run row c.row_of_run-row.ensures.row form book table.replay.state.entries c.requires.within.sound.runs in (
      c.row_of_run-row.ensures.rows ∙ c.len.ensures ∙ ap length same,
      record { kinds_fit = subst (AllAreOf form.kinds) same c.in_ok-rows.ensures.kinds; spelled = c.in_ok-encoded.ensures ∙ ap (part_file form.kinds) same },
    )

pub returns-clause-whole : goal.returns-clause-whole
returns-clause-whole g c = λ tells.
    let table = c.args.self.now in
    subst (λ (l : List PartRow). ArePartsWhole table.number (held_form table) (run_parts c.args.run l) (bytes_in (g.W.Site.outside c.args.site.now))) c.layout.ensures
    (c.in_ok-rows.ensures.whole tells)
