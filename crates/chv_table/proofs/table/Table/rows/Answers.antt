-- The rows of all parts have the normal form of all rows.
use Rattle.std.proofs.Common.{◌≡◌, ◌∙◌, ap, sym, subst, List, OnOk}
use Rattle.std.specs.List.{All}
use Rattle.std.proofs.lemmas.Result.{IfOk-weaker}
use Rattle.chv_commit.specs.declared.part_row.PartRow.{PartRow}
use Rattle.chv_site.specs.Outside.{bytes_in}
use Rattle.chv_part.specs.Books.{normal_rows}
use Rattle.chv_part.specs.Standing.{IsPart}
use Rattle.chv_part.proofs.BookRowLemmas.{rows_of_parts, rows_of_parts-normal}
use Rattle.chv_table.specs.Damage.{ArePartsWhole}
use Rattle.chv_table.specs.Tables.{held_form}
use Rattle.chv_table.proofs.table.Table.rows.Goals as goal

pub returns-clause-rows : goal.returns-clause-rows
returns-clause-rows g c = λ tells.
    let table = c.args.self.now in
    let form = held_form table in
    let layout_is : c.layout.result.now ≡ table.replay.state.layout = c.layout.ensures in
    IfOk-weaker c.normal_rows.result _ _
    (λ rows is book held.
    is book held.lawful (subst (All (IsPart (bytes_in (g.W.Site.outside c.args.site.now)) table.number form book)) (sym layout_is) held.parts)
    ∙ ap (λ (l : List PartRow). normal_rows form (rows_of_parts form book l)) layout_is
    ∙ rows_of_parts-normal form book table.replay.state.layout held.lawful.runs held.describes.layout)
    (c.normal_rows.ensures.rows tells)

pub returns-clause-whole : goal.returns-clause-whole
returns-clause-whole g c = λ tells.
    let table = c.args.self.now in
    subst (λ (l : List PartRow). OnOk c.normal_rows.result (ArePartsWhole table.number (held_form table) l (bytes_in (g.W.Site.outside c.args.site.now)))) c.layout.ensures
    (c.normal_rows.ensures.whole tells)
