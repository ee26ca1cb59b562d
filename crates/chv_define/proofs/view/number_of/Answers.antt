use Rattle.std.proofs.Common.{◌∙◌, ap, sym}
use Rattle.std.specs.Option.{ok_or}
use Rattle.chv_ast.specs.declared.refusal.Refusal.TheVariants.{UnknownTable}
use Rattle.chv_define.proofs.ViewTables.{number_in-place}
use Rattle.chv_define.proofs.view.number_of.Goals as goal

pub returns-clause-number : goal.returns-clause-number
returns-clause-number c =
    c.ok_or.ensures.value ∙ ap (λ o. ok_or o UnknownTable) (rw c.as_slice.ensures at c.table.ensures)
    ∙ sym (number_in-place c.args.schema.now.catalog c.args.name.now)
