-- What ends the reading of parts ends that of their rows.
use Rattle.std.proofs.Common.{◌≡◌, ◌∙◌, Err, sym, ap}
use Rattle.std.proofs.lemmas.Result.{err_from_is_err_and}
use Rattle.chv_part.specs.Books.{normal_rows}
use Rattle.chv_table.specs.Tables.{held_form}
use Rattle.chv_table.specs.declared.fault.TableFault.{TableFault}
use Rattle.chv_table.proofs.table.Table.normal_rows.Goals as goal

pub returns-in_err-rows-clause-damaged : goal.returns-in_err-rows-clause-damaged
returns-in_err-rows-clause-damaged g c = λ tells damage is.
    let p = err_from_is_err_and c.from_residual.result c.from_residual.ensures.1 in
    let same : p.0 ≡ TableFault.Damaged damage = cc (sym p.1 ∙ is) in
    c.in_err-rows.ensures.damaged tells damage (ap Err (sym p.2 ∙ same))

pub returns-clause-rows : goal.returns-clause-rows
returns-clause-rows g c = λ tells book lawful parts.
    c.in_ok-normal_by.ensures.rows ∙ ap (normal_rows (held_form c.args.self.now)) (c.from_vec.ensures ∙ c.in_ok-rows.ensures.rows tells book lawful parts)
