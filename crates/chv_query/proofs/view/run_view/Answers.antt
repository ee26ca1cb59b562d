use Rattle.std.proofs.Common.{◌≡◌, ◌∙◌, map, sym, ap, arith}
use Rattle.std.proofs.lemmas.Result.{err_from_is_err_and}
use Rattle.chv_query.specs.Bound.{run}
use Rattle.chv_query.specs.ViewQueries.{filled_by}
use Rattle.chv_query.proofs.ViewQueryLemmas.{sound, unsound, viewed-some}
use Rattle.chv_query.proofs.view.run_view.Goals as goal

pub returns-in_err-made-clause-zero : goal.returns-in_err-made-clause-zero
returns-in_err-made-clause-zero c =
    let p = err_from_is_err_and c.from_residual.result c.from_residual.ensures.1 in
    rw p.1 (λ row query columns is view_is.
    unsound columns c.args.view.now query view_is c.args.block.now row (c.in_err-made.ensures.zero row (sym p.2 ∙ is)))

pub returns-clause-rows : goal.returns-clause-rows
returns-clause-rows c = λ query columns is.
    let view = c.args.view.now in
    let made = c.in_ok-made.ensures.rows in
    let filled : c.in_ok-fill_rows.field-0 ≡ map (filled_by view.fillings) (run view.query c.args.block.now) =
    c.in_ok-fill_rows.ensures ∙ ap (λ fillings. map (filled_by fillings) c.in_ok-made.made) c.as_slice.ensures ∙ ap (map (filled_by view.fillings)) made.0 in
    (viewed-some columns view query is c.args.block.now c.in_ok-fill_rows.field-0 (omega (arith, c.len.ensures, c.if-len-eq0.false)) filled, sound columns view query is c.args.block.now made.1)
