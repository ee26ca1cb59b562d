use Rattle.std.proofs.Common.{◌≡◌, None, Some, refl, ◌∙◌}
use Rattle.chv_query.specs.Bound.{run}
use Rattle.chv_query.specs.Shown.{kinds_shown, shown}
use Rattle.chv_query.proofs.ResultLemmas.{divides-first_division, kinds-kinds_shown, shown-shown_of, takes-all}
use Rattle.chv_select.proofs.answering.answer.Goals as goal

pub run_rows-requires : goal.run_rows-requires
run_rows-requires c =
    let query = c.args.prepared.now.query in
    record { takes = takes-all query c.requires.fit.0 c.requires.fit.1 c.args.rows c.requires.fit.2 }

pub returns-in-Err-ZeroDivisor : goal.returns-in-Err-ZeroDivisor
returns-in-Err-ZeroDivisor c = λ asked is. (
  refl,
  divides-first_division c.args.prepared.now.query asked is c.args.rows (Some c.in-Err-ZeroDivisor.field-0-0)
      (c.in-Err-ZeroDivisor.ensures.zero c.in-Err-ZeroDivisor.field-0-0 c.in-Err-ZeroDivisor.field-0-is),
)

pub returns : goal.returns
returns c = λ asked is.
    let query = c.args.prepared.now.query in
    let made = c.in-Ok.ensures.rows in
    let rows : c.sort-rows.result ≡ shown query.order query.limit (run query c.args.rows) = cc (c.sort-rows.ensures, c.order.ensures, c.limit.ensures, made.0) in
    let kinds : c.in_ok-kinds.kinds ≡ kinds_shown asked = rw (c.in_ok-kinds.ensures, c.columns.ensures) (kinds-kinds_shown query asked is) in
    (divides-first_division query asked is c.args.rows None made.1, rows ∙ shown-shown_of query asked is c.args.rows, kinds)
