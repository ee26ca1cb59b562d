use Rattle.std.proofs.Common.{◌≡◌, None, Some, is_none, ap, sym, ◌∙◌}
use Rattle.chv_query.specs.Bound.{first_division, made_by}
use Rattle.chv_query.proofs.RunLemmas.{position-first}
use Rattle.chv_query.proofs.run.run_each.Goals as goal

pub returns-in-Err-ZeroDivisor-clause-zero : goal.returns-in-Err-ZeroDivisor-clause-zero
returns-in-Err-ZeroDivisor-clause-zero c = λ row is.
    let query = c.args.query.now in
    let rows = c.args.rows.now in
    let divides : made_by query c.index-rows-i.result ≡ None =
    ap (made_by query) (sym c.as_slice.ensures) ∙ c.in-Err-ZeroDivisor.ensures.zero c.in-Err-ZeroDivisor.field-0-is in
    let first : first_division query rows ≡ Some c.loop-i.i =
    position-first (λ row. is_none (made_by query row)) rows c.loop-i.i c.index-rows-i.result c.loop-i-test.true c.index-rows-i.is c.loop-i.invariant.none (ap is_none divides) in
    let place : c.loop-i.i ≡ row = cc in
    first ∙ ap (λ place. Some place) place
