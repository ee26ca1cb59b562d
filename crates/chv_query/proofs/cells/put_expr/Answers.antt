use Rattle.std.proofs.Common.{◌≡◌, None, Some, length, sym, rules}
use Rattle.chv_query.specs.Bound.{AreCells}
use Rattle.chv_query.specs.Calls.{Wanted, wanted}
use Rattle.chv_query.specs.Shapes.{with_call}
use Rattle.chv_query.proofs.CellLemmas.{put_wanted-call}
use Rattle.chv_query.proofs.cells.put_expr.Goals as goal

pub returns-in_ok-push_call-in-Some-clause-put : goal.returns-in_ok-push_call-in-Some-clause-put
returns-in_ok-push_call-in-Some-clause-put c = λ known before are cells.
    let columns = c.args.columns.now in
    let keys = c.args.keys.now in
    let call = c.in_ok-call-in-Some.ensures in
    let want : Wanted = record { agg = c.in-Some.agg; form = c.in-Some.form; args = c.in-Some.args.now } in
    let is : wanted c.args.expr.now ≡ Some want = sym (rw c.in-Some.is at c.wanted.ensures) in
    let put : AreCells columns c.push_call.new.cells (with_call c.args.name c.len.result before call.0) = c.in_ok-push_call-in-Some.ensures columns before call.0 cells call.2 in
    let count : c.len.result ≡ length keys.bounds = search rules in
    put_wanted-call columns keys known c.push_call.new.cells before c.args.name c.args.expr.now want call.0 are is call.1 (rw count at put)

pub returns-in-None-clause-refused : goal.returns-in-None-clause-refused
returns-in-None-clause-refused c =
    let none : wanted c.args.expr.now ≡ None = sym (rw c.in-None.is at c.wanted.ensures) in
    rw none c.put_key.ensures.refused
