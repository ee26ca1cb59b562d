use Rattle.chv_query.proofs.CellLemmas.{put_key-shown}
use Rattle.chv_query.proofs.cells.put_key.Goals as goal

pub returns-clause-put : goal.returns-clause-put
returns-clause-put c = λ known before are put.
    let shown = c.in_ok-shown.ensures known are in
    rw (c.in_ok-push.ensures.ok, c.in_ok-push-2.ensures.ok)
    (put_key-shown c.args.columns.now known c.args.cells.now before c.args.name c.args.expr.now c.in_ok-shown.shown shown.0 put shown.1 shown.2)
