use Rattle.chv_expr.proofs.call.apply_one.Goals as goal

pub returns-in-Length : goal.returns-in-Length
returns-in-Length c = rw c.in-Length.is c.bind_length.ensures

pub returns-in-ToUInt64 : goal.returns-in-ToUInt64
returns-in-ToUInt64 c = rw c.in-ToUInt64.is c.bind_widen.ensures

pub returns-in-ToInt64 : goal.returns-in-ToInt64
returns-in-ToInt64 c = rw c.in-ToInt64.is c.bind_widen-in-ToInt64.ensures
