use Rattle.chv_expr.proofs.call.apply_three.Goals as goal

pub returns-in-If : goal.returns-in-If
returns-in-If c = rw c.in-If.is c.bind_if.ensures
