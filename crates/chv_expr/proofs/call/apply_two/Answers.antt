use Rattle.chv_expr.proofs.call.apply_two.Goals as goal

pub returns-in-Modulo : goal.returns-in-Modulo
returns-in-Modulo c = rw c.in-Modulo.is c.bind_binary.ensures

pub returns-in-IntDiv : goal.returns-in-IntDiv
returns-in-IntDiv c = rw c.in-IntDiv.is c.bind_quotient.ensures
