use Rattle.chv_agg.proofs.JoinOrder.{join-assoc, join-comm}
use Rattle.chv_agg.proofs.laws.law_join_order.Goals as goal

pub returns-clause-assoc : goal.returns-clause-assoc
returns-clause-assoc c = join-assoc

pub returns-clause-comm : goal.returns-clause-comm
returns-clause-comm c = join-comm
