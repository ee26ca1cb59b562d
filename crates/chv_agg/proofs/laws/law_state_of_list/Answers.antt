use Rattle.chv_agg.proofs.JoinOrder.{join-assoc, join-comm}
use Rattle.chv_agg.proofs.StateLaws.{value_of-state_of}
use Rattle.chv_agg.specs.FoldLaws.{state_from-permuted}
use Rattle.chv_agg.specs.States.{join, one_like, unit_of}
use Rattle.chv_agg.proofs.laws.law_state_of_list.Goals as goal

pub returns-clause-value : goal.returns-clause-value
returns-clause-value c function arg values of = value_of-state_of function arg values

pub returns-clause-bag : goal.returns-clause-bag
returns-clause-bag c function arg = state_from-permuted join join-assoc join-comm (unit_of function arg) (one_like (unit_of function arg))
