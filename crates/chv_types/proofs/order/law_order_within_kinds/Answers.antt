use Rattle.chv_types.proofs.OrderLemmas.{value_cmp-whole, value_cmp-truth, value_cmp-text, value_cmp-state}
use Rattle.chv_types.proofs.order.law_order_within_kinds.Goals as goal

pub returns-clause-whole : goal.returns-clause-whole
returns-clause-whole c = value_cmp-whole

pub returns-clause-truth : goal.returns-clause-truth
returns-clause-truth c = value_cmp-truth

pub returns-clause-text : goal.returns-clause-text
returns-clause-text c = value_cmp-text

pub returns-clause-state : goal.returns-clause-state
returns-clause-state c = value_cmp-state
