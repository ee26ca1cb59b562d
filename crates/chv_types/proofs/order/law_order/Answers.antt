use Rattle.chv_types.specs.OrderLaws.{value_cmp_total, value_cmp-IsAntisymmetric}
use Rattle.chv_types.proofs.order.law_order.Goals as goal

pub returns-clause-total : goal.returns-clause-total
returns-clause-total c = value_cmp_total

pub returns-clause-identical : goal.returns-clause-identical
returns-clause-identical c = value_cmp-IsAntisymmetric
