use Rattle.chv_types.specs.Order.{value_cmp}
use Rattle.chv_types.specs.OrderLaws.{value_cmp_total, value_cmp-IsAntisymmetric}
use Rattle.chv_types.proofs.MemberLemmas.{members-Rises, members-HaveSame, members-unique, members-permuted, members-append}
use Rattle.chv_types.proofs.order.law_members.Goals as goal

pub returns : goal.returns
returns c = record {
  rises = members-Rises value_cmp value_cmp_total value_cmp-IsAntisymmetric;
  same = members-HaveSame value_cmp value_cmp_total value_cmp-IsAntisymmetric;
  unique = members-unique value_cmp value_cmp_total value_cmp-IsAntisymmetric;
  bag = members-permuted value_cmp value_cmp_total value_cmp-IsAntisymmetric;
  join = members-append value_cmp value_cmp_total value_cmp-IsAntisymmetric;
}
