use Rattle.std.proofs.Common.{refl}
use Rattle.chv_group.specs.Groups.{grouped}
use Rattle.chv_group.specs.Takings.{input_keys}
use Rattle.chv_types.proofs.MemberLemmas.{members-HaveSame, members-Rises}
use Rattle.chv_types.specs.Members.{members}
use Rattle.chv_types.specs.Order.{row_cmp}
use Rattle.chv_types.specs.OrderLaws.{row_cmp_total, row_cmp-IsAntisymmetric}
use Rattle.chv_group.proofs.laws.law_groups.Goals as goal

pub returns : goal.returns
unfolding grouped
returns c calls inputs = (
  members row_cmp (input_keys inputs),
  members-Rises row_cmp row_cmp_total row_cmp-IsAntisymmetric (input_keys inputs),
  members-HaveSame row_cmp row_cmp_total row_cmp-IsAntisymmetric (input_keys inputs),
  refl,
)
