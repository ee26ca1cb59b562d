use Rattle.std.proofs.Common.{◌∙◌}
use Rattle.chv_define.proofs.KindLemmas.{scalar_of-found}
use Rattle.chv_define.proofs.kinds.scalar_of.Goals as goal

pub returns : goal.returns
returns c =
    c.ok_or.ensures.value
    ∙ rw c.as_slice.ensures at (scalar_of-found c.as_slice.result.now c.scalar_named.result c.scalar_named.ensures.found c.scalar_named.ensures.none)
