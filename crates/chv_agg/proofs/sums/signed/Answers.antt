use Rattle.std.proofs.Common.{arith}
use Rattle.std.proofs.lemmas.Int.{ints}
use Rattle.std.specs.Int.{int_wrap}
use Rattle.chv_agg.proofs.sums.signed.Goals as goal

pub returns : goal.returns
unfolding int_wrap
returns c = grind (arith, ints, c.rem_euclid.ensures.value, c.cast_signed.ensures)
