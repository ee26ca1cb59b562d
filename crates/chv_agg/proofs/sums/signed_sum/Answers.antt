use Rattle.std.proofs.Common.{rules}
use Rattle.std.proofs.lemmas.Int.{wraps}
use Rattle.chv_agg.proofs.sums.signed_sum.Goals as goal

pub returns : goal.returns
returns c = search (rules, wraps)
