use Rattle.std.proofs.Common.{rules}
use Rattle.chv_bytes.specs.declared.integer.IntKind.TheVariants.{I64}
use Rattle.chv_agg.proofs.PlainLemmas.{too_short}
use Rattle.chv_agg.proofs.sums.SignedSumAggregate.read.Goals as goal

pub returns-in-None-clause-none : goal.returns-in-None-clause-none
returns-in-None-clause-none c none sum rest fits few = too_short I64 sum rest c.args.bytes.now c.args.at (search rules)
