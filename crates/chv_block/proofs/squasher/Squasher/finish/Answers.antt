use Rattle.std.proofs.Common.{arith}
use Rattle.chv_block.proofs.PieceLemmas.{IsFed-none, IsFed-rest}
use Rattle.chv_block.proofs.squasher.Squasher.finish.Goals as goal

pub returns-then-len-eq0-clause-finished : goal.returns-then-len-eq0-clause-finished
returns-then-len-eq0-clause-finished c = λ sizes fed given held. IsFed-none sizes fed given c.args.self held (omega (arith, c.len.ensures))

pub returns-clause-finished : goal.returns-clause-finished
returns-clause-finished c = λ sizes fed given held. IsFed-rest sizes fed given c.args.self held (omega (arith, c.len.ensures))
