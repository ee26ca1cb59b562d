use Rattle.std.proofs.Common.{rules}
use Rattle.chv_agg.proofs.PlainLemmas.{none_whole}
use Rattle.chv_agg.proofs.plain.seen_whole.Goals as goal

pub returns-in_err-n-clause-none : goal.returns-in_err-n-clause-none
returns-in_err-n-clause-none c none =
    none_whole c.args.scalar c.args.integers c.args.bytes.now c.args.at c.requires.integers (search rules)
