use Rattle.std.proofs.Common.{rules}
use Rattle.chv_agg.proofs.ReadingLemmas.{none_number}
use Rattle.chv_agg.proofs.reading.read_number.Goals as goal

pub returns-in_err-number-clause-none : goal.returns-in_err-number-clause-none
returns-in_err-number-clause-none c none = none_number c.args.bytes.now c.args.at (search rules)
