use Rattle.std.proofs.Common.{rules, sym}
use Rattle.chv_query.proofs.CallLemmas.{wanted-Call, wanted-other}
use Rattle.chv_query.proofs.calls.wanted.Goals as goal

pub returns-in-Some : goal.returns-in-Some
returns-in-Some c = rw (c.in-Call.is, wanted-Call) (search rules)

pub returns-in-None : goal.returns-in-None
returns-in-None c = rw (c.in-Call.is, wanted-Call) (search rules)

pub returns-in_default : goal.returns-in_default
returns-in_default c = sym (wanted-other c.args.e.now c.in_default.not-Call)
