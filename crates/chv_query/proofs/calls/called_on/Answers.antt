use Rattle.std.proofs.Common.{◌≡◌, Some}
use Rattle.chv_query.specs.Calls.{over_of}
use Rattle.chv_query.proofs.CallLemmas.{called_on-bound}
use Rattle.chv_query.proofs.calls.called_on.Goals as goal

pub returns-in-Some : goal.returns-in-Some
returns-in-Some c = λ columns term means.
    let over : over_of c.args.agg c.args.form c.args.arg.kind ≡ Some c.in-Some.plain = cc (c.over_of.ensures, c.kind.ensures, c.in-Some.is) in
    called_on-bound columns c.args.agg c.args.form c.args.arg term c.in-Some.plain over means
