use Rattle.std.proofs.Common.{◌≡◌, false}
use Rattle.chv_group.specs.Groups.{takes_states}
use Rattle.chv_query.proofs.CallLemmas.{called_alone-bound}
use Rattle.chv_query.proofs.calls.count_rows.Goals as goal

pub returns : goal.returns
returns c = λ columns.
    let values : takes_states c.args.form ≡ false = cc (c.takes_states.ensures, c.if-takes_states.false) in
    called_alone-bound columns c.args.form c.in_ok-arg.arg values c.in_ok-arg.ensures.kind c.in_ok-arg.ensures.tree
