use Rattle.std.proofs.Common.{◌≡◌, true, Some, refl}
use Rattle.chv_query.specs.Outputs.{is_truth}
use Rattle.chv_query.proofs.output.bind_filter.Goals as goal

pub returns : goal.returns
returns c =
    let bound = c.in_ok-bound.ensures in
    let truth : is_truth bound.0.kind ≡ true = cc (bound.2.kind, c.kind.ensures, c.is_truth.ensures, c.if-not-is_truth.false) in
    (Some bound.0, rw (c.in-Some.is, bound.1, truth) refl, bound.2)
