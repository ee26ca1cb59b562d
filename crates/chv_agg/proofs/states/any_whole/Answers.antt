use Rattle.std.proofs.Common.{rules, ◌≡◌, ◌≢◌, ◌<◌, ◌^◌, IfOk, length, subst}
use Rattle.chv_agg.proofs.WholeLemmas.{fitting_unit, state_in-nothing, state_in-part, state_in-whole}
use Rattle.chv_agg.specs.StateBytes.{state_bytes}
use Rattle.chv_agg.specs.States.{FitsState}
use Rattle.chv_bytes.specs.Places.{StandsAt}
use Rattle.chv_agg.proofs.states.any_whole.Goals as goal

pub returns-then-behind-bytes-clause-whole : goal.returns-then-behind-bytes-clause-whole
returns-then-behind-bytes-clause-whole c =
    let fits : FitsState c.args.agg c.args.arg c.in-Some.state = search rules in
    let short : length c.args.bytes.now < 2 ^ 64 = search rules in
    let stands : StandsAt (state_bytes c.args.arg c.in-Some.state) c.args.bytes.now 0 c.in-Some.behind = search rules in
    let whole : c.in-Some.behind ≡ length c.args.bytes.now = search rules in
    state_in-whole c.args.agg c.args.arg c.args.bytes.now short c.in-Some.state c.in-Some.behind fits stands whole

pub returns-else-behind-bytes-clause-whole : goal.returns-else-behind-bytes-clause-whole
returns-else-behind-bytes-clause-whole c =
    let fits : FitsState c.args.agg c.args.arg c.in-Some.state = search rules in
    let short : length c.args.bytes.now < 2 ^ 64 = search rules in
    let stands : StandsAt (state_bytes c.args.arg c.in-Some.state) c.args.bytes.now 0 c.in-Some.behind = search rules in
    let part : c.in-Some.behind ≢ length c.args.bytes.now = search rules in
    subst (λ unit. IfOk c.any_unit.result (λ state. state ≡ unit))
    (state_in-part c.args.agg c.args.arg c.args.bytes.now short c.in-Some.state c.in-Some.behind fits stands part) c.any_unit.ensures

pub returns-else-behind-bytes-clause-fits : goal.returns-else-behind-bytes-clause-fits
returns-else-behind-bytes-clause-fits c = fitting_unit c.args.agg c.args.arg c.any_unit.result c.any_unit.ensures

pub returns-in-None-clause-whole : goal.returns-in-None-clause-whole
returns-in-None-clause-whole c =
    let short : length c.args.bytes.now < 2 ^ 64 = search rules in
    subst (λ unit. IfOk c.any_unit-in-None.result (λ state. state ≡ unit))
    (state_in-nothing c.args.agg c.args.arg c.args.bytes.now short (c.in_ok-state.ensures.none (search rules))) c.any_unit-in-None.ensures
