use Rattle.std.proofs.Common.{◌≡◌, arith, rules, true, refl}
use Rattle.chv_agg.specs.Plain.{scalar_spelling}
use Rattle.chv_agg.specs.StateReading.{is_above}
use Rattle.chv_bytes.specs.Places.{StandsAt}
use Rattle.chv_types.specs.Fits.{IsOfScalar}
use Rattle.chv_types.specs.Values.{seen_value}
use Rattle.chv_types.specs.declared.value.Value.{Value}
use Rattle.chv_agg.proofs.EndLemmas.{HasSeen-more, none_more}
use Rattle.chv_agg.proofs.ending.rising_end.Goals as goal

pub returns-in_err-value-clause-none : goal.returns-in_err-value-clause-none
returns-in_err-value-clause-none c none =
    none_more c.args.arg c.args.bytes.now c.args.at c.loop.place c.loop.counter c.args.count c.loop.last c.loop.invariant
    (omega (arith, c.loop-test.true, c.loop.auto.counter-end)) (c.in_err-value.ensures.none refl)

pub loop-preserved : goal.loop-preserved
loop-preserved c =
    let value : Value = seen_value c.in_ok-value.value in
    let of : IsOfScalar c.args.arg value = search rules in
    let above : is_above c.loop.last value ≡ true = search rules in
    let stands : StandsAt (scalar_spelling c.args.arg value) c.args.bytes.now c.loop.place c.in_ok-value.behind = search rules in
    HasSeen-more c.args.arg c.args.bytes.now c.args.at c.loop.place c.in_ok-value.behind c.loop.counter c.loop.last c.in_ok-value.value c.loop.invariant of above stands
