use Rattle.std.proofs.Common.{[], ◌∷◌, length, length-append, ap, ◌∙◌, arith, rules}
use Rattle.std.specs.Option.{is_some}
use Rattle.chv_agg.specs.StateReading.{Gains}
use Rattle.chv_agg.proofs.SetLemmas.{none_longer, RiseAt-more}
use Rattle.chv_agg.proofs.reading.read_rising.Goals as goal

pub returns-in-None-clause-none : goal.returns-in-None-clause-none
returns-in-None-clause-none c none =
    none_longer c.args.arg c.loop.values c.args.bytes.now c.args.at c.loop.place c.args.count c.loop.invariant.rise
    (omega (arith, c.loop.invariant.count, c.loop-test.true, c.loop.auto.counter-end))
    (c.in_ok-behind.ensures.none (ap is_some c.in-None.is))

pub loop-preserved : goal.loop-preserved
loop-preserved c =
    let gains : Gains c.args.arg c.loop.values c.read_next.new.values c.args.bytes.now c.loop.place c.in-Some.behind = search rules in
    record {
      rise = RiseAt-more c.args.arg c.loop.values c.read_next.new.values c.args.bytes.now c.args.at c.loop.place c.in-Some.behind c.loop.invariant.rise gains;
      count = omega (arith, ap length gains.gained ∙ length-append c.loop.values (gains.value ∷ []), c.loop.invariant.count);
    }
