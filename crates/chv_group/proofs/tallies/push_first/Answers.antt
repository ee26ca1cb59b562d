use Rattle.std.proofs.Common.{◌∙◌, ◌++◌, List, ap, append-nil, length, map, subst, sym, take, take_all}
use Rattle.std.proofs.lemmas.List.{length-map}
use Rattle.chv_agg.specs.declared.any_agg.AnyAgg.{AnyAgg}
use Rattle.chv_group.proofs.TallyLemmas.{TakesArguments-length, first-end, first-over-step, first-step, takes-at}
use Rattle.chv_group.specs.Tallies.{AreOver, fed, units}
use Rattle.chv_group.specs.declared.call.AggCall.{AggCall}
use Rattle.chv_types.specs.Values.{seen_value}
use Rattle.chv_group.proofs.tallies.push_first.Goals as goal

pub loop-place-init : goal.loop-place-init
loop-place-init c = record {
  so_far = sym (append-nil c.args.tallies.now.items);
  over = tt;
  args = sym (length-map c.args.args.now seen_value) ∙ TakesArguments-length _ _ c.requires.takes;
}

pub first_of-requires : goal.first_of-requires
first_of-requires c = record {
  takes = takes-at c.args.calls.now c.args.args.now c.loop-place.place _ _ c.requires.takes c.loop-place-test.true c.loop-place.invariant.args;
}

pub loop-place-preserved : goal.loop-place-preserved
loop-place-preserved c = record {
  so_far =
      first-step c.args.calls.now c.args.args.now c.loop-place.place _ _ c.in_ok-first_of.field-0 c.args.tallies.now.items c.loop-place.tallies.items c.push.new.self.items c.loop-place-test.true
      c.loop-place.invariant.args c.in_ok-first_of.ensures.taken c.in_ok-push.ensures.items c.loop-place.invariant.so_far;
  over =
      first-over-step c.args.calls.now c.args.args.now c.loop-place.place _ _ c.in_ok-first_of.field-0 c.loop-place-test.true c.loop-place.invariant.args c.in_ok-first_of.ensures.taken
      c.in_ok-first_of.ensures.over c.loop-place.invariant.over;
  args = c.loop-place.invariant.args;
}

pub returns-clause-taken : goal.returns-clause-taken
returns-clause-taken c =
    c.loop-place.invariant.so_far
    ∙ ap (λ (states : List AnyAgg). c.args.tallies.now.items ++ states) (first-end c.args.calls.now c.args.args.now c.loop-place.place c.loop-place-test.false c.loop-place.invariant.args)

pub returns-clause-over : goal.returns-clause-over
returns-clause-over c =
    let i = c.loop-place.place in
    let calls = c.args.calls.now in
    let states : List AnyAgg = fed (take i calls) (units (take i calls)) (take i (map seen_value c.args.args.now)) in
    subst (AreOver calls) (first-end calls c.args.args.now i c.loop-place-test.false c.loop-place.invariant.args)
    (subst (λ (some : List AggCall). AreOver some states) (take_all i calls c.loop-place-test.false) c.loop-place.invariant.over)
