use Rattle.std.proofs.Common.{◌∙◌, ◌+◌, ◌≤◌, arith, length, refl, sym}
use Rattle.std.proofs.lemmas.List.{length-map, length-set}
use Rattle.chv_group.proofs.PartLemmas.{KeepsOthers-itself, KeepsOthers-set, length-part}
use Rattle.chv_group.proofs.TallyLemmas.{TakesArguments-length, over-part-at, over-part-step, take-end, take-part-step, takes-at}
use Rattle.chv_types.specs.Values.{seen_value}
use Rattle.chv_group.proofs.tallies.take_all.Goals as goal

pub loop-place-init : goal.loop-place-init
loop-place-init c = record {
  so_far = refl;
  over = c.requires.over;
  others = KeepsOthers-itself c.args.first (length c.args.calls.now) c.args.tallies.now.items;
  args = sym (length-map c.args.args.now seen_value) ∙ TakesArguments-length _ _ c.requires.takes;
  size = refl;
}

pub take_one-requires-clause-takes : goal.take_one-requires-clause-takes
take_one-requires-clause-takes c =
    takes-at c.args.calls.now c.args.args.now c.loop-place.place _ _ c.requires.takes c.loop-place-test.true c.loop-place.invariant.args

pub take_one-requires-clause-over : goal.take_one-requires-clause-over
take_one-requires-clause-over c =
    over-part-at c.args.calls.now c.loop-place.tallies.items c.args.first c.loop-place.place _ c.index_mut.result.now c.loop-place.invariant.over c.loop-place-test.true c.index_mut.ensures.value

pub loop-place-preserved : goal.loop-place-preserved
loop-place-preserved c =
    let inside : c.args.first + length c.args.calls.now ≤ length c.loop-place.tallies.items = omega (arith, c.requires.within, c.loop-place.invariant.size) in
    record {
      so_far =
          take-part-step c.args.calls.now c.args.args.now c.loop-place.tallies.items c.args.first c.loop-place.place _ _ c.index_mut.result.now c.take_one.new.tally _ c.loop-place-test.true
          c.loop-place.invariant.args inside c.index_mut.ensures.value c.in_ok-take_one.ensures.taken c.loop-place.invariant.so_far;
      over =
          over-part-step c.args.calls.now c.loop-place.tallies.items c.args.first c.loop-place.place _ c.take_one.new.tally c.loop-place-test.true c.loop-place.invariant.over
          c.in_ok-take_one.ensures.over;
      others =
          KeepsOthers-set c.args.first (length c.args.calls.now) c.args.tallies.now.items c.loop-place.tallies.items c.loop-place.place c.take_one.new.tally c.loop-place-test.true
          c.loop-place.invariant.others;
      args = c.loop-place.invariant.args;
      size = length-set c.loop-place.tallies.items (c.args.first + c.loop-place.place) c.take_one.new.tally ∙ c.loop-place.invariant.size;
    }

pub returns-clause-taken : goal.returns-clause-taken
returns-clause-taken c =
    let inside : c.args.first + length c.args.calls.now ≤ length c.loop-place.tallies.items = omega (arith, c.requires.within, c.loop-place.invariant.size) in
    take-end c.args.calls.now _ _ c.loop-place.place _ c.loop-place-test.false (length-part c.args.first (length c.args.calls.now) c.loop-place.tallies.items inside)
    c.loop-place.invariant.so_far
