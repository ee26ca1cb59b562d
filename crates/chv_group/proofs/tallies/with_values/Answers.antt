use Rattle.std.proofs.Common.{◌∙◌, ◌+◌, length, refl}
use Rattle.std.proofs.lemmas.List.{length-set}
use Rattle.chv_group.proofs.PartLemmas.{KeepsOthers-itself, KeepsOthers-set, length-part}
use Rattle.chv_group.proofs.TallyLemmas.{out-left, out-taken, over-at, value-end, value-step}
use Rattle.chv_group.specs.Tallies.{part}
use Rattle.chv_group.proofs.tallies.with_values.Goals as goal

pub loop-place-init : goal.loop-place-init
loop-place-init c = record {
  so_far = refl;
  left = refl;
  others = KeepsOthers-itself c.args.first (length c.args.calls.now) c.args.tallies.now.items;
  size = refl;
}

pub result_of-requires : goal.result_of-requires
result_of-requires c = record {
  over =
      over-at c.args.calls.now (part c.args.first (length c.args.calls.now) c.args.tallies.now.items) c.loop-place.place _ c.in_ok-tally.tally c.requires.over c.loop-place-test.true
      (out-taken c.args.calls.now c.loop-place.tallies.items (part c.args.first (length c.args.calls.now) c.args.tallies.now.items) c.args.first c.loop-place.place c.index_mut.result.now
      c.in_ok-tally.tally c.loop-place-test.true c.loop-place.invariant.left c.index_mut.ensures.value c.in_ok-tally.ensures);
}

pub loop-place-preserved : goal.loop-place-preserved
loop-place-preserved c =
    let calls = c.args.calls.now in
    let all = part c.args.first (length calls) c.args.tallies.now.items in
    record {
      so_far =
          value-step calls c.loop-place.place _ all c.in_ok-tally.tally c.loop-place.row c.push.new.self _ c.in_ok-result_of.field-0 c.loop-place-test.true
          (length-part c.args.first (length calls) c.args.tallies.now.items c.requires.within)
          (out-taken calls c.loop-place.tallies.items all c.args.first c.loop-place.place c.index_mut.result.now c.in_ok-tally.tally c.loop-place-test.true c.loop-place.invariant.left
          c.index_mut.ensures.value c.in_ok-tally.ensures)
          c.in_ok-result_of.ensures c.in_ok-push.ensures.ok c.loop-place.invariant.so_far;
      left = out-left calls c.loop-place.tallies.items all c.args.first c.loop-place.place c.take_out.new.tally c.loop-place-test.true c.loop-place.invariant.left;
      others =
          KeepsOthers-set c.args.first (length calls) c.args.tallies.now.items c.loop-place.tallies.items c.loop-place.place c.take_out.new.tally c.loop-place-test.true
          c.loop-place.invariant.others;
      size = length-set c.loop-place.tallies.items (c.args.first + c.loop-place.place) c.take_out.new.tally ∙ c.loop-place.invariant.size;
    }

pub returns-clause-values : goal.returns-clause-values
returns-clause-values c = value-end c.args.calls.now c.loop-place.place _ c.loop-place.row _ c.loop-place-test.false c.loop-place.invariant.so_far
