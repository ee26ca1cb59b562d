use Rattle.std.proofs.Common.{◌≡◌, ◌<◌, length, ◌∙◌, arith}
use Rattle.chv_merge.proofs.ColumnLemmas.{halves-end, halves-step}
use Rattle.chv_merge.proofs.column.merge_columns.Goals as goal

pub loop-place-preserved : goal.loop-place-preserved
loop-place-preserved c =
    let within : c.loop-place.place < length c.args.kinds.now = omega (arith, c.loop-place-test.true, c.len-place-end.ensures) in
    record {
      so_far =
          halves-step c.args.kinds.now c.args.key.now c.args.row c.args.others.now c.loop-place.place c.loop-place.row c.merge_column.new.row c.requires.first c.requires.others within
          c.loop-place.invariant.so_far c.in_ok-merge_column.ensures.merged;
      kinds = c.in_ok-merge_column.ensures.kinds;
    }

pub returns-clause-row : goal.returns-clause-row
returns-clause-row c =
    let end : c.loop-place.place ≡ length c.args.kinds.now = omega (arith, c.loop-place-test.false, c.loop-place.auto.place-end, c.len-place-end.ensures) in
    c.loop-place.invariant.so_far ∙ halves-end c.args.kinds.now c.args.key.now c.args.row c.args.others.now c.loop-place.place c.requires.first c.requires.others end
