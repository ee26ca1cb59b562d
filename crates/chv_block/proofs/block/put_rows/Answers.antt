use Rattle.std.proofs.Common.{arith, ap, ◌∙◌, ◌++◌}
use Rattle.chv_block.specs.Spellings.{row_spelling}
use Rattle.chv_block.proofs.BlockLemmas.{moved, done, first_row, rows_left, rows_step, rows_end}
use Rattle.chv_block.proofs.block.put_rows.Goals as goal

pub put_row-requires : goal.put_row-requires
put_row-requires c = record {
  row = rw c.as_slice.ensures (first_row c.args.kinds.now c.args.rows.now c.loop-i.i c.index-rows-i.result c.loop-i.invariant.rows c.loop-i-test.true c.index-rows-i.is);
}

pub loop-i-preserved : goal.loop-i-preserved
loop-i-preserved c = record {
  put =
      moved c.loop-i.out.items _ _ _ _ _ (c.in_ok-put_row.ensures ∙ ap (λ r. c.loop-i.out.items ++ row_spelling c.args.kinds.now r) c.as_slice.ensures)
      (rows_step c.args.kinds.now c.args.rows.now c.loop-i.i _ c.index-rows-i.result c.loop-i-test.true c.index-rows-i.is (omega arith))
      c.loop-i.invariant.put;
  rows = rows_left c.args.kinds.now c.args.rows.now c.loop-i.i _ c.index-rows-i.result c.loop-i.invariant.rows c.loop-i-test.true c.index-rows-i.is (omega arith);
}

pub returns : goal.returns
returns c = done c.loop-i.out.items _ _ (rows_end c.args.kinds.now c.args.rows.now c.loop-i.i c.loop-i-test.false) c.loop-i.invariant.put
