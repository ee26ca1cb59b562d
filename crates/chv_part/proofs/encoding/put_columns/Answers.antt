use Rattle.chv_block.proofs.BlockLemmas.{moved}
use Rattle.chv_part.proofs.ColumnLemmas.{column_at, columns_step}
use Rattle.chv_part.proofs.encoding.put_columns.Goals as goal

pub put_column-requires : goal.put_column-requires
put_column-requires c = record {
  values = column_at c.args.kinds.now c.loop-place.place _ c.args.rows.now c.requires.rows c.loop-place-test.true;
}

pub loop-place-preserved : goal.loop-place-preserved
loop-place-preserved c =
    moved c.loop-place.out.items _ _ _ _ _ c.in_ok-put_column.ensures (columns_step c.args.kinds.now c.loop-place.place _ c.args.rows.now c.loop-place-test.true) c.loop-place.invariant
