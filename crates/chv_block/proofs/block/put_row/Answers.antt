use Rattle.std.proofs.Common.{arith}
use Rattle.chv_types.specs.declared.kind.Kind.TheVariants.{Plain}
use Rattle.chv_types.specs.declared.kind.Scalar.TheVariants.{UInt8}
use Rattle.chv_block.proofs.BlockLemmas.{moved, done, kind_left, value_left, row_left, row_step, row_end}
use Rattle.chv_block.proofs.block.put_row.Goals as goal

pub bounds-kinds-i : goal.bounds-kinds-i
bounds-kinds-i c = kind_left c.args.kinds.now c.args.row.now c.loop-i.i c.loop-i.invariant.row c.loop-i-test.true

pub spell_value-requires : goal.spell_value-requires
spell_value-requires c = record {
  kind = value_left c.args.kinds.now c.args.row.now c.loop-i.i _ c.index-row-i.result c.loop-i.invariant.row c.loop-i-test.true c.index-row-i.is;
}

pub loop-i-preserved : goal.loop-i-preserved
loop-i-preserved c = record {
  put =
      moved c.loop-i.out.items _ _ _ _ _ c.in_ok-spell_value.ensures.put
      (row_step c.args.kinds.now c.args.row.now c.loop-i.i _ _ c.index-row-i.result c.loop-i.invariant.row c.loop-i-test.true c.index-row-i.is (omega arith))
      c.loop-i.invariant.put;
  row = row_left c.args.kinds.now c.args.row.now c.loop-i.i _ (Plain UInt8) c.index-row-i.result c.loop-i.invariant.row c.loop-i-test.true c.index-row-i.is (omega arith);
}

pub returns : goal.returns
returns c = done c.loop-i.out.items _ _ (row_end c.args.kinds.now c.args.row.now c.loop-i.i c.loop-i-test.false) c.loop-i.invariant.put
