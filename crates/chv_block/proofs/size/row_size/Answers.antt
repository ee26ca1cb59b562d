use Rattle.std.proofs.Common.{length, arith, ap}
use Rattle.chv_block.specs.Spellings.{row_spelling}
use Rattle.chv_block.proofs.BlockLemmas.{kind_left, row_end}
use Rattle.chv_block.proofs.size.row_size.Goals as goal

pub bounds-kinds-i : goal.bounds-kinds-i
bounds-kinds-i c = kind_left c.args.kinds.now c.as_slice-values.result.now c.loop-i.i c.loop-i.invariant.row c.loop-i-test.true

pub returns : goal.returns
returns c =
    let none = ap length (row_end c.args.kinds.now c.as_slice-values.result.now c.loop-i.i c.loop-i-test.false) in
    let same = ap (λ values. length (row_spelling c.args.kinds.now values)) c.as_slice-values.ensures in
    omega (arith, none, same, c.loop-i.invariant.sum)
