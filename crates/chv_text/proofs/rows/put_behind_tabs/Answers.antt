use Rattle.std.proofs.Common.{arith}
use Rattle.chv_types.specs.declared.kind.Kind.TheVariants.{Plain}
use Rattle.chv_types.specs.declared.kind.Scalar.TheVariants.{UInt8}
use Rattle.chv_text.proofs.RowLemmas.{behind_tabs-more, behind_tabs-end}
use Rattle.chv_text.proofs.rows.put_behind_tabs.Goals as goal

pub loop-i-preserved : goal.loop-i-preserved
loop-i-preserved c =
    behind_tabs-more c.args.kinds.now c.args.values.now c.loop-i.i _ (Plain UInt8) c.index-values-i.result c.loop-i.out.items _ _ _ (omega (arith, c.loop-i-test.true, c.min-i-end.ensures)) (omega arith)
    c.index-values-i.is c.in_ok-extend_from_slice.ensures.items c.in_ok-put_value.ensures c.loop-i.invariant

pub returns : goal.returns
returns c = behind_tabs-end c.args.kinds.now c.args.values.now c.loop-i.i c.loop-i.out.items _ (omega (arith, c.loop-i-test.false, c.min-i-end.ensures)) c.loop-i.invariant
