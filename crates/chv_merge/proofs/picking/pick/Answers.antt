use Rattle.std.proofs.Common.{◌≡◌, length, subst, arith}
use Rattle.std.proofs.lemmas.List.{length-map}
use Rattle.chv_merge.specs.Picks.{AreLowest, levels_of}
use Rattle.chv_commit.specs.declared.part_row.PartRow.{PartRow}
use Rattle.chv_merge.proofs.PickLemmas.{AreLowest-picked, AreLowest-zero}
use Rattle.chv_merge.proofs.picking.pick.Goals as goal

pub loop-from-init : goal.loop-from-init
loop-from-init c = AreLowest-zero (levels_of c.args.layout.now)

pub lower-lowest-requires-clause-before : goal.lower-lowest-requires-clause-before
lower-lowest-requires-clause-before c = c.loop-from.invariant

pub loop-from-preserved : goal.loop-from-preserved
loop-from-preserved c = c.lower-lowest.ensures

pub returns : goal.returns
returns c =
    let levels = levels_of c.args.layout.now in
    let end : c.loop-from.from ≡ length levels =
    omega (arith, c.loop-from-test.false, c.loop-from.auto.from-end, length-map c.args.layout.now (λ (part : PartRow). part.level)) in
    AreLowest-picked levels c.loop-from.lowest (subst (λ place. AreLowest levels place c.loop-from.lowest) end c.loop-from.invariant)
