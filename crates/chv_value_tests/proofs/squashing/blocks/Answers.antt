use Rattle.chv_value_tests.proofs.squashing.blocks.Goals as goal

pub loop-n-preserved : goal.loop-n-preserved
loop-n-preserved c =
    let (sizes, fed, given, held) = c.loop-n.invariant in
    (_, _, _, c.in_ok-block.ensures.fed sizes fed given held)
