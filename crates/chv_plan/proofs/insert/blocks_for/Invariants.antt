use Rattle.chv_plan.proofs.FeedLemmas.{AreWritten}
use Rattle.chv_plan.proofs.insert.blocks_for.Given as goal

abbrev pub invariant-loop-literals : goal.invariant-loop-literals
invariant-loop-literals l = AreWritten l.kinds l.places l.rows l.literals-index l.fn.sizes l.blocks.items l.squasher
