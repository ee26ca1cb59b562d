use Rattle.std.proofs.Common.{drop}
use Rattle.chv_query.proofs.OutputLemmas.{AreSoFar}
use Rattle.chv_query.proofs.output.bind_outputs.Given as goal

abbrev pub invariant-loop-item : goal.invariant-loop-item
invariant-loop-item l = AreSoFar l.columns l.items (drop l.item-index l.items) l.outputs
