use Rattle.std.proofs.Common.{drop}
use Rattle.chv_query.proofs.KeyLemmas.{AreSoFar}
use Rattle.chv_query.proofs.keys.bind_keys.Given as goal

abbrev pub invariant-loop-key : goal.invariant-loop-key
invariant-loop-key l = AreSoFar l.columns l.items l.keys (drop l.key-index l.keys) l.found
