use Rattle.std.proofs.Common.{◌≡◌, drop}
use Rattle.chv_query.specs.Definitions.{columns_of}
use Rattle.chv_define.proofs.ListLemmas.{behind}
use Rattle.chv_define.proofs.kinds.columns_of.Given as goal

abbrev pub invariant-loop-def : goal.invariant-loop-def
invariant-loop-def l = columns_of l.defs ≡ behind l.columns (columns_of (drop l.def-index l.defs))
