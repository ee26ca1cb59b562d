use Rattle.std.proofs.Common.{◌≡◌, take}
use Rattle.chv_query.specs.ViewQueries.{fillings}
use Rattle.chv_query.proofs.view.fillings.Given as goal

abbrev pub invariant-loop-column : goal.invariant-loop-column
invariant-loop-column l = l.filled ≡ fillings l.shown (take l.column-index l.columns)
