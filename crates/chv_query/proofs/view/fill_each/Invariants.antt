use Rattle.std.proofs.Common.{◌≡◌, map, take}
use Rattle.chv_query.specs.ViewQueries.{filled_by}
use Rattle.chv_query.proofs.view.fill_each.Given as goal

abbrev pub invariant-loop-row : goal.invariant-loop-row
invariant-loop-row l = l.filled ≡ map (filled_by l.fillings) (take l.row-index l.rows)
