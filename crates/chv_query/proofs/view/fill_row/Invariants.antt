use Rattle.std.proofs.Common.{◌≡◌, take}
use Rattle.chv_query.specs.ViewQueries.{filled_by}
use Rattle.chv_query.proofs.view.fill_row.Given as goal

abbrev pub invariant-loop-filling : goal.invariant-loop-filling
invariant-loop-filling l = l.row ≡ filled_by (take l.filling-index l.fillings) l.values
