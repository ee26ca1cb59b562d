use Rattle.std.proofs.Common.{◌≡◌, map, take}
use Rattle.chv_query.specs.Results.{arranged}
use Rattle.chv_query.proofs.running.arrange_each.Given as goal

abbrev pub invariant-loop-row : goal.invariant-loop-row
invariant-loop-row l = l.made ≡ map (arranged l.places) (take l.row-index l.rows)
