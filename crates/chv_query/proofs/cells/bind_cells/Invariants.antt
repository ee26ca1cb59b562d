use Rattle.std.proofs.Common.{List, drop}
use Rattle.chv_query.specs.Bound.{AreKeys}
use Rattle.chv_query.specs.Keys.{Key}
use Rattle.chv_query.proofs.CellLemmas.{AreSoFar}
use Rattle.chv_query.proofs.cells.bind_cells.Given as goal

abbrev pub invariant-loop-item : goal.invariant-loop-item
invariant-loop-item l = (known : List Key) → AreKeys l.columns l.keys known → AreSoFar l.columns known l.items (drop l.item-index l.items) l.cells
