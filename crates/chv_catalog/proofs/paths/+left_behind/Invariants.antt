-- What is left behind the paths so far is left by those that come.
use Rattle.std.proofs.Common.{◌≡◌, drop, suc}
use Rattle.chv_catalog.specs.Paths.{paths_within, readers_from}
use Rattle.chv_catalog.specs.Walks.{left_behind, paths_by}
use Rattle.chv_catalog.proofs.paths.+left_behind.Given as goal

abbrev pub decreases-left_behind : goal.decreases-left_behind
decreases-left_behind l = l.most

abbrev pub invariant-loop-view : goal.invariant-loop-view
invariant-loop-view l =
    left_behind l.most l.left (paths_by l.most l.links (readers_from l.view (drop l.view l.links) l.table))
    ≡ left_behind l.most l.fn.left (paths_within (suc l.most) l.links l.table)
