-- The paths that are there, and those that are left, are all paths.
use Rattle.std.proofs.Common.{◌≡◌, ◌++◌, ◌-◌, List, ℕ, drop, map}
use Rattle.chv_catalog.specs.Paths.{paths_within, readers_from}
use Rattle.chv_catalog.specs.Walks.{paths_by}
use Rattle.chv_catalog.proofs.paths.+put_paths.Given as goal

abbrev pub decreases-put_paths : goal.decreases-put_paths
decreases-put_paths l = l.room

abbrev pub invariant-loop-view : goal.invariant-loop-view
invariant-loop-view l =
    l.paths ++ map (λ (path : List ℕ). l.front ++ path) (paths_by (l.room - 1) l.links (readers_from l.view (drop l.view l.links) l.table))
    ≡ l.fn.paths ++ map (λ (path : List ℕ). l.front ++ path) (paths_within l.room l.links l.table)
