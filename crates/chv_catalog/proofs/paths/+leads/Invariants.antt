-- No view leads there so far.
use Rattle.std.proofs.Common.{◌≡◌, ◌-◌, drop, ℕ}
use Rattle.std.specs.List.{list_any}
use Rattle.chv_catalog.specs.Paths.{readers_from, target_of}
use Rattle.chv_catalog.specs.Walks.{leads}
use Rattle.chv_catalog.proofs.paths.+leads.Given as goal

abbrev pub decreases-leads : goal.decreases-leads
decreases-leads l = l.room

abbrev pub invariant-loop-view : goal.invariant-loop-view
invariant-loop-view l =
    list_any (λ (view : ℕ). leads (l.room - 1) l.links (target_of l.links view) l.to) (readers_from l.view (drop l.view l.links) l.from)
    ≡ leads l.room l.links l.from l.to
