-- No table passes the limits so far.
use Rattle.std.proofs.Common.{◌≡◌, ◌+◌, ◌-◌}
use Rattle.std.specs.List.{list_any, range_with_len}
use Rattle.chv_catalog.specs.Paths.{has_too_many, passes_limits}
use Rattle.chv_catalog.proofs.paths.pass_limits.Given as goal

abbrev pub invariant-loop-place : goal.invariant-loop-place
invariant-loop-place l = list_any (has_too_many l.links) (range_with_len (1 + l.place) (l.tables - l.place)) ≡ passes_limits l.tables l.links
