use Rattle.std.proofs.Common.{◌≡◌, take}
use Rattle.chv_query.specs.Results.{arranged}
use Rattle.chv_query.proofs.running.arranged.Given as goal

abbrev pub invariant-loop-place : goal.invariant-loop-place
invariant-loop-place l = l.values ≡ arranged (take l.place-index l.places) l.row
