use Rattle.std.proofs.Common.{◌≡◌, ◌<◌, ℕ, Some, slice_get}
use Rattle.chv_merge.specs.Picks.{levels_of}
use Rattle.chv_merge.proofs.picking.share_level.Given as goal

abbrev pub invariant-loop-place : goal.invariant-loop-place
invariant-loop-place l = (i : ℕ) → i < l.place → slice_get (levels_of l.parts) i ≡ Some l.level
