use Rattle.std.proofs.Common.{◌≡◌, ◌<◌, ℕ, Some, slice_get}
use Rattle.chv_query.proofs.running.are_in_order.Given as goal

abbrev pub invariant-loop-i : goal.invariant-loop-i
invariant-loop-i l = (place at : ℕ) → place < l.i → slice_get l.places place ≡ Some at → at ≡ place
