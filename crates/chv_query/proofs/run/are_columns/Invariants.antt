use Rattle.std.proofs.Common.{◌≡◌, ◌<◌, ℕ, Some, slice_get}
use Rattle.chv_expr.specs.declared.bound.Bound.{Bound}
use Rattle.chv_query.specs.Bound.{IsColumn}
use Rattle.chv_query.proofs.run.are_columns.Given as goal

abbrev pub invariant-loop-i : goal.invariant-loop-i
invariant-loop-i l = (place : ℕ) (bound : Bound) → place < l.i → slice_get l.outputs place ≡ Some bound → IsColumn place bound
