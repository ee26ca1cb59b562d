use Rattle.std.proofs.Common.{◌≡◌, drop}
use Rattle.std.specs.List.{list_any}
use Rattle.chv_catalog.specs.Checks.{is_state}
use Rattle.chv_plan.specs.Places.{kinds_in}
use Rattle.chv_query.specs.Plans.{kinds_at}
use Rattle.chv_plan.proofs.columns.has_state.Given as goal

abbrev pub invariant-loop-place : goal.invariant-loop-place
invariant-loop-place l = list_any is_state (kinds_at (kinds_in l.columns) (drop l.place-index l.places)) ≡ list_any is_state (kinds_at (kinds_in l.columns) l.places)
