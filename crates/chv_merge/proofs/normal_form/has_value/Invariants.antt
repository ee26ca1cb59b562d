use Rattle.std.proofs.Common.{◌≡◌, drop}
use Rattle.chv_merge.specs.NormalForms.{values_at}
use Rattle.chv_merge.proofs.normal_form.has_value.Given as goal

abbrev pub invariant-loop-place : goal.invariant-loop-place
invariant-loop-place l = values_at (drop l.place-index l.places) l.row ≡ values_at l.places l.row
