use Rattle.std.proofs.Common.{length, ◌+◌, ◌-◌, ◌≡◌, ◌≤◌, drop}
use Rattle.chv_types.specs.Order.{row_cmp}
use Rattle.chv_merge.specs.NormalForms.{values_at}
use Rattle.chv_merge.proofs.normal_form.order_at.Given as goal

abbrev pub invariant-loop-i : goal.invariant-loop-i
invariant-loop-i l = record {
  within : (l.i ≤ length l.key) × (l.j ≤ length l.key);
  left : row_cmp (values_at (drop l.i l.key) l.a) (values_at (drop l.j l.key) l.b) ≡ row_cmp (values_at l.key l.a) (values_at l.key l.b);
}

abbrev pub decreases-loop-i : goal.decreases-loop-i
decreases-loop-i l = (length l.key - l.i) + (length l.key - l.j)
