use Rattle.std.proofs.Common.{◌≡◌, drop}
use Rattle.chv_query.specs.Shown.{order_cmp}
use Rattle.chv_select.proofs.answering.compare_rows.Given as goal

abbrev pub invariant-loop-sort : goal.invariant-loop-sort
invariant-loop-sort l = order_cmp (drop l.sort-index l.order) l.a l.b ≡ order_cmp l.order l.a l.b
