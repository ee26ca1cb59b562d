use Rattle.std.proofs.Common.{◌≡◌, ◌++◌, true, length}
use Rattle.std.specs.List.{All}
use Rattle.std.specs.Ordering.{is_eq}
use Rattle.chv_merge.specs.NormalForms.{values_at}
use Rattle.chv_types.specs.Order.{row_cmp}
use Rattle.chv_merge.proofs.adjacent.take_alike.Given as goal

abbrev pub invariant-loop-left : goal.invariant-loop-left
invariant-loop-left l = record {
  taken : l.alike.items ++ l.left.items ≡ l.initial.left.items;
  alike : All (λ other. is_eq (row_cmp (values_at l.key l.row) (values_at l.key other)) ≡ true) l.alike.items;
}

abbrev pub decreases-loop-left : goal.decreases-loop-left
decreases-loop-left l = length l.left.items
