use Rattle.std.proofs.Common.{◌≡◌, ◌++◌, length}
use Rattle.chv_agg.specs.OfKinds.{AllAreOf}
use Rattle.chv_merge.specs.NormalForms.{aggregated, before}
use Rattle.chv_types.proofs.SortingLemmas.{Ascending}
use Rattle.chv_merge.proofs.adjacent.merge_adjacent.Given as goal

abbrev pub invariant-loop-first : goal.invariant-loop-first
invariant-loop-first l = record {
  so_far : l.merged.items ++ aggregated l.kinds l.key l.left.items ≡ aggregated l.kinds l.key l.initial.left.items;
  made : AllAreOf l.kinds l.merged.items;
  kinds : AllAreOf l.kinds l.left.items;
  sorted : Ascending (before l.key) l.left.items;
}

abbrev pub decreases-loop-first : goal.decreases-loop-first
decreases-loop-first l = length l.left.items
