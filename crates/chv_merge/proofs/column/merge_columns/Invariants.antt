use Rattle.std.proofs.Common.{◌≡◌, ◌∷◌}
use Rattle.chv_agg.specs.OfKinds.{AreOf}
use Rattle.chv_merge.proofs.ColumnLemmas.{halves}
use Rattle.chv_merge.specs.NormalForms.{merge_all}
use Rattle.chv_merge.proofs.column.merge_columns.Given as goal

abbrev pub invariant-loop-place : goal.invariant-loop-place
invariant-loop-place l = record {
  so_far : l.row ≡ halves l.place (merge_all l.kinds l.key (l.initial.row ∷ l.others)) l.initial.row;
  kinds : AreOf l.kinds l.row;
}
