use Rattle.std.proofs.Common.{◌≡◌, ◌∷◌, take}
use Rattle.chv_agg.specs.States.{IsOver}
use Rattle.chv_merge.specs.Merging.{merged_states}
use Rattle.chv_merge.proofs.column.merge_states.Given as goal

abbrev pub invariant-loop-other : goal.invariant-loop-other
invariant-loop-other l = record {
  over : IsOver l.agg l.arg l.tally;
  so_far : l.tally ≡ merged_states l.agg l.arg l.place (l.row ∷ take l.other-index l.others);
}
