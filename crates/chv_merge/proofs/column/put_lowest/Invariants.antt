use Rattle.std.proofs.Common.{◌≡◌, Some, slice_get, slice_set, fold, take}
use Rattle.chv_agg.specs.States.{lower}
use Rattle.chv_merge.specs.Merging.{column}
use Rattle.chv_types.specs.declared.value.Value.{Value}
use Rattle.chv_merge.proofs.column.put_lowest.Given as goal

abbrev pub invariant-loop-other : goal.invariant-loop-other
invariant-loop-other l =
    (x : Value) → slice_get l.initial.row l.place ≡ Some x → l.row ≡ slice_set l.initial.row l.place (fold lower x (column l.place (take l.other-index l.others)))
