use Rattle.std.proofs.Common.{◌++◌, ◌+◌, ◌≤◌, length}
use Rattle.std.specs.List.Sorted.{IsPermutation}
use Rattle.std.specs.Vec.{vec_len, vec_capacity}
use Rattle.chv_agg.proofs.uniq.move_values.Given as goal

abbrev pub invariant-loop-value : goal.invariant-loop-value
invariant-loop-value l = record {
  room : vec_len l.to + length l.values ≤ vec_capacity l.to;
  moved : IsPermutation (l.fn.values ++ l.fn.to.items) (l.values ++ l.to.items);
}

abbrev pub decreases-loop-value : goal.decreases-loop-value
decreases-loop-value l = length l.values
