use Rattle.std.proofs.Common.{◌≡◌, ◌+◌, ◌++◌, drop, length}
use Rattle.chv_group.specs.Tallies.{KeepsOthers, part, values_of}
use Rattle.chv_group.proofs.tallies.with_values.Given as goal

abbrev pub invariant-loop-place : goal.invariant-loop-place
invariant-loop-place l = record {
  so_far : l.row ++ values_of (drop l.place l.calls) (drop l.place (part l.first (length l.calls) l.initial.tallies.items))
      ≡ l.initial.row ++ values_of l.calls (part l.first (length l.calls) l.initial.tallies.items);
  left : drop l.place (part l.first (length l.calls) l.tallies.items) ≡ drop l.place (part l.first (length l.calls) l.initial.tallies.items);
  others : KeepsOthers l.first (length l.calls) l.initial.tallies.items l.tallies.items;
  size : length l.tallies.items ≡ length l.initial.tallies.items;
}
