use Rattle.std.proofs.Common.{◌≡◌, ◌++◌, drop, length, map, take}
use Rattle.chv_group.specs.Tallies.{AreOver, KeepsOthers, fed, part}
use Rattle.chv_types.specs.Values.{seen_value}
use Rattle.chv_group.proofs.tallies.take_all.Given as goal

abbrev pub invariant-loop-place : goal.invariant-loop-place
invariant-loop-place l = record {
  so_far : take l.place (part l.first (length l.calls) l.tallies.items) ++ fed (drop l.place l.calls) (drop l.place (part l.first (length l.calls) l.tallies.items)) (drop l.place (map seen_value l.args))
      ≡ fed l.calls (part l.first (length l.calls) l.initial.tallies.items) (map seen_value l.args);
  over : AreOver l.calls (part l.first (length l.calls) l.tallies.items);
  others : KeepsOthers l.first (length l.calls) l.initial.tallies.items l.tallies.items;
  args : length l.args ≡ length l.calls;
  size : length l.tallies.items ≡ length l.initial.tallies.items;
}
