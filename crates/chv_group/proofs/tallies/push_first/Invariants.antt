use Rattle.std.proofs.Common.{◌≡◌, ◌++◌, length, map, take}
use Rattle.chv_group.specs.Tallies.{AreOver, fed, units}
use Rattle.chv_types.specs.Values.{seen_value}
use Rattle.chv_group.proofs.tallies.push_first.Given as goal

abbrev pub invariant-loop-place : goal.invariant-loop-place
invariant-loop-place l = record {
  so_far : l.tallies.items ≡ l.initial.tallies.items ++ fed (take l.place l.calls) (units (take l.place l.calls)) (take l.place (map seen_value l.args));
  over : AreOver (take l.place l.calls) (fed (take l.place l.calls) (units (take l.place l.calls)) (take l.place (map seen_value l.args)));
  args : length l.args ≡ length l.calls;
}
