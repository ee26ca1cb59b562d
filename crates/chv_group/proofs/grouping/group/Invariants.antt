use Rattle.std.proofs.Common.{◌≡◌, take}
use Rattle.chv_group.specs.Takings.{HasTaken}
use Rattle.chv_group.proofs.grouping.group.Given as goal

abbrev pub invariant-loop-input : goal.invariant-loop-input
invariant-loop-input l = record {
  calls : l.grouping.calls ≡ l.fn.calls;
  taken : HasTaken l.grouping (take l.input-index l.input-items);
}
