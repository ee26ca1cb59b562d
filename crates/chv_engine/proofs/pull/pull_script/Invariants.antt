-- What was pulled so far, and what is left.
use Rattle.std.proofs.Common.{◌≡◌, ◌-◌, ◌≤◌, ◌++◌, length}
use Rattle.chv_engine.specs.Pulls.{MAX_SCRIPT}
use Rattle.chv_engine.proofs.pull.pull_script.Given as goal

abbrev pub invariant-pulls : goal.invariant-pulls
invariant-pulls g l = record {
  within : length l.script.items ≤ MAX_SCRIPT;
  faults : g.S.Source.faults l.source ≡ g.S.Source.faults l.initial.source;
  pulled : g.S.Source.tells → g.S.Source.left l.initial.source ≡ l.script.items ++ g.S.Source.left l.source;
}

abbrev pub decreases-pulls : goal.decreases-pulls
decreases-pulls g l = MAX_SCRIPT - length l.script.items
