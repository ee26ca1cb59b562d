use Rattle.std.proofs.Common.{◌≡◌, drop, max}
use Rattle.chv_commit.specs.Replays.{greatest_level}
use Rattle.chv_commit.proofs.layout.greatest_level.Given as goal

abbrev pub invariant-loop-row : goal.invariant-loop-row
invariant-loop-row l = max l.greatest (greatest_level (drop l.row-index l.rows)) ≡ greatest_level l.rows
