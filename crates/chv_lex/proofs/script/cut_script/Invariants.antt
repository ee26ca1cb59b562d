use Rattle.std.proofs.Common.{◌≡◌, ◌+◌, ◌-◌, ◌++◌, ◌≤◌, length}
use Rattle.chv_lex.specs.Scripts.{pieces_of}
use Rattle.chv_lex.proofs.ScriptLemmas.{from_place}
use Rattle.chv_lex.proofs.script.cut_script.Given as goal

abbrev pub invariant-loop-start : goal.invariant-loop-start
invariant-loop-start l = record {
  so_far : pieces_of l.text ≡ l.pieces ++ from_place l.start l.text;
  within : l.start ≤ length l.text + 1;
}

abbrev pub decreases-loop-start : goal.decreases-loop-start
decreases-loop-start l = length l.text + 1 - l.start
