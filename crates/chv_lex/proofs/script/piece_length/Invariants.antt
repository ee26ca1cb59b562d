use Rattle.std.proofs.Common.{◌≡◌, ◌-◌, ◌≤◌, length, take, drop}
use Rattle.chv_lex.specs.Scripts.{cut_from}
use Rattle.chv_lex.proofs.ScriptLemmas.{onto_front}
use Rattle.chv_lex.proofs.script.piece_length.Given as goal

-- what stands in front belongs to the first piece
abbrev pub invariant-loop-at : goal.invariant-loop-at
invariant-loop-at l = record {
  so_far : cut_from 0 l.text ≡ onto_front (take l.at l.text) (cut_from 0 (drop l.at l.text));
  within : l.at ≤ length l.text;
}

abbrev pub decreases-loop-at : goal.decreases-loop-at
decreases-loop-at l = length l.text - l.at
