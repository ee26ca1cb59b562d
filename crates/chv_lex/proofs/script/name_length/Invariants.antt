use Rattle.std.proofs.Common.{◌≡◌, ◌+◌, drop}
use Rattle.chv_lex.specs.Scripts.{name_length}
use Rattle.chv_lex.proofs.script.name_length.Given as goal

abbrev pub invariant-loop-at : goal.invariant-loop-at
invariant-loop-at l = l.at + name_length (drop l.at l.bytes) ≡ name_length l.bytes
