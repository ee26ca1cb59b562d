use Rattle.std.proofs.Common.{◌≡◌, ◌+◌, drop}
use Rattle.chv_lex.specs.Blanks.{block_length}
use Rattle.chv_lex.proofs.blank.block_length.Given as goal

abbrev pub invariant-loop-at : goal.invariant-loop-at
invariant-loop-at l = l.at + block_length (drop l.at l.bytes) ≡ block_length l.bytes
