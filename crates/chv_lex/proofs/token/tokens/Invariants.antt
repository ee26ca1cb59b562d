use Rattle.std.proofs.Common.{◌-◌, length}
use Rattle.chv_lex.proofs.TokenLemmas.{IsReadUpTo}
use Rattle.chv_lex.proofs.token.tokens.Given as goal

abbrev pub invariant-loop-at : goal.invariant-loop-at
invariant-loop-at l = IsReadUpTo l.piece l.at l.tokens

abbrev pub decreases-loop-at : goal.decreases-loop-at
decreases-loop-at l = length l.piece - l.at
