use Rattle.std.proofs.Common.{◌≡◌, ◌≤◌, length}
use Rattle.chv_lex.specs.Blanks.{behind_blanks}
use Rattle.chv_lex.proofs.blank.behind_blanks.Given as goal

abbrev pub invariant-loop-text : goal.invariant-loop-text
invariant-loop-text l = (behind_blanks 0 l.text ≡ behind_blanks 0 l.fn.text) × (length l.text ≤ length l.fn.text)

abbrev pub decreases-loop-text : goal.decreases-loop-text
decreases-loop-text l = length l.text
