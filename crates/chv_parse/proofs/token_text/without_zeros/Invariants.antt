use Rattle.std.proofs.Common.{length, ◌≡◌}
use Rattle.chv_ast.specs.Lexemes.{without_zeros}
use Rattle.chv_parse.proofs.token_text.without_zeros.Given as goal

abbrev pub invariant-loop-digits : goal.invariant-loop-digits
invariant-loop-digits l = without_zeros l.digits ≡ without_zeros l.text

abbrev pub decreases-loop-digits : goal.decreases-loop-digits
decreases-loop-digits l = length l.digits
