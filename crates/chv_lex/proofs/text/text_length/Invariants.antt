use Rattle.std.proofs.Common.{◌≡◌, ◌+◌, drop}
use Rattle.chv_lex.specs.declared.text.Within.TheVariants as within
use Rattle.chv_lex.specs.Texts.{text_length}
use Rattle.chv_lex.proofs.text.text_length.Given as goal

abbrev pub invariant-loop-at : goal.invariant-loop-at
invariant-loop-at l = l.at + text_length l.within (drop l.at l.bytes) ≡ text_length within.Text l.bytes
