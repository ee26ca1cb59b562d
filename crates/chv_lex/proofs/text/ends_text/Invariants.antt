use Rattle.std.proofs.Common.{◌≡◌, drop}
use Rattle.chv_lex.specs.declared.text.Within.TheVariants as within
use Rattle.chv_lex.specs.Texts.{ends_text}
use Rattle.chv_lex.proofs.text.ends_text.Given as goal

abbrev pub invariant-loop-byte : goal.invariant-loop-byte
invariant-loop-byte l = ends_text l.within (drop l.byte-index l.bytes) ≡ ends_text within.Text l.bytes
