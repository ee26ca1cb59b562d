-- By the tokens of the text.
use Rattle.chv_lex.proofs.SpelledLaws.{written_is_formed}
use Rattle.chv_lex.proofs.laws.law_written_is_formed.Goals as goal

pub returns : goal.returns
returns c = written_is_formed
