use Rattle.chv_lex.proofs.ReadingLaws.{tokens_of-cut, cut-tokens_of}
use Rattle.chv_lex.proofs.laws.law_tokens_of.Goals as goal

pub returns : goal.returns
returns c piece tokens = (cut-tokens_of piece tokens, tokens_of-cut piece tokens)
