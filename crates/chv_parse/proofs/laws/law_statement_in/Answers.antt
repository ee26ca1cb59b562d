use Rattle.chv_parse.proofs.TextLaws.{statement_in-written, written-statement_in}
use Rattle.chv_parse.proofs.laws.law_statement_in.Goals as goal

pub returns : goal.returns
returns c text s = (written-statement_in text s, statement_in-written text s)
