use Rattle.chv_parse.proofs.StatementLemmas.{one_statement}
use Rattle.chv_parse.proofs.laws.law_one_tree.Goals as goal

pub returns : goal.returns
returns c = one_statement
