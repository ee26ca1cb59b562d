-- By the form of the statement.
use Rattle.chv_ast.proofs.FormedLaws.{well_formed}
use Rattle.chv_ast.proofs.laws.law_well_formed.Goals as goal

pub returns : goal.returns
returns c = well_formed
