use Rattle.chv_parse.proofs.StatementLemmas.{all_found, all_none, all_only}
use Rattle.chv_parse.proofs.statements.statement.Goals as goal

pub returns-clause-found : goal.returns-clause-found
returns-clause-found c = rw (← c.as_slice.ensures) (all_found _ _ c.whole_statement.ensures)

pub returns-clause-none : goal.returns-clause-none
returns-clause-none c = rw (← c.as_slice.ensures) (all_none _ _ c.whole_statement.ensures)

pub returns-clause-only : goal.returns-clause-only
returns-clause-only c = rw (← c.as_slice.ensures) (all_only _ _ c.whole_statement.ensures)
