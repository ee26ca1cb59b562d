-- Behind the list the next turn is taken again and again, which comes to an end.
use Rattle.chv_history.proofs.InOrderLemmas.{trace_in_order}
use Rattle.chv_history.proofs.TraceLemmas.{rest_exists, rest_first, rest_none, rest_turn, rest_unique}
use Rattle.chv_history.proofs.laws.law_trace.Goals as goal

pub returns-clause-unique : goal.returns-clause-unique
returns-clause-unique c = rest_unique

pub returns-clause-exists : goal.returns-clause-exists
returns-clause-exists c = rest_exists

pub returns-clause-listed : goal.returns-clause-listed
returns-clause-listed c = rest_turn

pub returns-clause-next : goal.returns-clause-next
returns-clause-next c = rest_first

pub returns-clause-ends : goal.returns-clause-ends
returns-clause-ends c = rest_none

pub returns-clause-in_order : goal.returns-clause-in_order
returns-clause-in_order c = trace_in_order
