-- Arrivals of one contribution keep apart, and what is acknowledged stands whole.
use Rattle.chv_history.proofs.LifeLemmas.{life_whole, retried, retried_once}
use Rattle.chv_history.proofs.laws.law_retry.Goals as goal

pub returns-clause-once_at_most : goal.returns-clause-once_at_most
returns-clause-once_at_most c = λ history runs earlier later place def life split gains. retried history runs earlier later place def life split gains

pub returns-clause-whole : goal.returns-clause-whole
returns-clause-whole c = life_whole

pub returns-clause-once : goal.returns-clause-once
returns-clause-once c = λ history runs earlier later place def life split gains. retried_once history runs earlier later place def life split gains
