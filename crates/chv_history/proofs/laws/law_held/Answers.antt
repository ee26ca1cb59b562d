-- A run begins with nothing acknowledged.
use Rattle.std.proofs.Common.{refl}
use Rattle.chv_history.specs.Events.{begins, behind}
use Rattle.chv_history.proofs.AcknowledgedLemmas.{holding_behind, holding_none}
use Rattle.chv_history.proofs.LookupLemmas.{schema-filling}
use Rattle.chv_history.proofs.MadeLemmas.{made_held}
use Rattle.chv_history.proofs.StartLemmas.{run_made}
use Rattle.chv_history.proofs.laws.law_held.Goals as goal

pub returns-clause-requests : goal.returns-clause-requests
returns-clause-requests c = λ requests history done left schema split.
    holding_behind requests (begins history) done left (schema-filling history.schema schema) (holding_none (begins history) refl) split

pub returns-clause-turns : goal.returns-clause-turns
returns-clause-turns c = λ script turns history done left schema split. made_held done (behind done (begins history)) (run_made script turns history done left schema split)
