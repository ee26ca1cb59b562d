-- What is held stands whole, where ids name one.
use Rattle.std.proofs.Common.{refl}
use Rattle.chv_history.specs.Events.{begins, behind}
use Rattle.chv_history.proofs.AcknowledgedLemmas.{holding_behind, holding_none}
use Rattle.chv_history.proofs.LookupLemmas.{schema-filling}
use Rattle.chv_history.proofs.RoomLemmas.{made_whole}
use Rattle.chv_history.proofs.StartLemmas.{run_lawful}
use Rattle.chv_history.proofs.WholeLemmas.{arriving_behind, brought_behind, whole_behind, whole_in_books}
use Rattle.chv_history.proofs.laws.law_whole.Goals as goal

pub returns-clause-entries : goal.returns-clause-entries
returns-clause-entries c = λ requests history done left schema split one.
    whole_in_books (behind done (begins history)) one (holding_behind requests (begins history) done left (schema-filling history.schema schema) (holding_none (begins history) refl) split)

pub returns-clause-blocks : goal.returns-clause-blocks
returns-clause-blocks c = λ requests history done left lawful formed split apart tokens.
    let both = arriving_behind requests (begins history) done left lawful formed refl split in
    whole_behind done history (behind done (begins history)) refl apart tokens (holding_behind requests (begins history) done left (schema-filling history.schema lawful.schema) (holding_none (begins history) refl) split)
    (brought_behind requests (begins history) done left refl split) both.0 both.1

pub returns-clause-turns : goal.returns-clause-turns
returns-clause-turns c = λ script turns history done left lawful split apart tokens.
    made_whole done history (behind done (begins history)) refl apart tokens (run_lawful script turns history done left lawful split)
