-- Each event keeps the ids spaced, and each one of a run keeps the history lawful, whose contributions are spaced.
use Rattle.chv_history.specs.Events.{begins, behind}
use Rattle.chv_history.proofs.RunLemmas.{lawful_behind}
use Rattle.chv_history.proofs.SpacedLemmas.{contributions_spaced, spaced_behind}
use Rattle.chv_history.proofs.StartLemmas.{run_lawful}
use Rattle.chv_history.proofs.laws.law_spaced.Goals as goal

pub returns-clause-spaced : goal.returns-clause-spaced
returns-clause-spaced c = spaced_behind

pub returns-clause-lawful : goal.returns-clause-lawful
returns-clause-lawful c = λ requests history done left lawful formed split. lawful_behind requests (begins history) done left lawful formed split

pub returns-clause-contributions : goal.returns-clause-contributions
returns-clause-contributions c = λ requests history done left lawful formed split.
    contributions_spaced (behind done (begins history)).history (lawful_behind requests (begins history) done left lawful formed split)

pub returns-clause-turns : goal.returns-clause-turns
returns-clause-turns c = λ script turns history done left lawful split.
    let holds = run_lawful script turns history done left lawful split in (holds.1, contributions_spaced (behind done (begins history)).history holds.1)
