-- The reply's place among the events is compared with what is done.
use Rattle.std.proofs.Common.{sym, ◌∙◌}
use Rattle.chv_history.proofs.AcknowledgedLemmas.{acknowledged_or_next}
use Rattle.chv_history.proofs.laws.law_acknowledged.Goals as goal

pub returns : goal.returns
returns c = λ events before first image text left xs ys line plans refuses split some whole.
    acknowledged_or_next xs ys left.done left.left first before text line plans refuses (sym split ∙ left.split) left.said some whole
