use Rattle.chv_merge.proofs.StateColumnLemmas.{over-joined}
use Rattle.chv_merge.proofs.column.take_state.Goals as goal

pub returns-in-Some-clause-over : goal.returns-in-Some-clause-over
returns-in-Some-clause-over c =
    over-joined c.args.agg c.args.arg _ _ _ _ c.requires.over c.merge.ensures.merged c.merge.ensures.fits
