use Rattle.std.proofs.Common.{map, sym, ◌∙◌}
use Rattle.chv_plan.proofs.PlaceLemmas.{column_places}
use Rattle.chv_plan.proofs.columns.checked_places.Goals as goal

pub returns-clause-once : goal.returns-clause-once
returns-clause-once g c =
    rw c.in_ok-places.ensures
    (column_places c.args.columns.now (map g.T.Named.text c.args.names.now) (sym c.has_unknown.ensures ∙ c.if-has_unknown.false) (sym c.has_repeat.ensures ∙ c.if-has_repeat.false))
