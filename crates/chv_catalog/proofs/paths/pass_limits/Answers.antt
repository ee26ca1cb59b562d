-- The next table passes the limits, or those behind it do.
use Rattle.std.proofs.Common.{◌∙◌, false, sym}
use Rattle.chv_catalog.proofs.WalkLemmas.{is_none-is, limits-first, limits-next}
use Rattle.chv_catalog.proofs.paths.pass_limits.Goals as goal

pub loop-place-init : goal.loop-place-init
loop-place-init c = limits-first c.args.tables c.args.links.now

pub loop-place-preserved : goal.loop-place-preserved
loop-place-preserved c =
    sym (limits-next c.args.tables c.loop-place.place c.args.links.now c.left_behind.result false c.loop-place-test.true c.left_behind.ensures
    (sym c.if-is_none.false ∙ is_none-is c.left_behind.result c.is_none.result c.is_none.ensures))
    ∙ c.loop-place.invariant
