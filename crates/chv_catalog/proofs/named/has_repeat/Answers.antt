use Rattle.std.proofs.Common.{◌∙◌, ap, sym, true, false, is_some, ◌+◌}
use Rattle.chv_catalog.proofs.ListLemmas.{has_repeat-more, has_repeat-take}
use Rattle.chv_catalog.proofs.named.has_repeat.Goals as goal

pub returns-then-is_some : goal.returns-then-is_some
returns-then-is_some g c =
    sym (has_repeat-take g.T.Named.text c.args.items.now (c.loop-i.i + 1)
    (has_repeat-more g.T.Named.text c.args.items.now c.loop-i.i c.index-items-i.result c.text.result.now true c.loop-i-test.true
    (c.text.ensures ∙ ap g.T.Named.text c.index-items-i.is) (ap is_some (sym c.place.ensures.place) ∙ sym c.is_some.ensures ∙ c.if-is_some.true) c.loop-i.invariant))

pub loop-i-preserved : goal.loop-i-preserved
loop-i-preserved g c =
    has_repeat-more g.T.Named.text c.args.items.now c.loop-i.i c.index-items-i.result c.text.result.now false c.loop-i-test.true
    (c.text.ensures ∙ ap g.T.Named.text c.index-items-i.is) (ap is_some (sym c.place.ensures.place) ∙ sym c.is_some.ensures ∙ c.if-is_some.false) c.loop-i.invariant
