use Rattle.std.proofs.Common.{◌∙◌, sym, ap, map}
use Rattle.chv_catalog.proofs.ListLemmas.{places_of-None, places_of-Some}
use Rattle.chv_catalog.proofs.named.places_of.Goals as goal
use Rattle.chv_catalog.proofs.named.places_of.Goals.{in-Some+in_ok-push, in_default}

pub loop-name-preserved : goal.loop-name-preserved
loop-name-preserved g c =
    let columns = map g.C.Named.text c.args.columns.now in
    let text = c.text.ensures ∙ ap g.T.Named.text c.name-item.is in
    elim c.match-place.branch [
      | in-Some+in_ok-push w ↦
          w.places-is ∙ rw (w.in_ok-push.ensures.ok, c.loop-name.invariant)
          (sym (places_of-Some columns g.T.Named.text c.args.names.now c.loop-name.name-index c.name-item.result c.text.result.now w.in-Some.place c.loop-name-test.true text
          (sym c.place.ensures.place ∙ w.in-Some.is)))
      | in_default w ↦
          w.places-is ∙ c.loop-name.invariant
          ∙ sym (places_of-None columns g.T.Named.text c.args.names.now c.loop-name.name-index c.name-item.result c.text.result.now c.loop-name-test.true text
          (sym c.place.ensures.place ∙ w.in_default.is))
    ]
