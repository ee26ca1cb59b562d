-- A view is made, and a reply says it; or a fault ends it.
use Rattle.std.proofs.Common.{ℕ, List, subst, ◌∙◌}
use Rattle.std.proofs.lemmas.Result.{err_from_is_err_and}
use Rattle.chv_flight.proofs.ViewLemmas.{HasViewed, view_answers, view_ended}
use Rattle.chv_catalog.specs.declared.definition.Definition.TheVariants.{View}
use Rattle.chv_flight.proofs.KeepLemmas.{keeps_made, keeps_on}
use Rattle.chv_flight.proofs.create.make_view.Goals as goal

pub create_view-requires-clause-makes : goal.create_view-requires-clause-makes
create_view-requires-clause-makes g c = let makes = c.requires.makes in (makes.0, makes.1, c.as_slice.ensures.value ∙ makes.2)

pub returns-in_err-create_view-clause-answers : goal.returns-in_err-create_view-clause-answers
returns-in_err-create_view-clause-answers g c = λ made makes text.
    let S = g.W.Site in
    let call = c.create_view.ensures in
    let p = err_from_is_err_and c.from_residual.result c.from_residual.ensures.1 in
    let old = S.outside c.args.site.now in
    let new = S.outside c.create_view.new.site in
    let def = c.args.view.def in
    let has : HasViewed S.tells c.create_view.result c.args.store.now c.create_view.new.self c.as_slice.result.now def old new = record { created = call.created; logged = call.logged; held = call.held; keeps = call.keeps } in
    rw (p.1, p.2)
    (view_ended S.tells c.args.client c.create_view.result c.args.store.now c.create_view.new.self made def old new c.requires.usable makes
    (subst (λ (t : List ℕ). HasViewed S.tells c.create_view.result c.args.store.now c.create_view.new.self t def old new) (c.as_slice.ensures.value ∙ text) has) c.in_err-create_view.field-0.0 c.in_err-create_view.was)

pub returns-clause-answers : goal.returns-clause-answers
returns-clause-answers g c = λ made makes text.
    let S = g.W.Site in
    let call = c.create_view.ensures in
    let old = S.outside c.args.site.now in
    let new = S.outside c.create_view.new.site in
    let def = c.args.view.def in
    let has : HasViewed S.tells c.create_view.result c.args.store.now c.create_view.new.self c.as_slice.result.now def old new = record { created = call.created; logged = call.logged; held = call.held; keeps = call.keeps } in
    view_answers S.tells c.args.client c.create_view.result c.args.store.now c.create_view.new.self made def old new c.requires.usable makes
    (subst (λ (t : List ℕ). HasViewed S.tells c.create_view.result c.args.store.now c.create_view.new.self t def old new) (c.as_slice.ensures.value ∙ text) has) c.in_ok-create_view.was c.in_ok-create_view.ensures.usable
    c.as_slice-2.result.now (c.as_slice-2.ensures.bytes ∙ c.line_ok.ensures) c.reply.result (S.outside c.reply.new.site) c.reply.ensures

pub returns-clause-keeps : goal.returns-clause-keeps
returns-clause-keeps g c =
    let was = c.args.store.now in
    let is = c.create_view.new.self in
    let call = c.in_ok-create_view.ensures in
    let makes = c.requires.makes in
    keeps_on c.reply.result was is (keeps_made was is makes.0 (View c.args.view.def) c.requires.usable.within makes.1 call.held.0 call.rooms)
