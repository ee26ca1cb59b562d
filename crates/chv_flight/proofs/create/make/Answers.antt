-- A table is made, and a reply says it; or a fault ends it.
use Rattle.std.proofs.Common.{ℕ, List, subst, ◌∙◌}
use Rattle.std.proofs.lemmas.Result.{err_from_is_err_and}
use Rattle.chv_catalog.specs.declared.definition.Definition.TheVariants.{Table}
use Rattle.chv_flight.proofs.CreateLemmas.{HasCreated, create_answers, create_ended}
use Rattle.chv_flight.proofs.KeepLemmas.{keeps_made, keeps_on}
use Rattle.chv_flight.proofs.create.make.Goals as goal

pub create-requires-clause-makes : goal.create-requires-clause-makes
create-requires-clause-makes g c = let makes = c.requires.makes in (makes.0, makes.1, c.as_slice.ensures.value ∙ makes.2)

pub returns-in_err-create-clause-answers : goal.returns-in_err-create-clause-answers
returns-in_err-create-clause-answers g c = λ made makes text.
    let S = g.W.Site in
    let call = c.create.ensures in
    let p = err_from_is_err_and c.from_residual.result c.from_residual.ensures.1 in
    let old = S.outside c.args.site.now in
    let new = S.outside c.create.new.site in
    let def = c.args.table.def in
    let has : HasCreated S.tells c.create.result c.args.store.now c.create.new.self c.as_slice.result.now def old new = record { created = call.created; logged = call.logged; held = call.held; keeps = call.keeps } in
    rw (p.1, p.2)
    (create_ended S.tells c.args.client c.create.result c.args.store.now c.create.new.self made def old new c.requires.usable makes
    (subst (λ (t : List ℕ). HasCreated S.tells c.create.result c.args.store.now c.create.new.self t def old new) (c.as_slice.ensures.value ∙ text) has) c.in_err-create.field-0.0 c.in_err-create.was)

pub returns-clause-answers : goal.returns-clause-answers
returns-clause-answers g c = λ made makes text.
    let S = g.W.Site in
    let call = c.create.ensures in
    let old = S.outside c.args.site.now in
    let new = S.outside c.create.new.site in
    let def = c.args.table.def in
    let has : HasCreated S.tells c.create.result c.args.store.now c.create.new.self c.as_slice.result.now def old new = record { created = call.created; logged = call.logged; held = call.held; keeps = call.keeps } in
    create_answers S.tells c.args.client c.create.result c.args.store.now c.create.new.self made def old new c.requires.usable makes
    (subst (λ (t : List ℕ). HasCreated S.tells c.create.result c.args.store.now c.create.new.self t def old new) (c.as_slice.ensures.value ∙ text) has) c.in_ok-create.was c.in_ok-create.ensures.usable
    c.as_slice-2.result.now (c.as_slice-2.ensures.bytes ∙ c.line_ok.ensures) c.reply.result (S.outside c.reply.new.site) c.reply.ensures

pub returns-clause-keeps : goal.returns-clause-keeps
returns-clause-keeps g c =
    let was = c.args.store.now in
    let is = c.create.new.self in
    let call = c.in_ok-create.ensures in
    keeps_on c.reply.result was is (keeps_made was is c.requires.makes.0 (Table c.args.table.def) c.requires.usable.within c.requires.makes.1 call.held.0 call.rooms)
