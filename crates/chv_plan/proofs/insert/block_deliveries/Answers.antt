use Rattle.std.proofs.Common.{◌∙◌, List, true, false, subst, sym}
use Rattle.std.proofs.lemmas.Result.{err_from_is_err_and}
use Rattle.chv_catalog.specs.Paths.{links_of}
use Rattle.chv_query.specs.Plans.{block_deliveries, source_of}
use Rattle.chv_plan.specs.Below.{HoldsAll}
use Rattle.chv_plan.specs.declared.delivery.Delivery.{Delivery as Held}
use Rattle.chv_plan.proofs.BoundLemmas.{there_from}
use Rattle.chv_plan.proofs.HeldLemmas.{divides_there, held_block}
use Rattle.chv_plan.proofs.insert.block_deliveries.Goals as goal

pub deliveries_below-requires-clause-views : goal.deliveries_below-requires-clause-views
deliveries_below-requires-clause-views c = there_from c.args.bound.now.views.items (links_of c.args.bound.now.schema.now.catalog.views) c.args.table c.requires.views

pub returns-in_err-below-clause-refused : goal.returns-in_err-below-clause-refused
returns-in_err-below-clause-refused c =
    let p = err_from_is_err_and c.from_residual-in_err-below.result c.from_residual-in_err-below.ensures.1 in
    rw p.1 (λ refusal is.
    let refused = c.in_err-below.ensures.refused refusal (sym p.2 ∙ is) in
    (refused.0, divides_there c.args.bound.now.schema.now.catalog c.args.table c.args.block true refused.1))

pub returns-clause-held : goal.returns-clause-held
returns-clause-held c =
    let catalog = c.args.bound.now.schema.now.catalog in
    let source = source_of c.args.kinds.now c.args.token.now c.args.number c.args.block in
    subst (λ (held : List Held). HoldsAll catalog held (block_deliveries catalog c.args.table source c.args.block)) (sym c.in_ok-put_first.ensures)
    (held_block catalog c.args.table source c.args.block c.in_ok-id.id c.in_ok-first.first c.in_ok-below.below.items c.in_ok-id.ensures c.in_ok-first.ensures c.in_ok-below.ensures.held)

pub returns-clause-sound : goal.returns-clause-sound
returns-clause-sound c = divides_there c.args.bound.now.schema.now.catalog c.args.table c.args.block false c.in_ok-below.ensures.held.sound
