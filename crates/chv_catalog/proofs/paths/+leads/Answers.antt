-- A view that reads the table may lead on.
use Rattle.std.proofs.Common.{◌∙◌, true, false, ℕ, sym, ap, arith}
use Rattle.std.specs.List.{list_any}
use Rattle.chv_catalog.specs.Paths.{target_of}
use Rattle.chv_catalog.specs.Walks.{leads}
use Rattle.chv_catalog.proofs.WalkLemmas.{leads-first, leads-some, readers-none}
use Rattle.chv_catalog.proofs.paths.+leads.Goals as goal
use Rattle.chv_catalog.proofs.paths.+leads.Goals.{else-links-view-via-then-links-view+else-leads, else-links-view-via-else-links-view}

pub loop-view-init : goal.loop-view-init
loop-view-init t c = leads-first c.args.room _ c.args.links.now c.args.from c.args.to (omega arith) c.if-from-to.false

pub returns-then-leads : goal.returns-then-leads
returns-then-leads t c =
    sym (leads-some _ _ c.args.links.now c.args.from c.args.to _ true c.loop-view-test.true c.if-links-view.true (sym c.if-leads.true ∙ c.leads.ensures)) ∙ c.loop-view.invariant

pub loop-view-preserved : goal.loop-view-preserved
loop-view-preserved t c =
    elim c.else-links-view.branch [
      | else-links-view-via-then-links-view+else-leads w ↦
          sym (leads-some _ _ c.args.links.now c.args.from c.args.to _ false c.loop-view-test.true w.if-links-view.true (sym w.if-leads.false ∙ w.leads.ensures)) ∙ c.loop-view.invariant
      | else-links-view-via-else-links-view w ↦
          ap (list_any (λ (view : ℕ). leads _ c.args.links.now (target_of c.args.links.now view) c.args.to)) (sym (readers-none _ c.args.links.now c.args.from _ c.loop-view-test.true w.if-links-view.false)) ∙ c.loop-view.invariant
    ]
