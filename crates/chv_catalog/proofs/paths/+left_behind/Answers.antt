-- The paths by the next view come off what is left, or are too many.
use Rattle.std.proofs.Common.{◌∙◌, ◌+◌, ◌-◌, ℕ, List, drop, sym, ap, ap₂, arith}
use Rattle.chv_catalog.specs.Paths.{readers_from}
use Rattle.chv_catalog.specs.Walks.{left_behind, paths_by}
use Rattle.chv_catalog.proofs.WalkLemmas.{behind-None, behind-Some, readers-none}
use Rattle.chv_catalog.proofs.paths.+left_behind.Goals as goal
use Rattle.chv_catalog.proofs.paths.+left_behind.Goals.{then-links-view+else-most-eq0+else-left-eq0+in_ok-left, else-links-view}

pub returns-in_err-left : goal.returns-in_err-left
returns-in_err-left t c =
    c.from_residual.ensures
    ∙ sym (behind-None c.args.links.now c.args.table c.args.most c.loop-view.left c.loop-view.view _ c.loop-view-test.true c.if-links-view.true (c.args.most - 1) (c.loop-view.left - 1) (omega arith) (omega arith)
    c.left_behind.result c.left_behind.ensures c.in_err-left.was)
    ∙ c.loop-view.invariant

pub loop-view-preserved : goal.loop-view-preserved
loop-view-preserved t c =
    elim c.if-links-view.branch [
      | then-links-view+else-most-eq0+else-left-eq0+in_ok-left w ↦
          ap (λ (rest : ℕ). left_behind c.args.most rest (paths_by c.args.most c.args.links.now (readers_from (c.loop-view.view + 1) (drop (c.loop-view.view + 1) c.args.links.now) c.args.table))) w.left-is
          ∙ sym (behind-Some c.args.links.now c.args.table c.args.most c.loop-view.left c.loop-view.view _ c.loop-view-test.true w.if-links-view.true (c.args.most - 1) (c.loop-view.left - 1) (omega arith) (omega arith)
          w.left_behind.result w.in_ok-left.left w.left_behind.ensures w.in_ok-left.was)
          ∙ c.loop-view.invariant
      | else-links-view w ↦
          ap₂ (λ (rest : ℕ) (views : List ℕ). left_behind c.args.most rest (paths_by c.args.most c.args.links.now views)) w.left-is
          (sym (readers-none c.loop-view.view c.args.links.now c.args.table _ c.loop-view-test.true w.if-links-view.false))
          ∙ c.loop-view.invariant
    ]
