-- A path by the next view is put, and those that go on from it.
use Rattle.std.proofs.Common.{◌≡◌, ◌∙◌, ◌++◌, ◌∷◌, [], ◌-◌, ℕ, List, map, sym, ap₂}
use Rattle.chv_catalog.specs.Paths.{paths_within}
use Rattle.chv_catalog.specs.Walks.{paths_by}
use Rattle.chv_catalog.proofs.WalkLemmas.{put-some, readers-none}
use Rattle.chv_catalog.proofs.paths.+put_paths.Goals as goal
use Rattle.chv_catalog.proofs.paths.+put_paths.Goals.{then-links-view+in_ok-path+in_ok-put_paths, else-links-view}

pub loop-view-preserved : goal.loop-view-preserved
loop-view-preserved t c =
    elim c.if-links-view.branch [
      | then-links-view+in_ok-path+in_ok-put_paths w ↦
          let put : c.if-links-view.paths ≡ (c.loop-view.paths ++ (c.args.front.now ++ c.loop-view.view ∷ []) ∷ [])
          ++ map (λ (path : List ℕ). (c.args.front.now ++ c.loop-view.view ∷ []) ++ path) (paths_within (c.args.room - 1) c.args.links.now _) =
          w.paths-is ∙ w.in_ok-put_paths.ensures
          ∙ ap₂ (λ (paths : List (List ℕ)) (front : List ℕ). paths ++ map (λ (path : List ℕ). front ++ path) (paths_within (c.args.room - 1) c.args.links.now _)) w.in_ok-path.ensures.put (w.deref.ensures.value ∙ w.in_ok-path.ensures.path) in
          sym (put-some c.args.links.now c.args.table (c.args.room - 1) c.loop-view.view _ c.loop-view-test.true w.if-links-view.true c.args.front.now c.loop-view.paths c.if-links-view.paths put) ∙ c.loop-view.invariant
      | else-links-view w ↦
          ap₂ (λ (paths : List (List ℕ)) (views : List ℕ). paths ++ map (λ (path : List ℕ). c.args.front.now ++ path) (paths_by (c.args.room - 1) c.args.links.now views)) w.paths-is
          (sym (readers-none c.loop-view.view c.args.links.now c.args.table _ c.loop-view-test.true w.if-links-view.false))
          ∙ c.loop-view.invariant
    ]
