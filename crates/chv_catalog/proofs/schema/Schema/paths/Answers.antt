-- The links that are laid out are those of the views.
use Rattle.std.proofs.Common.{◌∙◌, ◌++◌, List, ℕ, ap₂, map, map-id}
use Rattle.chv_catalog.specs.Paths.{MAX_PATH, links_of, paths_from, paths_within}
use Rattle.chv_catalog.specs.declared.link.Link.{Link}
use Rattle.chv_catalog.proofs.schema.Schema.paths.Goals as goal

pub returns : goal.returns
unfolding paths_from
returns c =
    c.in_ok-put_paths.ensures
    ∙ ap₂ (λ (before : List (List ℕ)) (links : List Link). before ++ map (λ (path : List ℕ). path) (paths_within MAX_PATH links c.args.table)) c.new-paths.ensures c.lay_links-count.ensures.laid
    ∙ map-id (paths_within MAX_PATH (links_of c.args.self.now.catalog.views) c.args.table)
