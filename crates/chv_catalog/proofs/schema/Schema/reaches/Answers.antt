-- The links that are laid out are those of the views.
use Rattle.std.proofs.Common.{◌∙◌, List, ap}
use Rattle.chv_catalog.specs.Paths.{MAX_PATH, paths_from, reaches}
use Rattle.chv_catalog.specs.Walks.{leads}
use Rattle.chv_catalog.specs.declared.link.Link.{Link}
use Rattle.chv_catalog.proofs.schema.Schema.reaches.Goals as goal

pub returns : goal.returns
unfolding reaches paths_from
returns c = c.leads.ensures ∙ ap (λ (links : List Link). leads MAX_PATH links c.args.from c.args.to) c.lay_links-count.ensures.laid
