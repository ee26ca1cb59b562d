-- The next view's link is laid out behind those so far.
use Rattle.std.proofs.Common.{◌∙◌, arith, length-set}
use Rattle.chv_catalog.specs.Paths.{links_of}
use Rattle.chv_catalog.proofs.WalkLemmas.{links-all, links-more}
use Rattle.chv_catalog.proofs.schema.Schema.lay_links.Goals as goal

pub loop-view-preserved : goal.loop-view-preserved
loop-view-preserved c = record {
  long = length-set c.loop-view.links c.loop-view.view c.link.result ∙ c.loop-view.invariant.long;
  laid = links-more c.loop-view.links (links_of c.args.self.now.catalog.views) c.loop-view.view c.link.result
      (omega (arith, c.loop-view.invariant.long, c.views-count.ensures.most)) c.link.ensures c.loop-view.invariant.laid;
}

pub returns-clause-laid : goal.returns-clause-laid
returns-clause-laid c = links-all c.loop-view.links c.args.self.now.catalog.views c.loop-view.view c.views-count.result (omega arith) c.views-count.ensures.count c.loop-view.invariant.laid
