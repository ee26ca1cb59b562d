-- The links of the views so far.
use Rattle.std.proofs.Common.{◌≡◌, length, take}
use Rattle.chv_catalog.specs.Paths.{links_of}
use Rattle.chv_catalog.proofs.schema.Schema.lay_links.Given as goal

abbrev pub invariant-loop-view : goal.invariant-loop-view
invariant-loop-view l = record { long : length l.links ≡ 257; laid : take l.view l.links ≡ take l.view (links_of l.fn.self.catalog.views) }
