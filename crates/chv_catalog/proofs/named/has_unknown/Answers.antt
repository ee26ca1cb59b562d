use Rattle.std.proofs.Common.{rules, tests, ◌∙◌, map}
use Rattle.std.proofs.lemmas.Iterator.{YieldsList-from_slice}
use Rattle.std.proofs.lemmas.Iterator.Search.{any_from_yields_List}
use Rattle.chv_catalog.proofs.ListLemmas.{list_any-map}
use Rattle.chv_catalog.specs.Checks.{is_unknown}
use Rattle.chv_catalog.proofs.named.has_unknown.Goals as goal

pub returns : goal.returns
returns g c =
    any_from_yields_List (λ x. is_unknown (map g.C.Named.text c.args.columns.now) (g.T.Named.text x)) _ _ _ c.any.ensures.ran
    (YieldsList-from_slice c.args.names.now cc) (λ x b q k. search (rules, tests))
    ∙ list_any-map g.T.Named.text (is_unknown (map g.C.Named.text c.args.columns.now)) c.args.names.now
