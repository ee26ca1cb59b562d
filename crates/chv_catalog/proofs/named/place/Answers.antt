use Rattle.std.proofs.Common.{rules, tests, ◌∙◌, List, ℕ}
use Rattle.std.specs.Str.{bytes_eq}
use Rattle.std.proofs.lemmas.Iterator.{YieldsList-from_slice}
use Rattle.std.proofs.lemmas.Iterator.Search.{position_from_yields_List}
use Rattle.chv_catalog.proofs.Positions.{position-map}
use Rattle.chv_catalog.proofs.named.place.Goals as goal

pub returns-clause-place : goal.returns-clause-place
returns-clause-place g c =
    position_from_yields_List (λ x. bytes_eq (g.T.Named.text x) c.args.name.now) _ _ _ c.position.ensures.ran
    (YieldsList-from_slice c.args.items.now cc) (λ x b q k. search (rules, tests))
    ∙ position-map g.T.Named.text (λ (other : List ℕ). bytes_eq other c.args.name.now) c.args.items.now
