use Rattle.std.proofs.Common.{rules, sym, ◌∙◌, SFits}
use Rattle.std.specs.Int.{w128}
use Rattle.std.proofs.lemmas.Int.{to_z-of_z}
use Rattle.chv_types.proofs.RangeLemmas.{Widens-ranges}
use Rattle.chv_types.proofs.kind.widens_number.Goals as goal

pub returns-in-Some-range : goal.returns-in-Some-range
returns-in-Some-range c =
    let low : SFits w128 c.in-Some.low = search rules in
    let high : SFits w128 c.in-Some.high = search rules in
    let least : SFits w128 c.in-Some-range.least = search rules in
    let greatest : SFits w128 c.in-Some-range.greatest = search rules in
    let within = simp to_z-of_z at c.lies_within.ensures in
    let both = Widens-ranges c.args.from c.args.to c.in-Some.low c.in-Some.high c.in-Some-range.least c.in-Some-range.greatest
    (sym c.range.ensures ∙ c.in-Some.is) (sym c.range-in-Some.ensures ∙ c.in-Some-range.is) in
    ((λ t. both.0 (within.0 t)), (λ w. within.1 (both.1 w)))
