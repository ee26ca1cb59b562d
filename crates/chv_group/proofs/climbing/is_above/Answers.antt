use Rattle.std.proofs.Common.{◌≡◌, ◌<ℤ◌, ◌-◌, ℤ, pos, arith, get_or, length, rules, to_z, of_z}
use Rattle.std.proofs.lemmas.Int.{ints}
use Rattle.std.specs.Int.{w128}
use Rattle.chv_group.proofs.ClimbLemmas.{above-last}
use Rattle.chv_group.proofs.climbing.is_above.Goals as goal

pub returns-clause-above : goal.returns-clause-above
returns-clause-above c = λ yes.
    let climbing = c.args.climbing.now in
    let last : ℤ = get_or climbing (length climbing - 1) (pos 0) in
    let same : to_z w128 (of_z w128 last) ≡ last = search rules in
    let own : to_z w128 (of_z w128 c.args.n) ≡ c.args.n = search rules in
    let below : last <ℤ c.args.n = omega (arith, ints, yes, same, own) in
    above-last c.args.n climbing (length climbing - 1) (pos 0) c.requires.climb (omega (arith, c.if-count-eq0.false)) below
