use Rattle.std.proofs.Common.{◌≡◌, ◌-◌, ◌<ℤ◌, subst, ℤ, pos, arith, get_or, length, rules, sym, to_z, of_z}
use Rattle.std.specs.Int.{w128}
use Rattle.std.specs.List.{All}
use Rattle.chv_group.proofs.ClimbLemmas.{position-above, position-at}
use Rattle.chv_group.proofs.climbing.place_at_end.Goals as goal

pub returns-then-is_above-clause-place : goal.returns-then-is_above-clause-place
returns-then-is_above-clause-place c =
    let climbing = c.args.climbing.now in
    let same : to_z w128 (of_z w128 c.args.n) ≡ c.args.n = search rules in
    let above : All (λ m. m <ℤ c.args.n) climbing = subst (λ (k : ℤ). All (λ m. m <ℤ k) climbing) same (c.is_above.ensures.above c.if-is_above.true) in
    sym (position-above c.args.n climbing above)

pub returns-then-climbing-last-clause-place : goal.returns-then-climbing-last-clause-place
returns-then-climbing-last-clause-place c =
    let climbing = c.args.climbing.now in
    let last : ℤ = get_or climbing (length climbing - 1) (pos 0) in
    let is : last ≡ c.args.n = search rules in
    sym (position-at c.args.n climbing (length climbing - 1) (pos 0) c.requires.climb (omega (arith, c.is_above.ensures.some c.if-is_above.false)) is)
