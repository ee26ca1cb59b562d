use Rattle.std.proofs.Common.{refl, SFits}
use Rattle.std.specs.Int.{w128}
use Rattle.std.proofs.lemmas.Int.{to_z-of_z}
use Rattle.chv_types.proofs.TextLemmas.{minus}
use Rattle.chv_types.proofs.text.parse_minus.Goals as goal

pub returns-in-Some : goal.returns-in-Some
returns-in-Some c =
    let reads = minus c.args.low c.args.high c.args.digits.now c.whole_number.result c.requires c.whole_number.ensures in
    let low : SFits w128 c.args.low = c.ranges.low in
    let high : SFits w128 c.args.high = c.ranges.high in
    rw (reads, c.in-Some.is) (simp to_z-of_z at c.minus_in_range.ensures)

pub returns-in-None : goal.returns-in-None
returns-in-None c =
    let reads = minus c.args.low c.args.high c.args.digits.now c.whole_number.result c.requires c.whole_number.ensures in
    rw (reads, c.in-None.is) refl
