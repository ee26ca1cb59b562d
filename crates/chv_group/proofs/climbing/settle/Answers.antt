use Rattle.std.proofs.Common.{◌≡◌, [], arith, rules}
use Rattle.std.specs.Int.{w128}
use Rattle.std.specs.Int.RustNames.{FitsSigned}
use Rattle.chv_group.proofs.ClimbLemmas.{All-front}
use Rattle.chv_group.proofs.climbing.settle.Goals as goal

pub returns-clause-kept : goal.returns-clause-kept
returns-clause-kept c =
    let climbing = c.args.climbing.now.items in
    let cleared : c.clear.new.self.items ≡ [] = search rules in
    let moved : c.in_ok-numbers.field-0.keys ≡ climbing = search rules in
    rw (cleared, moved) (record {
      fit = All-front (FitsSigned w128) climbing c.args.numbers.now.keys c.requires.kept.fit;
      climb = tt;
      alone = λ some. absurd (omega (arith, some));
    })
