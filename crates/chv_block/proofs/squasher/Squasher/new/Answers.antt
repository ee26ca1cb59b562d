use Rattle.std.proofs.Common.{[], refl, arith, rules}
use Rattle.chv_block.proofs.squasher.Squasher.new.Goals as goal

pub returns : goal.returns
returns c = record {
  sizes_are = refl;
  group = [];
  piece = [];
  short = omega arith;
  in_piece = refl;
  rows = search rules;
  bytes = search rules;
  goes_on = λ more. refl;
}
