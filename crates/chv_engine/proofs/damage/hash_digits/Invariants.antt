-- The digits that are left to write, and those that stand.
use Rattle.std.proofs.Common.{◌≡◌, ◌≤◌, ◌++◌, length, drop}
use Rattle.chv_engine.specs.DamageLines.{hex_digits}
use Rattle.chv_engine.proofs.damage.hash_digits.Given as goal

abbrev pub invariant-loop-left : goal.invariant-loop-left
invariant-loop-left l = record {
  left : l.left ≤ 16;
  len : length l.digits ≡ 16;
  digits : hex_digits l.left l.rest ++ drop l.left l.digits ≡ hex_digits 16 l.hash;
}

abbrev pub decreases-loop-left : goal.decreases-loop-left
decreases-loop-left l = l.left
