use Rattle.std.proofs.Common.{◌≡◌, ◌<◌, ◌^◌, drop}
use Rattle.std.specs.List.{fold}
use Rattle.chv_types.specs.Texts.{with_digit}
use Rattle.chv_types.proofs.text.decimal_number.Given as goal

abbrev pub invariant-loop-digit : goal.invariant-loop-digit
invariant-loop-digit l = record {
  value : fold with_digit 0 l.digits ≡ fold with_digit l.n (drop l.digit-index l.digits);
  small : l.n < 2 ^ 64;
}
