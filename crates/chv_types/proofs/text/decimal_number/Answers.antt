use Rattle.std.proofs.Common.{◌≤◌, ◌^◌, sym, arith}
use Rattle.std.specs.List.{fold}
use Rattle.chv_types.specs.Texts.{with_digit}
use Rattle.chv_types.proofs.TextLemmas.{with_digit-le-fold, small-great, small-read}
use Rattle.chv_types.proofs.text.decimal_number.Goals as goal

pub returns-in_err-checked_mul : goal.returns-in_err-checked_mul
returns-in_err-checked_mul c =
    let digits = c.args.digits.now in
    let next = with_digit-le-fold digits c.loop-digit.digit-index c.loop-digit.n c.loop-digit-test.true c.loop-digit.invariant.value in
    let great : 2 ^ 64 ≤ fold with_digit 0 digits = omega (arith, next, c.in_err-checked_mul.ensures) in
    rw (small-great (fold with_digit 0 digits) great) c.from_residual.ensures

pub returns-in_err-n : goal.returns-in_err-n
returns-in_err-n c =
    let digits = c.args.digits.now in
    let next = with_digit-le-fold digits c.loop-digit.digit-index c.loop-digit.n c.loop-digit-test.true c.loop-digit.invariant.value in
    let great : 2 ^ 64 ≤ fold with_digit 0 digits = omega (arith, next, c.in_ok-checked_mul.ensures, c.in_err-n.ensures, c.from.ensures, c.saturating_sub.ensures) in
    rw (small-great (fold with_digit 0 digits) great) c.from_residual-in_err-n.ensures

pub returns : goal.returns
returns c = sym (small-read c.args.digits.now c.loop-digit.digit-index c.loop-digit.n c.loop-digit-test.false c.loop-digit.invariant.value c.loop-digit.invariant.small)
