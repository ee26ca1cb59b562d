-- Each turn writes the last of the digits that are left.
use Rattle.std.proofs.Common.{◌≡◌, ℕ, suc, ◌-◌, ◌/◌, ◌%◌, ◌<◌, List, ◌++◌, length, drop, set, length-set, refl, sym, ◌∙◌, append_assoc, add-one, arith}
use Rattle.std.proofs.lemmas.List.{drop-set}
use Rattle.chv_text.specs.Rows.{hex_digit}
use Rattle.chv_engine.specs.DamageLines.{hex_digits}
use Rattle.chv_engine.proofs.damage.hash_digits.Goals as goal

-- the last digit of a number, in front of those that stand
hex_digits-step : (left width rest : ℕ) (digits : List ℕ) → width ≡ suc left → left < length digits
    → hex_digits left (rest / 16) ++ drop left (set digits left (hex_digit (rest % 16))) ≡ hex_digits width rest ++ drop width digits
unfolding hex_digits
hex_digits-step left width rest digits same lt =
    rw (drop-set digits left (hex_digit (rest % 16)) lt, same, add-one, append_assoc) refl

hex_digits-zero : (width rest : ℕ) (bytes : List ℕ) → width ≡ 0 → hex_digits width rest ++ drop width bytes ≡ bytes
unfolding hex_digits
hex_digits-zero width rest bytes none = rw none refl

pub loop-left-preserved : goal.loop-left-preserved
loop-left-preserved c = record {
  left = omega arith;
  len = length-set c.loop-left.digits (c.loop-left.left - 1) (hex_digit (c.loop-left.rest % 16)) ∙ c.loop-left.invariant.len;
  digits = hex_digits-step (c.loop-left.left - 1) c.loop-left.left c.loop-left.rest c.loop-left.digits (omega arith) (omega arith) ∙ c.loop-left.invariant.digits;
}

pub returns : goal.returns
returns c = sym (hex_digits-zero c.loop-left.left c.loop-left.rest c.loop-left.digits (omega arith)) ∙ c.loop-left.invariant.digits
