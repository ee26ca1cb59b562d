-- What sums keep to.
use Rattle.std.proofs.Common.{◌≡◌, ℕ, ℤ, pos, ◌+ℤ◌, ◌^◌, ◌<◌, List, [], ◌∷◌, refl, sym, ap, ◌∙◌, arith}
use Rattle.std.proofs.lemmas.Int.{int_wrap-add_left, int_wrap-add_right, int_wrap_fits, of_z-to_z, SFits-int_wrap, wrapping_add_is, ints}
use Rattle.std.specs.Int.{w64, int_wrap, cast_unsigned}
use Rattle.std.specs.Prelude.{FitsSigned}
use Rattle.chv_agg.specs.AggregateLaws.{AggregateLaws, IsSigned, IsUnsigned, state_from}
use Rattle.chv_agg.specs.CountLaws.{unsigned_join-assoc, unsigned_join-comm}
use Rattle.chv_agg.specs.FoldLaws.{state_from-cons}
use Rattle.chv_agg.specs.Functions.{signed_fits, signed_join, signed_one, unsigned_fits, unsigned_join, unsigned_one}
use Rattle.chv_agg.specs.Lists.{total}
use Rattle.chv_agg.specs.States.{signed_of, unsigned_of}
use Rattle.chv_types.specs.Order.{number}
use Rattle.chv_types.specs.declared.value.Value.{Value}

pub signed_of-fits : (n : ℤ) → IsSigned (signed_of n)
signed_of-fits n = let fits : FitsSigned w64 (int_wrap w64 n) = SFits-int_wrap w64 n in (omega (arith, ints, fits), omega (arith, ints, fits))

signed_of-same : (n : ℤ) → IsSigned n → signed_of n ≡ n
signed_of-same n fits = int_wrap_fits w64 n (omega (arith, ints, fits.0, fits.1))

pub signed_of-sum : (m n : ℤ) → signed_of (signed_of m +ℤ signed_of n) ≡ signed_of (m +ℤ n)
signed_of-sum m n = int_wrap-add_left w64 m (int_wrap w64 n) ∙ int_wrap-add_right w64 m n

pub unsigned_of-sum : (m n : ℤ) → unsigned_join (unsigned_of m) (unsigned_of n) ≡ unsigned_of (m +ℤ n)
unsigned_of-sum m n =
    let sum : ℕ = unsigned_join (unsigned_of m) (unsigned_of n) in
    let small : sum < 2 ^ 64 = omega arith in
    sym (of_z-to_z w64 sum small)
    ∙ ap (cast_unsigned w64) (wrapping_add_is w64 (int_wrap w64 m) (int_wrap w64 n) (SFits-int_wrap w64 m) (SFits-int_wrap w64 n))
    ∙ ap (cast_unsigned w64) (signed_of-sum m n)

pub unsigned_of-fits : (n : ℤ) → IsUnsigned (unsigned_of n)
unsigned_of-fits n =
    let more : n +ℤ pos 0 ≡ n = omega (arith, ints) in
    let same : unsigned_join (unsigned_of n) (unsigned_of (pos 0)) ≡ unsigned_of n = unsigned_of-sum n (pos 0) ∙ ap unsigned_of more in
    omega (arith, same)

pub signed_join-assoc : (a b c : ℤ) → signed_join (signed_join a b) c ≡ signed_join a (signed_join b c)
signed_join-assoc a b c =
    let turned : (a +ℤ b) +ℤ c ≡ a +ℤ (b +ℤ c) = omega (arith, ints) in
    int_wrap-add_left w64 (a +ℤ b) c ∙ ap (int_wrap w64) turned ∙ sym (int_wrap-add_right w64 a (b +ℤ c))

pub signed_join-comm : (a b : ℤ) → signed_join a b ≡ signed_join b a
signed_join-comm a b = let turned : a +ℤ b ≡ b +ℤ a = omega (arith, ints) in ap (int_wrap w64) turned

pub unsigned_sum_laws : AggregateLaws unsigned_fits 0 unsigned_one unsigned_join
unsigned_sum_laws = record {
  assoc = unsigned_join-assoc;
  comm = unsigned_join-comm;
  identity = λ arg a fits. omega arith;
  fits_unit = λ arg. omega arith;
  fits_one = λ arg value of. unsigned_of-fits (number value);
  closed = λ arg a b first second. omega arith;
}

pub signed_sum_laws : AggregateLaws signed_fits (pos 0) signed_one signed_join
signed_sum_laws = record {
  assoc = signed_join-assoc;
  comm = signed_join-comm;
  identity = λ arg a fits. let none : pos 0 +ℤ a ≡ a = omega (arith, ints) in ap signed_of none ∙ signed_of-same a fits;
  fits_unit = λ arg. (omega (arith, ints), omega (arith, ints));
  fits_one = λ arg value of. signed_of-fits (number value);
  closed = λ arg a b first second. signed_of-fits (a +ℤ b);
}

unsigned_none : 0 ≡ unsigned_of (pos 0)
unfolding int_wrap
unsigned_none = refl

pub unsigned_sum_state : (values : List Value) → state_from 0 unsigned_one unsigned_join values ≡ unsigned_of (total values)
unsigned_sum_state [] = unsigned_none
unsigned_sum_state (value ∷ values) =
    state_from-cons unsigned_join unsigned_join-assoc unsigned_join-comm 0 unsigned_one value values
    ∙ ap (unsigned_join (unsigned_of (number value))) (unsigned_sum_state values)
    ∙ unsigned_of-sum (number value) (total values)

pub signed_sum_state : (values : List Value) → state_from (pos 0) signed_one signed_join values ≡ signed_of (total values)
signed_sum_state [] = sym (signed_of-same (pos 0) (omega (arith, ints), omega (arith, ints)))
signed_sum_state (value ∷ values) =
    state_from-cons signed_join signed_join-assoc signed_join-comm (pos 0) signed_one value values
    ∙ ap (signed_join (signed_of (number value))) (signed_sum_state values)
    ∙ signed_of-sum (number value) (total values)
