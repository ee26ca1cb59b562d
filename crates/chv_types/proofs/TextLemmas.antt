-- The values of decimal digits.
use Rattle.std.proofs.Common.{◌≡◌, ◌<ℤ◌, ℕ, ℤ, pos, neg_ℤ, ◌+◌, ◌^◌, ◌<◌, ◌≤◌, List, [], ◌∷◌, length, drop, get_or, ap, ◌∙◌, arith, Some, None, Option, refl, sym, Bool, true, false, nat_lt, ◌⊎◌, inl, inr}
use Rattle.std.proofs.Math.ListN.{drop_of_length-le}
use Rattle.std.proofs.lemmas.Bool.Decides.{nat_tests}
use Rattle.std.proofs.lemmas.Bool.{ltb-true, ltb-false}
use Rattle.std.proofs.lemmas.Int.{ints}
use Rattle.std.proofs.lemmas.List.{drop_more}
use Rattle.std.specs.List.{fold}
use Rattle.std.specs.Option.{option_map, option_and_then}
use Rattle.chv_types.specs.Texts.{digits_number, with_digit, small, within}
use Rattle.chv_types.specs.declared.value.Value.{Value}

-- more digits never make a number less
grows : (digits : List ℕ) (n : ℕ) → n ≤ fold with_digit n digits
grows [] n = omega arith
grows (d ∷ digits) n = omega (arith, grows digits (with_digit n d))

-- a number that is left with more digits to come is at least what the next of them makes
pub with_digit-le-fold : (digits : List ℕ) (i n : ℕ) → i < length digits → fold with_digit 0 digits ≡ fold with_digit n (drop i digits)
    → with_digit n (get_or digits i 0) ≤ fold with_digit 0 digits
with_digit-le-fold digits i n h e =
    let split : fold with_digit 0 digits ≡ fold with_digit (with_digit n (get_or digits i 0)) (drop (i + 1) digits) = e ∙ ap (fold with_digit n) (drop_more digits i 0 h) in
    omega (arith, split, grows (drop (i + 1) digits) (with_digit n (get_or digits i 0)))

-- a number of more than 64 bits
pub small-great : (n : ℕ) → 2 ^ 64 ≤ n → small n ≡ None
unfolding small
small-great n h = grind (arith, nat_tests, h)

-- a number of 64 bits
pub small-below : (n : ℕ) → n < 2 ^ 64 → small n ≡ Some n
unfolding small
small-below n h = grind (arith, nat_tests, h)

-- nothing is left to read
pub small-read : (digits : List ℕ) (i n : ℕ) → length digits ≤ i → fold with_digit 0 digits ≡ fold with_digit n (drop i digits) → n < 2 ^ 64
    → small (fold with_digit 0 digits) ≡ Some n
unfolding small
small-read digits i n h e below =
    let same : fold with_digit 0 digits ≡ n = e ∙ ap (fold with_digit n) (drop_of_length-le digits h) in
    rw same (grind (arith, nat_tests, below))

-- numbers beyond a range give no value
pub within-above : (low high : ℤ) (n : ℕ) → high <ℤ pos (2 ^ 64) → 2 ^ 64 ≤ n → within (low, high) (pos n) ≡ None
unfolding within
within-above low high n h great = grind (arith, ints)

pub within-below : (low high : ℤ) (n : ℕ) → neg_ℤ (pos (2 ^ 64)) <ℤ low → 2 ^ 64 ≤ n → within (low, high) (neg_ℤ (pos n)) ≡ None
unfolding within
within-below low high n h great = grind (arith, ints)

-- a number of 64 bits, or a greater one
small-cases : (n : ℕ) → (small n ≡ Some n) ⊎ ((2 ^ 64 ≤ n) × (small n ≡ None))
small-cases n = by_bound (nat_lt n (2 ^ 64)) refl
  where
    by_bound : (b : Bool) → nat_lt n (2 ^ 64) ≡ b → (small n ≡ Some n) ⊎ ((2 ^ 64 ≤ n) × (small n ≡ None))
    by_bound true e = inl (small-below n (ltb-true n (2 ^ 64) e))
    by_bound false e = let great = ltb-false n (2 ^ 64) e in inr (great, small-great n great)

-- where greater numbers give nothing, it is enough to look at those of 64 bits
small_first : (f : ℕ → Option Value) → ((n : ℕ) → 2 ^ 64 ≤ n → f n ≡ None) → (found : Option ℕ) → option_and_then f found ≡ option_and_then f (option_and_then small found)
small_first f h None = refl
small_first f h (Some n) = by_size (small-cases n)
  where
    by_size : (small n ≡ Some n) ⊎ ((2 ^ 64 ≤ n) × (small n ≡ None)) → f n ≡ option_and_then f (small n)
    by_size (inl e) = rw e refl
    by_size (inr e) = rw (e.1, h n e.0) refl

mapped : (f : ℤ → Option Value) (k : ℕ → ℤ) (found : Option ℕ) → option_and_then f (option_map k found) ≡ option_and_then (λ n. f (k n)) found
mapped f k None = refl
mapped f k (Some n) = refl

-- digits give the value of their number, or none where it has more than 64 bits
pub plain : (low high : ℤ) (digits : List ℕ) (found : Option ℕ) → high <ℤ pos (2 ^ 64) → found ≡ option_and_then small (digits_number digits)
    → option_and_then (within (low, high)) (option_map pos (digits_number digits)) ≡ option_and_then (λ n. within (low, high) (pos n)) found
plain low high digits found bound e =
    mapped (within (low, high)) pos (digits_number digits)
    ∙ small_first (λ n. within (low, high) (pos n)) (λ n great. within-above low high n bound great) (digits_number digits)
    ∙ ap (option_and_then (λ n. within (low, high) (pos n))) (sym e)

pub minus : (low high : ℤ) (digits : List ℕ) (found : Option ℕ) → neg_ℤ (pos (2 ^ 64)) <ℤ low → found ≡ option_and_then small (digits_number digits)
    → option_and_then (within (low, high)) (option_map (λ n. neg_ℤ (pos n)) (digits_number digits)) ≡ option_and_then (λ n. within (low, high) (neg_ℤ (pos n))) found
minus low high digits found bound e =
    mapped (within (low, high)) (λ n. neg_ℤ (pos n)) (digits_number digits)
    ∙ small_first (λ n. within (low, high) (neg_ℤ (pos n))) (λ n great. within-below low high n bound great) (digits_number digits)
    ∙ ap (option_and_then (λ n. within (low, high) (neg_ℤ (pos n)))) (sym e)
