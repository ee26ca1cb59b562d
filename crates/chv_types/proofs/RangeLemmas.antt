-- One integer kind has each number of another where its range holds that of the other.
use Rattle.std.proofs.Common.{◌≡◌, ◌≤ℤ◌, ◌↔◌, ℤ, arith, rules, Some, None, Option, subst}
use Rattle.std.specs.Bool.{⊤}
use Rattle.std.proofs.lemmas.Int.{ints}
use Rattle.chv_types.specs.Kinds.{range_of, Widens}
use Rattle.chv_types.specs.declared.kind.Kind.TheVariants.{Plain}
use Rattle.chv_types.specs.declared.kind.Scalar.{Scalar}
use Rattle.chv_types.specs.declared.kind.Scalar.TheVariants as scalar

-- the least number of a range is not above its greatest
abbrev IsFilled : Option (ℤ × ℤ) → Type 0
IsFilled None = ⊤
IsFilled (Some range) = range.0 ≤ℤ range.1

range_of-filled : (kind : Scalar) → IsFilled (range_of kind)
range_of-filled scalar.UInt8 = search rules
range_of-filled scalar.UInt16 = search rules
range_of-filled scalar.UInt32 = search rules
range_of-filled scalar.UInt64 = search rules
range_of-filled scalar.Int8 = search rules
range_of-filled scalar.Int16 = search rules
range_of-filled scalar.Int32 = search rules
range_of-filled scalar.Int64 = search rules
range_of-filled scalar.Bool = search rules
range_of-filled scalar.Text = search rules

filled : (kind : Scalar) (low high : ℤ) → range_of kind ≡ Some (low, high) → low ≤ℤ high
filled kind low high e = subst IsFilled e (range_of-filled kind)

-- one range lies within another where each of its numbers does
within_by_numbers : (low high least greatest : ℤ) → low ≤ℤ high
    → ((least ≤ℤ low) × (high ≤ℤ greatest)) ↔ ((n : ℤ) → (low ≤ℤ n) × (n ≤ℤ high) → (least ≤ℤ n) × (n ≤ℤ greatest))
within_by_numbers low high least greatest f =
    ((λ h n m. (omega (arith, ints, h.0, m.0), omega (arith, ints, h.1, m.1))), (λ g. ((g low (omega (arith, ints), f)).0, (g high (f, omega (arith, ints))).1)))

pub Widens-ranges : (from to : Scalar) (low high least greatest : ℤ) → range_of from ≡ Some (low, high) → range_of to ≡ Some (least, greatest)
    → ((least ≤ℤ low) × (high ≤ℤ greatest)) ↔ Widens (Plain from) (Plain to)
Widens-ranges from to low high least greatest e f =
    let both = within_by_numbers low high least greatest (filled from low high e) in
    rw (e, f) ((λ h. (search rules, search rules, both.0 h)), (λ w. both.1 w.2))
