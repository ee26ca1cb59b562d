-- What is spelled of each function's states reads back.
use Rattle.std.proofs.Common.{◌≡◌, ℕ, pos, ◌^◌, ◌<◌, List, [], ◌∷◌, ◌++◌, length, drop, append_assoc, refl, ap, ap₂, arith, sym, ◌∙◌}
use Rattle.std.proofs.lemmas.Int.{ints}
use Rattle.std.proofs.lemmas.List.Elements.{All-head, All-tail}
use Rattle.std.specs.Int.{to_le_bytes, w64}
use Rattle.std.specs.List.{All}
use Rattle.std.specs.declared.option.Option.{Option}
use Rattle.std.specs.declared.option.Option.TheVariants.{None, Some}
use Rattle.chv_bytes.proofs.IntegerLemmas.{one_integer}
use Rattle.chv_bytes.specs.Integers.{InRange}
use Rattle.chv_bytes.specs.declared.integer.IntKind.TheVariants.{U64, I64}
use Rattle.chv_types.specs.Fits.{IsOfScalar}
use Rattle.chv_types.specs.declared.kind.Scalar.{Scalar}
use Rattle.chv_types.specs.declared.value.Value.{Value}
use Rattle.chv_agg.specs.AggregateLaws.{has_few, IsSet, keeps_none, SpellingLaws}
use Rattle.chv_agg.specs.Functions.{signed_fits, unsigned_fits}
use Rattle.chv_agg.specs.Plain.{scalar_spelling, values_spelling}
use Rattle.chv_agg.specs.PlainLaws.{one_scalar}
use Rattle.chv_agg.specs.StateBytes.{found_bytes, set_bytes, signed_bytes, unsigned_bytes}
use Rattle.chv_agg.specs.States.{FitsFound}

in_range : (n : ℕ) → n < 2 ^ 64 → InRange U64 (pos n)
in_range n h = record { least = omega (arith, ints); greatest = omega (arith, ints, h) }

-- bytes begin with one number of 64 bits at most
one_number : (a b : ℕ) (x y : List ℕ) → a < 2 ^ 64 → b < 2 ^ 64 → to_le_bytes w64 a ++ x ≡ to_le_bytes w64 b ++ y → (a ≡ b) × (x ≡ y)
one_number a b x y small other same =
    let e = one_integer U64 (pos a) (pos b) x y (in_range a small) (in_range b other) same in (omega (arith, ints, e.0), e.1)

pub unsigned_spelling : SpellingLaws unsigned_fits keeps_none unsigned_bytes
unsigned_spelling = record { one = λ arg a b x y small few other many same. one_number a b x y small other same }

pub signed_spelling : SpellingLaws signed_fits keeps_none signed_bytes
signed_spelling = record {
  one = λ arg a b x y small few other many same.
      one_integer I64 a b x y (record { least = small.0; greatest = small.1 }) (record { least = other.0; greatest = other.1 }) same;
}

-- bytes begin with one value that was found at most, or with none
one_found : (arg : Scalar) (a b : Option Value) (x y : List ℕ) → FitsFound arg a → FitsFound arg b → found_bytes arg a ++ x ≡ found_bytes arg b ++ y → (a ≡ b) × (x ≡ y)
one_found arg None None x y of other same = (refl, ap (drop 1) same)
one_found arg None (Some b) x y of other same = cc
one_found arg (Some a) None x y of other same = cc
one_found arg (Some a) (Some b) x y of other same = let e = one_scalar arg a b x y of other (ap (drop 1) same) in (ap Some e.0, e.1)

pub found_spelling : SpellingLaws FitsFound keeps_none found_bytes
found_spelling = record { one = λ arg a b x y of few other many same. one_found arg a b x y of other same }

-- bytes begin with one list of so many values at most
one_list : (arg : Scalar) (a b : List Value) (x y : List ℕ) → All (IsOfScalar arg) a → All (IsOfScalar arg) b → length a ≡ length b
    → values_spelling arg a ++ x ≡ values_spelling arg b ++ y → (a ≡ b) × (x ≡ y)
one_list arg [] [] x y of other long same = (refl, same)
one_list arg [] (v ∷ b) x y of other long same = absurd (omega (arith, long))
one_list arg (u ∷ a) [] x y of other long same = absurd (omega (arith, long))
one_list arg (u ∷ a) (v ∷ b) x y of other long same =
    let first = one_scalar arg u v (values_spelling arg a ++ x) (values_spelling arg b ++ y) (All-head (IsOfScalar arg) u a of) (All-head (IsOfScalar arg) v b other)
    (sym (append_assoc (scalar_spelling arg u) (values_spelling arg a) x) ∙ same ∙ append_assoc (scalar_spelling arg v) (values_spelling arg b) y) in
    let others = one_list arg a b x y (All-tail (IsOfScalar arg) u a of) (All-tail (IsOfScalar arg) v b other) (omega (arith, long)) first.1 in
    (ap₂ (λ (w : Value) (ws : List Value). w ∷ ws) first.0 others.0, others.1)

one_set : (arg : Scalar) (a b : List Value) (x y : List ℕ) → IsSet arg a → has_few a → IsSet arg b → has_few b → set_bytes arg a ++ x ≡ set_bytes arg b ++ y → (a ≡ b) × (x ≡ y)
one_set arg a b x y of few other many same =
    let first = one_number (length a) (length b) (values_spelling arg a ++ x) (values_spelling arg b ++ y) few many
    (sym (append_assoc (to_le_bytes w64 (length a)) (values_spelling arg a) x) ∙ same ∙ append_assoc (to_le_bytes w64 (length b)) (values_spelling arg b) y) in
    one_list arg a b x y of.0 other.0 first.0 first.1

pub set_spelling : SpellingLaws IsSet has_few set_bytes
set_spelling = record { one = one_set }
