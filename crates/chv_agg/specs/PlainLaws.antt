-- Spellings of plain values read back.
use Rattle.std.proofs.Common.{◌≡◌, ℕ, ℤ, List, ◌++◌, drop, Bool, true, false, ◌⊎◌, inl, inr, refl, ap, subst, arith}
use Rattle.chv_bytes.specs.declared.integer.IntKind.TheVariants.{U8, U16, U32, U64, I8, I16, I32, I64}
use Rattle.chv_bytes.proofs.IntegerLemmas.{one_integer}
use Rattle.chv_bytes.proofs.RunLemmas.{one_run}
use Rattle.chv_types.specs.Fits.{IsOfScalar}
use Rattle.chv_types.specs.Kinds.{range_of, LiesIn}
use Rattle.chv_types.specs.declared.kind.Scalar.{Scalar}
use Rattle.chv_types.specs.declared.kind.Scalar.TheVariants as scalar
use Rattle.chv_types.specs.declared.value.Value.{Value}
use Rattle.chv_types.specs.declared.value.Value.TheVariants.{Whole, Truth, Text, State}
use Rattle.chv_agg.specs.Plain.{integers_of, whole_spelling, truth_spelling, scalar_spelling}

-- bytes begin with one integer of a kind at most
one_whole : (plain : Scalar) (m n : ℤ) (x y : List ℕ) → LiesIn (range_of plain) m → LiesIn (range_of plain) n
    → whole_spelling (integers_of plain) m ++ x ≡ whole_spelling (integers_of plain) n ++ y → (m ≡ n) × (x ≡ y)
one_whole scalar.UInt8 m n x y h k same = one_integer U8 m n x y (record { least = h.0; greatest = h.1 }) (record { least = k.0; greatest = k.1 }) same
one_whole scalar.UInt16 m n x y h k same = one_integer U16 m n x y (record { least = h.0; greatest = h.1 }) (record { least = k.0; greatest = k.1 }) same
one_whole scalar.UInt32 m n x y h k same = one_integer U32 m n x y (record { least = h.0; greatest = h.1 }) (record { least = k.0; greatest = k.1 }) same
one_whole scalar.UInt64 m n x y h k same = one_integer U64 m n x y (record { least = h.0; greatest = h.1 }) (record { least = k.0; greatest = k.1 }) same
one_whole scalar.Int8 m n x y h k same = one_integer I8 m n x y (record { least = h.0; greatest = h.1 }) (record { least = k.0; greatest = k.1 }) same
one_whole scalar.Int16 m n x y h k same = one_integer I16 m n x y (record { least = h.0; greatest = h.1 }) (record { least = k.0; greatest = k.1 }) same
one_whole scalar.Int32 m n x y h k same = one_integer I32 m n x y (record { least = h.0; greatest = h.1 }) (record { least = k.0; greatest = k.1 }) same
one_whole scalar.Int64 m n x y h k same = one_integer I64 m n x y (record { least = h.0; greatest = h.1 }) (record { least = k.0; greatest = k.1 }) same
one_whole scalar.Bool m n x y h k same = absurd h
one_whole scalar.Text m n x y h k same = absurd h

-- a kind of integers has neither truths nor texts
no_integers : (plain : Scalar) (n : ℤ) → LiesIn (range_of plain) n → (plain ≡ scalar.Bool) ⊎ (plain ≡ scalar.Text) → ⊥
no_integers plain n h (inl e) = subst (λ (s : Scalar). LiesIn (range_of s) n) e h
no_integers plain n h (inr e) = subst (λ (s : Scalar). LiesIn (range_of s) n) e h

-- bytes begin with one truth at most
one_truth : (a b : Bool) (x y : List ℕ) → truth_spelling a ++ x ≡ truth_spelling b ++ y → (a ≡ b) × (x ≡ y)
one_truth false false x y same = (refl, ap (drop 1) same)
one_truth true true x y same = (refl, ap (drop 1) same)
one_truth false true x y same = cc
one_truth true false x y same = cc

-- bytes begin with one value of a plain kind at most
pub one_scalar : (plain : Scalar) (a b : Value) (x y : List ℕ) → IsOfScalar plain a → IsOfScalar plain b
    → scalar_spelling plain a ++ x ≡ scalar_spelling plain b ++ y → (a ≡ b) × (x ≡ y)
one_scalar plain (Whole m) (Whole n) x y h k same = let e = one_whole plain m n x y h k same in (ap Whole e.0, e.1)
one_scalar plain (Whole m) (Truth b) x y h k same = absurd (no_integers plain m h (inl k))
one_scalar plain (Whole m) (Text b) x y h k same = absurd (no_integers plain m h (inr k.0))
one_scalar plain (Whole m) (State b) x y h k same = absurd k
one_scalar plain (Truth a) (Whole n) x y h k same = absurd (no_integers plain n k (inl h))
one_scalar plain (Truth a) (Truth b) x y h k same = let e = one_truth a b x y same in (ap Truth e.0, e.1)
one_scalar plain (Truth a) (Text b) x y h k same = cc
one_scalar plain (Truth a) (State b) x y h k same = absurd k
one_scalar plain (Text a) (Whole n) x y h k same = absurd (no_integers plain n k (inr h.0))
one_scalar plain (Text a) (Truth b) x y h k same = cc
one_scalar plain (Text a) (Text b) x y h k same = let e = one_run a b x y (omega (arith, h.1)) (omega (arith, k.1)) same in (ap Text e.0, e.1)
one_scalar plain (Text a) (State b) x y h k same = absurd k
one_scalar plain (State a) b x y h k same = absurd h
