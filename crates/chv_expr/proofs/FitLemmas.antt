-- What operations give is of its kind.
use Rattle.std.specs.Prelude.{ℕ, ℤ, pos, ◌≡◌, ◌<◌, ◌^◌, ◌≤ℤ◌, Bool, true, false, List, [], ◌∷◌, zero, suc, length, slice_get, Option, None, Some, IfSome, FitsSigned, if◌then◌else◌}
use Rattle.std.specs.Int.{w64, int_wrap, cast_unsigned}
use Rattle.std.specs.Option.{option_map}
use Rattle.std.proofs.Common.{refl, arith, subst}
use Rattle.std.proofs.Math.Facts.{Fits-of_z}
use Rattle.std.proofs.lemmas.Int.{ints, SFits-int_wrap}
use Rattle.chv_types.specs.Fits.{Fits, FitAll}
use Rattle.chv_types.specs.Order.{number}
use Rattle.chv_types.specs.declared.kind.Kind.{Kind}
use Rattle.chv_types.specs.declared.kind.Kind.TheVariants as kind
use Rattle.chv_types.specs.declared.kind.Scalar.{Scalar}
use Rattle.chv_types.specs.declared.kind.Scalar.TheVariants as scalar
use Rattle.chv_types.specs.declared.value.Value.{Value}
use Rattle.chv_types.specs.declared.value.Value.TheVariants.{Whole, Truth, Text, State}
use Rattle.chv_expr.specs.Kinds.{wide}
use Rattle.chv_expr.specs.Terms.{value_at}
use Rattle.chv_expr.specs.Values.{wrapped, calculated, is_true, arithmetic, comparison, conjunction, disjunction, negation, choice, widened, text_length}
use Rattle.chv_expr.specs.declared.tree.Arithmetic.{Arithmetic}
use Rattle.chv_expr.specs.declared.tree.Comparison.{Comparison}

-- a value, where there is one, is of a kind of plain values
abbrev pub IsPlainly : Scalar → Option Value → Type 0
IsPlainly plain value = IfSome value (Fits (kind.Plain plain))

fits-unsigned : (n : ℤ) → FitsSigned w64 n → pos (cast_unsigned w64 n) ≤ℤ pos 18446744073709551615
fits-unsigned n f = let below = Fits-of_z {w = w64} {z = n} f in omega (arith, ints, below)

fits-signed : (n : ℤ) → FitsSigned w64 n → Fits (kind.Plain scalar.Int64) (Whole n)
fits-signed n f = (omega (arith, ints), omega (arith, ints))

-- a number of 64 bits is of the kind of what is calculated
pub fits-wrapped : (signed : Bool) (n : ℤ) → Fits (kind.Plain (wide signed)) (Whole (wrapped signed n))
unfolding wrapped
fits-wrapped false n = (omega (arith, ints), fits-unsigned (int_wrap w64 n) (SFits-int_wrap w64 n))
fits-wrapped true n = fits-signed (int_wrap w64 n) (SFits-int_wrap w64 n)

fits-calculated : (signed : Bool) (n : Option ℤ) → IsPlainly (wide signed) (option_map (λ n. Whole (wrapped signed n)) n)
fits-calculated signed None = tt
fits-calculated signed (Some n) = fits-wrapped signed n

pub fits-arithmetic : (operation : Arithmetic) (signed : Bool) (a b : Option Value) → IsPlainly (wide signed) (arithmetic operation signed a b)
fits-arithmetic operation signed None b = tt
fits-arithmetic operation signed (Some x) None = tt
fits-arithmetic operation signed (Some x) (Some y) = fits-calculated signed (calculated operation (number x) (number y))

pub fits-widened : (signed : Bool) (a : Option Value) → IsPlainly (wide signed) (widened signed a)
fits-widened signed None = tt
fits-widened signed (Some x) = fits-wrapped signed (number x)

pub fits-comparison : (test : Comparison) (a b : Option Value) → IsPlainly scalar.Bool (comparison test a b)
fits-comparison test None b = tt
fits-comparison test (Some x) None = tt
fits-comparison test (Some x) (Some y) = refl

pub fits-negation : (a : Option Value) → IsPlainly scalar.Bool (negation a)
fits-negation None = tt
fits-negation (Some x) = refl

-- of two, whichever is chosen
fits-chosen : (k : Kind) (chosen : Bool) (a b : Option Value) → IfSome a (Fits k) → IfSome b (Fits k) → IfSome (if chosen then a else b) (Fits k)
fits-chosen k true a b f g = f
fits-chosen k false a b f g = g

pub fits-choice : (k : Kind) (test a b : Option Value) → IfSome a (Fits k) → IfSome b (Fits k) → IfSome (choice test a b) (Fits k)
fits-choice k None a b f g = tt
fits-choice k (Some x) a b f g = fits-chosen k (is_true x) a b f g

pub fits-conjunction : (a b : Option Value) → IsPlainly scalar.Bool b → IsPlainly scalar.Bool (conjunction a b)
fits-conjunction a b g = fits-choice (kind.Plain scalar.Bool) a b (Some (Truth false)) g refl

pub fits-disjunction : (a b : Option Value) → IsPlainly scalar.Bool b → IsPlainly scalar.Bool (disjunction a b)
fits-disjunction a b g = fits-choice (kind.Plain scalar.Bool) a (Some (Truth true)) b refl g

-- a number below 2^64 is of the kind UInt64
pub fits-small : (n : ℕ) → n < 2 ^ 64 → Fits (kind.Plain scalar.UInt64) (Whole (pos n))
fits-small n h = (omega (arith, ints), omega (arith, ints))

pub fits-text_length : (a : Option Value) → IsPlainly scalar.Text a → IsPlainly scalar.UInt64 (text_length a)
fits-text_length None f = tt
fits-text_length (Some (Whole n)) f = absurd f
fits-text_length (Some (Truth truth)) f = absurd (cc)
fits-text_length (Some (Text text)) f = fits-small (length text) (omega (arith, f.1))
fits-text_length (Some (State spelling)) f = absurd f

-- the value of a place is of the kind of that place
pub fits-value_at : (kinds : List Kind) (row : List Value) (place : ℕ) (k : Kind)
    → FitAll kinds row → slice_get kinds place ≡ Some k → Fits k (value_at place row)
fits-value_at [] [] place k f e = absurd (cc)
fits-value_at [] (x ∷ row) place k f e = absurd f
fits-value_at (kind ∷ kinds) [] place k f e = absurd f
fits-value_at (kind ∷ kinds) (x ∷ row) zero k f e = let same : kind ≡ k = cc in subst (λ k. Fits k x) same f.0
fits-value_at (kind ∷ kinds) (x ∷ row) (suc place) k f e = fits-value_at kinds row place k f.1 e
