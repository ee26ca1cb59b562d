-- What operations give: docs/SQL.md, "Expressions". Where a divisor is zero there is no value.
use Rattle.std.specs.Prelude.{ℤ, pos, ◌+ℤ◌, ◌-ℤ◌, ◌*ℤ◌, int_div, int_rem, Bool, true, false, not, if◌then◌else◌, length, Option, None, Some}
use Rattle.std.specs.Int.{int_wrap, w64, cast_unsigned}
use Rattle.std.specs.Option.{option_map, option_and_then}
use Rattle.std.specs.Ordering.{is_eq, is_ne, is_lt, is_gt, is_le, is_ge, int_eq}
use Rattle.std.specs.declared.cmp.Ordering.{Ordering}
use Rattle.chv_types.specs.Order.{number, bytes, value_cmp}
use Rattle.chv_types.specs.declared.value.Value.{Value}
use Rattle.chv_types.specs.declared.value.Value.TheVariants.{Whole, Truth, Text, State}
use Rattle.chv_expr.specs.declared.tree.Comparison.{Comparison}
use Rattle.chv_expr.specs.declared.tree.Comparison.TheVariants.{Equal, Unequal, Less, LessEqual, Greater, GreaterEqual}
use Rattle.chv_expr.specs.declared.tree.Arithmetic.{Arithmetic}
use Rattle.chv_expr.specs.declared.tree.Arithmetic.TheVariants.{Plus, Minus, Times, Quotient, Remainder}

-- what follows from two values, where both are there
abbrev pub both : {A B C : Type 0} → (A → B → Option C) → Option A → Option B → Option C
both f a b = option_and_then (λ x. option_and_then (λ y. f x y) b) a

-- the number of 64 bits, with a sign or without, that is equal to a number modulo 2^64
unfoldable pub wrapped : Bool → ℤ → ℤ
wrapped false n = pos (cast_unsigned w64 (int_wrap w64 n))
wrapped true n = int_wrap w64 n

-- a number by another one, where that is not zero
unfoldable pub divided : (ℤ → ℤ → ℤ) → ℤ → ℤ → Option ℤ
divided by m n = if int_eq n (pos 0) then None else Some (by m n)

-- what two numbers give; division is towards zero, and what it leaves has the sign of the number that is divided
abbrev pub calculated : Arithmetic → ℤ → ℤ → Option ℤ
calculated Plus m n = Some (m +ℤ n)
calculated Minus m n = Some (m -ℤ n)
calculated Times m n = Some (m *ℤ n)
calculated Quotient m n = divided int_div m n
calculated Remainder m n = divided int_rem m n

-- whether a comparison holds of two values that stand so to each other
abbrev pub holds : Comparison → Ordering → Bool
holds Equal o = is_eq o
holds Unequal o = is_ne o
holds Less o = is_lt o
holds LessEqual o = is_le o
holds Greater o = is_gt o
holds GreaterEqual o = is_ge o

-- a value is the truth TRUE
abbrev pub is_true : Value → Bool
is_true (Whole n) = false
is_true (Truth truth) = truth
is_true (Text bytes) = false
is_true (State bytes) = false

-- arithmetic on two values
abbrev pub arithmetic : Arithmetic → Bool → Option Value → Option Value → Option Value
arithmetic operation signed = both (λ x y. option_map (λ n. Whole (wrapped signed n)) (calculated operation (number x) (number y)))

-- a comparison of two values
abbrev pub comparison : Comparison → Option Value → Option Value → Option Value
comparison test = both (λ x y. Some (Truth (holds test (value_cmp x y))))

-- the right side is looked at only where the left one is true
abbrev pub conjunction : Option Value → Option Value → Option Value
conjunction a b = option_and_then (λ x. if is_true x then b else Some (Truth false)) a

-- the right side is looked at only where the left one is false
abbrev pub disjunction : Option Value → Option Value → Option Value
disjunction a b = option_and_then (λ x. if is_true x then Some (Truth true) else b) a

abbrev pub negation : Option Value → Option Value
negation a = option_map (λ x. Truth (not (is_true x))) a

-- only the branch that is chosen is looked at
abbrev pub choice : Option Value → Option Value → Option Value → Option Value
choice test a b = option_and_then (λ x. if is_true x then a else b) test

-- a number of 64 bits, with a sign or without
abbrev pub widened : Bool → Option Value → Option Value
widened signed a = option_map (λ x. Whole (wrapped signed (number x))) a

-- the number of bytes of a text
abbrev pub text_length : Option Value → Option Value
text_length a = option_map (λ x. Whole (pos (length (bytes x)))) a
