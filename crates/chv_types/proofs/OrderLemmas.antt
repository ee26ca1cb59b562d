-- The order of values, case by case.
use Rattle.std.proofs.Common.{◌≡◌, ℤ, List, ℕ, Bool, true, false, refl}
use Rattle.std.specs.Cmp.Lexicographic.{slice_cmp}
use Rattle.std.specs.Ordering.{nat_cmp, int_cmp, bool_cmp, ordering_then}
use Rattle.std.specs.declared.cmp.Ordering.{Ordering}
use Rattle.std.specs.declared.cmp.Ordering.TheVariants.{Less, Equal, Greater}
use Rattle.chv_types.specs.Order.{value_cmp}
use Rattle.chv_types.specs.declared.value.Value.TheVariants.{Whole, Truth, Text, State}

ordering_then-equal : (o : Ordering) → ordering_then o Equal ≡ o
ordering_then-equal Less = refl
ordering_then-equal Equal = refl
ordering_then-equal Greater = refl

pub value_cmp-whole : (m n : ℤ) → value_cmp (Whole m) (Whole n) ≡ int_cmp m n
unfolding value_cmp
value_cmp-whole m n = ordering_then-equal (int_cmp m n)

pub value_cmp-truth : (a b : Bool) → value_cmp (Truth a) (Truth b) ≡ bool_cmp a b
unfolding value_cmp
value_cmp-truth false false = refl
value_cmp-truth false true = refl
value_cmp-truth true false = refl
value_cmp-truth true true = refl

pub value_cmp-text : (a b : List ℕ) → value_cmp (Text a) (Text b) ≡ slice_cmp nat_cmp a b
unfolding value_cmp
value_cmp-text a b = refl

pub value_cmp-state : (a b : List ℕ) → value_cmp (State a) (State b) ≡ slice_cmp nat_cmp a b
unfolding value_cmp
value_cmp-state a b = refl

pub ruleset value_laws = (value_cmp-whole, value_cmp-truth, value_cmp-text, value_cmp-state)
