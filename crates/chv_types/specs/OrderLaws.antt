-- The order of values is total, and values that it does not tell apart are identical.
use Rattle.std.specs.Prelude.{◌≡◌, true, false}
use Rattle.std.specs.Cmp.{IsTotalOrder, then_total, on_total, nat_cmp_total, int_cmp_total}
use Rattle.std.specs.Cmp.Lexicographic.{slice_cmp, lists_total, nat_list_cmp_total}
use Rattle.std.specs.FinMap.{IsAntisymmetric, nat_cmp-IsAntisymmetric, int_cmp-IsAntisymmetric, slice_cmp-IsAntisymmetric}
use Rattle.std.specs.Ordering.{nat_cmp, int_cmp, ordering_then}
use Rattle.std.specs.declared.cmp.Ordering.{Ordering}
use Rattle.std.specs.declared.cmp.Ordering.TheVariants.{Less, Equal, Greater}
use Rattle.std.proofs.Common.{refl, ap}
use Rattle.chv_types.specs.Order.{rank, number, bytes, value_cmp, row_cmp}
use Rattle.chv_types.specs.declared.value.Value.{Value}
use Rattle.chv_types.specs.declared.value.Value.TheVariants.{Whole, Truth, Text, State}

pub value_cmp_total : IsTotalOrder value_cmp
unfolding value_cmp
value_cmp_total =
    then_total (on_total rank nat_cmp_total) (then_total (on_total number int_cmp_total) (on_total bytes nat_list_cmp_total))

-- neither of two orders tells apart what both together do not
both_equal : (first second : Ordering) → ordering_then first second ≡ Equal → (first ≡ Equal) × (second ≡ Equal)
both_equal Less second e = cc
both_equal Equal second e = (refl, e)
both_equal Greater second e = cc

-- a value is known by its rank, its number and its bytes
identical : (a b : Value) → rank a ≡ rank b → number a ≡ number b → bytes a ≡ bytes b → a ≡ b
identical (Whole m) (Whole n) r e s = ap Whole e
identical (Whole m) (Truth b) r e s = cc
identical (Whole m) (Text b) r e s = cc
identical (Whole m) (State b) r e s = cc
identical (Truth a) (Whole n) r e s = cc
identical (Truth false) (Truth false) r e s = refl
identical (Truth false) (Truth true) r e s = cc
identical (Truth true) (Truth false) r e s = cc
identical (Truth true) (Truth true) r e s = refl
identical (Truth a) (Text b) r e s = cc
identical (Truth a) (State b) r e s = cc
identical (Text a) (Whole n) r e s = cc
identical (Text a) (Truth b) r e s = cc
identical (Text a) (Text b) r e s = ap Text s
identical (Text a) (State b) r e s = cc
identical (State a) (Whole n) r e s = cc
identical (State a) (Truth b) r e s = cc
identical (State a) (Text b) r e s = cc
identical (State a) (State b) r e s = ap State s

pub value_cmp-IsAntisymmetric : IsAntisymmetric value_cmp
unfolding value_cmp
value_cmp-IsAntisymmetric a b e =
    let p : (nat_cmp (rank a) (rank b) ≡ Equal) × (ordering_then (int_cmp (number a) (number b)) (slice_cmp nat_cmp (bytes a) (bytes b)) ≡ Equal) = both_equal _ _ e in
    let q : (int_cmp (number a) (number b) ≡ Equal) × (slice_cmp nat_cmp (bytes a) (bytes b) ≡ Equal) = both_equal _ _ p.1 in
    identical a b (nat_cmp-IsAntisymmetric _ _ p.0) (int_cmp-IsAntisymmetric _ _ q.0) (slice_cmp-IsAntisymmetric nat_cmp-IsAntisymmetric _ _ q.1)

pub row_cmp_total : IsTotalOrder row_cmp
row_cmp_total = lists_total value_cmp_total

pub row_cmp-IsAntisymmetric : IsAntisymmetric row_cmp
row_cmp-IsAntisymmetric = slice_cmp-IsAntisymmetric value_cmp-IsAntisymmetric
