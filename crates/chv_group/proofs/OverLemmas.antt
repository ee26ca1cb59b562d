-- States stay those of their function.
use Rattle.std.proofs.Common.{◌≡◌, ℕ, ℤ, pos, negsuc, ◌+◌, ◌+ℤ◌, ◌%◌, ◌^◌, ◌<◌, true, false, List, [], ◌++◌, get_or, if◌then◌else◌, Option, None, Some, Less, Equal, Greater, refl, sym, subst, Result, Ok, Err, OnOk, ◌∙◌, ◌⊎◌, inl, inr, arith}
use Rattle.std.proofs.lemmas.Int.{ints, SFits-int_wrap}
use Rattle.std.proofs.lemmas.List.Elements.{All-nil, All-cons, All-append, All-contains, Contains-get_or}
use Rattle.std.specs.Int.{cast_unsigned, int_wrap, w64}
use Rattle.std.specs.Int.RustNames.{FitsSigned}
use Rattle.std.specs.List.{All}
use Rattle.chv_agg.specs.StateBytes.{state_in}
use Rattle.chv_agg.specs.States.{FitsFound, FitsState, IsOver, either_by, higher, is_signed, join, lower, one_like, unit_of, unsigned_of}
use Rattle.chv_agg.specs.declared.any_agg.AnyAgg.{AnyAgg}
use Rattle.chv_agg.specs.declared.any_agg.AnyAgg.TheVariants.{Count, SumU, SumI, Least, Greatest, Uniq}
use Rattle.chv_types.proofs.MemberLemmas.{members-Rises, members-HaveSame}
use Rattle.chv_types.specs.Fits.{IsOfScalar}
use Rattle.chv_types.specs.Members.{by_order, members, Rises}
use Rattle.chv_group.specs.Groups.{TakesValue}
use Rattle.chv_group.specs.declared.call.AggCall.{AggCall}
use Rattle.chv_types.specs.Order.{number, value_cmp}
use Rattle.chv_types.specs.OrderLaws.{value_cmp_total, value_cmp-IsAntisymmetric}
use Rattle.chv_types.specs.declared.aggregate.AggName.{AggName}
use Rattle.chv_types.specs.declared.aggregate.AggName.TheVariants as agg
use Rattle.chv_types.specs.declared.kind.Scalar.{Scalar}
use Rattle.chv_types.specs.declared.value.Value.{Value}

-- a state of a count is a number
count_form : (arg : Scalar) (state : AnyAgg) → IsOver agg.Count arg state → (n : ℕ) × (state ≡ Count n) × (n < 2 ^ 64)
count_form arg (Count n) h = (n, refl, h)
count_form arg (SumU n) h = absurd h
count_form arg (SumI n) h = absurd h
count_form arg (Least found) h = absurd h
count_form arg (Greatest found) h = absurd h
count_form arg (Uniq values) h = absurd h

-- one of the least has a value, or none
least_form : (arg : Scalar) (state : AnyAgg) → IsOver agg.Min arg state → (found : Option Value) × (state ≡ Least found) × (FitsFound arg found)
least_form arg (Count n) h = absurd h
least_form arg (SumU n) h = absurd h
least_form arg (SumI n) h = absurd h
least_form arg (Least found) h = (found, refl, h)
least_form arg (Greatest found) h = absurd h
least_form arg (Uniq values) h = absurd h

-- one of the greatest likewise
greatest_form : (arg : Scalar) (state : AnyAgg) → IsOver agg.Max arg state → (found : Option Value) × (state ≡ Greatest found) × (FitsFound arg found)
greatest_form arg (Count n) h = absurd h
greatest_form arg (SumU n) h = absurd h
greatest_form arg (SumI n) h = absurd h
greatest_form arg (Least found) h = absurd h
greatest_form arg (Greatest found) h = (found, refl, h)
greatest_form arg (Uniq values) h = absurd h

-- one of the number of different values has those
uniq_form : (arg : Scalar) (state : AnyAgg) → IsOver agg.UniqExact arg state → (values : List Value) × (state ≡ Uniq values) × (All (IsOfScalar arg) values × Rises value_cmp values)
uniq_form arg (Count n) h = absurd h
uniq_form arg (SumU n) h = absurd h
uniq_form arg (SumI n) h = absurd h
uniq_form arg (Least found) h = absurd h
uniq_form arg (Greatest found) h = absurd h
uniq_form arg (Uniq values) h = (values, refl, h)

-- one of a sum is a number of the sign of its kind
sum_form : (arg : Scalar) (state : AnyAgg) → IsOver agg.Sum arg state
    → ((n : ℕ) × (state ≡ SumU n) × (is_signed arg ≡ false) × (n < 2 ^ 64)) ⊎ ((n : ℤ) × (state ≡ SumI n) × (is_signed arg ≡ true))
sum_form arg (Count n) h = absurd h
sum_form arg (SumU n) h = inl (n, refl, h.0, h.1)
sum_form arg (SumI n) h = inr (n, refl, h.0)
sum_form arg (Least found) h = absurd h
sum_form arg (Greatest found) h = absurd h
sum_form arg (Uniq values) h = absurd h

bits_below : (z : ℤ) → FitsSigned w64 z → cast_unsigned w64 z < 2 ^ 64
bits_below (pos n) h = omega (arith, ints, h)
bits_below (negsuc n) h = omega (arith, ints, h)

unsigned_below : (z : ℤ) → unsigned_of z < 2 ^ 64
unsigned_below z = bits_below (int_wrap w64 z) (SFits-int_wrap w64 z)

-- a number without sign is below 2^64, and one with sign has 64 bits
unsigned_over : (arg : Scalar) (n : ℕ) → is_signed arg ≡ false → n < 2 ^ 64 → IsOver agg.Sum arg (SumU n)
unsigned_over arg n sign below = (sign, below)

signed_over : (arg : Scalar) (n : ℤ) → is_signed arg ≡ true → IsOver agg.Sum arg (SumI (int_wrap w64 n))
signed_over arg n sign = (sign, omega (arith, ints, SFits-int_wrap w64 n), omega (arith, ints, SFits-int_wrap w64 n))

-- of two values one is taken
either_lower : (arg : Scalar) (a b : Option Value) → FitsFound arg a → FitsFound arg b → FitsFound arg (either_by lower a b)
either_lower arg None b h k = k
either_lower arg (Some a) None h k = h
either_lower arg (Some a) (Some b) h k = elim (value_cmp a b) as (λ o. IsOfScalar arg (by_order o a a b)) [ Less ↦ h | Equal ↦ h | Greater ↦ k ]

either_higher : (arg : Scalar) (a b : Option Value) → FitsFound arg a → FitsFound arg b → FitsFound arg (either_by higher a b)
either_higher arg None b h k = k
either_higher arg (Some a) None h k = h
either_higher arg (Some a) (Some b) h k = elim (value_cmp a b) as (λ o. IsOfScalar arg (by_order o b a a)) [ Less ↦ k | Equal ↦ h | Greater ↦ h ]

-- the values of two sets are those of both
members_fit : (arg : Scalar) (values : List Value) → All (IsOfScalar arg) values → All (IsOfScalar arg) (members value_cmp values)
members_fit arg values fit k d within =
    All-contains (IsOfScalar arg) values (get_or (members value_cmp values) k d) fit
    ((members-HaveSame value_cmp value_cmp_total value_cmp-IsAntisymmetric values (get_or (members value_cmp values) k d)).1
    (Contains-get_or (members value_cmp values) k d within))

sum_join : (arg : Scalar) (a b : AnyAgg)
    → ((n : ℕ) × (a ≡ SumU n) × (is_signed arg ≡ false) × (n < 2 ^ 64)) ⊎ ((n : ℤ) × (a ≡ SumI n) × (is_signed arg ≡ true))
    → ((n : ℕ) × (b ≡ SumU n) × (is_signed arg ≡ false) × (n < 2 ^ 64)) ⊎ ((n : ℤ) × (b ≡ SumI n) × (is_signed arg ≡ true))
    → IsOver agg.Sum arg (join a b)
unfolding join
sum_join arg a b (inl (m, f, sign, below)) (inl (n, g, other, under)) = rw (f, g) (unsigned_over arg ((m + n) % 2 ^ 64) sign (omega arith))
sum_join arg a b (inl (m, f, sign, below)) (inr (n, g, other)) = let apart : false ≡ true = sym sign ∙ other in cc
sum_join arg a b (inr (m, f, sign)) (inl (n, g, other, under)) = let apart : false ≡ true = sym other ∙ sign in cc
sum_join arg a b (inr (m, f, sign)) (inr (n, g, other)) = rw (f, g) (signed_over arg (m +ℤ n) sign)

-- two states of a function joined are one of it
pub join-IsOver : (agg : AggName) (arg : Scalar) (a b : AnyAgg) → IsOver agg arg a → IsOver agg arg b → IsOver agg arg (join a b)
unfolding join
join-IsOver agg.Count arg a b h k =
    let p = count_form arg a h in let q = count_form arg b k in
    rw (p.1, q.1) (omega arith)
join-IsOver agg.Sum arg a b h k = sum_join arg a b (sum_form arg a h) (sum_form arg b k)
join-IsOver agg.Min arg a b h k =
    let p = least_form arg a h in let q = least_form arg b k in
    rw (p.1, q.1) (either_lower arg p.0 q.0 p.2 q.2)
join-IsOver agg.Max arg a b h k =
    let p = greatest_form arg a h in let q = greatest_form arg b k in
    rw (p.1, q.1) (either_higher arg p.0 q.0 p.2 q.2)
join-IsOver agg.UniqExact arg a b h k =
    let p = uniq_form arg a h in let q = uniq_form arg b k in
    rw (p.1, q.1) (
      members_fit arg (p.0 ++ q.0) (All-append (IsOfScalar arg) p.0 q.0 p.2.0 q.2.0),
      members-Rises value_cmp value_cmp_total value_cmp-IsAntisymmetric (p.0 ++ q.0),
    )

sum_like : (arg : Scalar) (value : Value) (state : AnyAgg)
    → ((n : ℕ) × (state ≡ SumU n) × (is_signed arg ≡ false) × (n < 2 ^ 64)) ⊎ ((n : ℤ) × (state ≡ SumI n) × (is_signed arg ≡ true))
    → one_like state value ≡ one_like (unit_of agg.Sum arg) value
sum_like arg value state (inl (n, f, sign, below)) = rw (f, sign) refl
sum_like arg value state (inr (n, f, sign)) = rw (f, sign) refl

-- one value gives the same state by any state of a function
pub one_like-IsOver : (agg : AggName) (arg : Scalar) (state : AnyAgg) (value : Value) → IsOver agg arg state
    → one_like state value ≡ one_like (unit_of agg arg) value
one_like-IsOver agg.Count arg state value h = rw (count_form arg state h).1 refl
one_like-IsOver agg.Sum arg state value h = sum_like arg value state (sum_form arg state h)
one_like-IsOver agg.Min arg state value h = rw (least_form arg state h).1 refl
one_like-IsOver agg.Max arg state value h = rw (greatest_form arg state h).1 refl
one_like-IsOver agg.UniqExact arg state value h = rw (uniq_form arg state h).1 refl

sum_unit : (arg : Scalar) → IsOver agg.Sum arg (unit_of agg.Sum arg)
sum_unit arg = elim (is_signed arg) as (λ b. is_signed arg ≡ b → IsOver agg.Sum arg (if b then SumI (pos 0) else SumU 0)) [
  | true ↦ λ e. (e, omega (arith, ints), omega (arith, ints))
  | false ↦ λ e. (e, omega arith)
] refl

sum_one : (arg : Scalar) (value : Value) → IsOver agg.Sum arg (one_like (unit_of agg.Sum arg) value)
sum_one arg value = elim (is_signed arg) as (λ b. is_signed arg ≡ b → IsOver agg.Sum arg (one_like (if b then SumI (pos 0) else SumU 0) value)) [
  | true ↦ λ e. signed_over arg (number value) e
  | false ↦ λ e. unsigned_over arg (unsigned_of (number value)) e (unsigned_below (number value))
] refl

-- the state of no values is one of its function
pub unit_of-IsOver : (agg : AggName) (arg : Scalar) → IsOver agg arg (unit_of agg arg)
unit_of-IsOver agg.Count arg = omega arith
unit_of-IsOver agg.Sum arg = sum_unit arg
unit_of-IsOver agg.Min arg = tt
unit_of-IsOver agg.Max arg = tt
unit_of-IsOver agg.UniqExact arg = (All-nil (IsOfScalar arg), tt)

-- that of one value that the function takes too
pub one_like_unit-IsOver : (agg : AggName) (arg : Scalar) (value : Value) → TakesValue agg arg value → IsOver agg arg (one_like (unit_of agg arg) value)
one_like_unit-IsOver agg.Count arg value h = omega arith
one_like_unit-IsOver agg.Sum arg value h = sum_one arg value
one_like_unit-IsOver agg.Min arg value h = h
one_like_unit-IsOver agg.Max arg value h = h
one_like_unit-IsOver agg.UniqExact arg value h = (All-cons (IsOfScalar arg) value [] h (All-nil (IsOfScalar arg)), (All-nil (λ w. value_cmp value w ≡ Less), tt))

-- one that has fewer values than 2^64 or not
pub IsOver-from_fits : (agg : AggName) (arg : Scalar) (state : AnyAgg) → FitsState agg arg state → IsOver agg arg state
IsOver-from_fits agg.Count arg state h = h
IsOver-from_fits agg.Sum arg state h = h
IsOver-from_fits agg.Min arg state h = h
IsOver-from_fits agg.Max arg state h = h
IsOver-from_fits agg.UniqExact arg (Count n) h = absurd h
IsOver-from_fits agg.UniqExact arg (SumU n) h = absurd h
IsOver-from_fits agg.UniqExact arg (SumI n) h = absurd h
IsOver-from_fits agg.UniqExact arg (Least found) h = absurd h
IsOver-from_fits agg.UniqExact arg (Greatest found) h = absurd h
IsOver-from_fits agg.UniqExact arg (Uniq values) h = (h.0, h.1)

-- a state that takes one value more, or the values of a state by its bytes, stays one of its function
pub add-IsOver : (call : AggCall) (old new : AnyAgg) (value : Value) → IsOver call.agg call.arg old → TakesValue call.agg call.arg value
    → new ≡ join old (one_like old value) → IsOver call.agg call.arg new
add-IsOver call old new value over takes is =
    let one : IsOver call.agg call.arg (one_like old value) =
    subst (IsOver call.agg call.arg) (sym (one_like-IsOver call.agg call.arg old value over)) (one_like_unit-IsOver call.agg call.arg value takes) in
    subst (IsOver call.agg call.arg) (sym is) (join-IsOver call.agg call.arg old (one_like old value) over one)

pub merge-IsOver : (call : AggCall) (old new : AnyAgg) (bytes : List ℕ) → IsOver call.agg call.arg old
    → new ≡ join old (state_in call.agg call.arg bytes) → FitsState call.agg call.arg (state_in call.agg call.arg bytes) → IsOver call.agg call.arg new
merge-IsOver call old new bytes over is fits =
    subst (IsOver call.agg call.arg) (sym is)
    (join-IsOver call.agg call.arg old (state_in call.agg call.arg bytes) over (IsOver-from_fits call.agg call.arg (state_in call.agg call.arg bytes) fits))

-- what follows from two facts of a success
pub on_both : {T E P Q R : Type 0} (r : Result T E) → OnOk r P → OnOk r Q → (P → Q → R) → OnOk r R
on_both (Ok t) p q f = f p q
on_both (Err e) p q f = tt

-- what follows from three
pub on_three : {T E P Q R S : Type 0} (r : Result T E) → OnOk r P → OnOk r Q → OnOk r R → (P → Q → R → S) → OnOk r S
on_three (Ok t) p q s f = f p q s
on_three (Err e) p q s f = tt
