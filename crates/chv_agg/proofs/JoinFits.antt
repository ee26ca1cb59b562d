-- States that are joined fit, where a set is not too large to have bytes.
use Rattle.std.proofs.Common.{ℕ, ℤ, pos, suc, ◌+◌, ◌+ℤ◌, ◌-◌, ◌^◌, ◌<◌, ◌≤◌, ◌≤ℤ◌, neg_ℤ, List, [], ◌∷◌, ◌++◌, length, Option, Some, None, Less, Equal, Greater, arith, length-append}
use Rattle.std.proofs.lemmas.Int.{ints, SFits-int_wrap}
use Rattle.std.proofs.lemmas.List.Elements.{All-nil, All-cons, All-head, All-tail, All-append}
use Rattle.std.specs.Int.{w64}
use Rattle.std.specs.List.{All}
use Rattle.std.specs.declared.cmp.Ordering.{Ordering}
use Rattle.chv_types.proofs.MemberLemmas.{members-Rises}
use Rattle.chv_types.specs.Fits.{IsOfScalar}
use Rattle.chv_types.specs.Members.{by_order, members, put_member}
use Rattle.chv_types.specs.Order.{value_cmp}
use Rattle.chv_types.specs.OrderLaws.{value_cmp_total, value_cmp-IsAntisymmetric}
use Rattle.chv_types.specs.declared.aggregate.AggName.{AggName}
use Rattle.chv_types.specs.declared.aggregate.AggName.TheVariants as agg
use Rattle.chv_types.specs.declared.kind.Scalar.{Scalar}
use Rattle.chv_types.specs.declared.value.Value.{Value}
use Rattle.chv_agg.specs.StateBytes.{state_in}
use Rattle.chv_agg.specs.States.{either_by, FitsFound, FitsState, higher, join, lower, set_size, signed_of}
use Rattle.chv_agg.specs.declared.any_agg.AnyAgg.{AnyAgg}
use Rattle.chv_agg.specs.declared.any_agg.AnyAgg.TheVariants.{Count, SumU, SumI, Least, Greatest, Uniq}
use Rattle.chv_agg.proofs.StateFrontLemmas.{set_size-state_in, state_in-fits}

-- what one of two items has, that has which is taken
by_order-has : {A : Type 0} (P : A → Type 0) (o : Ordering) (less equal greater : A) → P less → P equal → P greater → P (by_order o less equal greater)
by_order-has P Less less equal greater h k l = h
by_order-has P Equal less equal greater h k l = k
by_order-has P Greater less equal greater h k l = l

-- an item among those of a list, all of which have something
put_member-All : (P : Value → Type 0) (x : Value) (ys : List Value) → P x → All P ys → All P (put_member value_cmp x ys)
put_member-All P x [] p h = All-cons P x [] p (All-nil P)
put_member-All P x (y ∷ ys) p h =
    by_order-has (All P) (value_cmp x y) (x ∷ (y ∷ ys)) (y ∷ ys) (y ∷ put_member value_cmp x ys)
    (All-cons P x (y ∷ ys) p h) h (All-cons P y (put_member value_cmp x ys) (All-head P y ys h) (put_member-All P x ys p (All-tail P y ys h)))

members-All : (P : Value → Type 0) (xs : List Value) → All P xs → All P (members value_cmp xs)
members-All P [] h = All-nil P
members-All P (x ∷ xs) h = put_member-All P x (members value_cmp xs) (All-head P x xs h) (members-All P xs (All-tail P x xs h))

-- a list has no more items, each once, than it has
put_member-length : (x : Value) (ys : List Value) → length (put_member value_cmp x ys) ≤ suc (length ys)
put_member-length x [] = omega arith
put_member-length x (y ∷ ys) =
    let more = put_member-length x ys in
    by_order-has (λ (l : List Value). length l ≤ suc (length (y ∷ ys))) (value_cmp x y) (x ∷ (y ∷ ys)) (y ∷ ys) (y ∷ put_member value_cmp x ys)
    (omega arith) (omega arith) (omega (arith, more))

pub members-length : (xs : List Value) → length (members value_cmp xs) ≤ length xs
members-length [] = omega arith
members-length (x ∷ xs) = omega (arith, put_member-length x (members value_cmp xs), members-length xs)

-- a value that is one of two is of their kind
either_by-fits : (choose : Value → Value → Value) (arg : Scalar) → ((a b : Value) → IsOfScalar arg a → IsOfScalar arg b → IsOfScalar arg (choose a b))
    → (a b : Option Value) → FitsFound arg a → FitsFound arg b → FitsFound arg (either_by choose a b)
either_by-fits choose arg kept None b h k = k
either_by-fits choose arg kept (Some a) None h k = h
either_by-fits choose arg kept (Some a) (Some b) h k = kept a b h k

lower-fits : (arg : Scalar) (a b : Value) → IsOfScalar arg a → IsOfScalar arg b → IsOfScalar arg (lower a b)
lower-fits arg a b h k = by_order-has (IsOfScalar arg) (value_cmp a b) a a b h h k

higher-fits : (arg : Scalar) (a b : Value) → IsOfScalar arg a → IsOfScalar arg b → IsOfScalar arg (higher a b)
higher-fits arg a b h k = by_order-has (IsOfScalar arg) (value_cmp a b) b a a k h h

-- a sum with a sign lies within its bounds
signed_of-least : (z : ℤ) → neg_ℤ (pos (2 ^ 63)) ≤ℤ signed_of z
signed_of-least z = omega (arith, ints, SFits-int_wrap w64 z)

signed_of-greatest : (z : ℤ) → signed_of z ≤ℤ pos (2 ^ 63 - 1)
signed_of-greatest z = omega (arith, ints, SFits-int_wrap w64 z)

-- the joint state of two fits where its set is not too large
pub join-fits : (agg : AggName) (arg : Scalar) (a b : AnyAgg) → FitsState agg arg a → FitsState agg arg b → set_size (join a b) < 2 ^ 64 → FitsState agg arg (join a b)
unfolding join
join-fits agg.Count arg (Count m) (Count n) h k small = omega arith
join-fits agg.Count arg (Count m) b h k small = absurd k
join-fits agg.Sum arg (SumU m) (SumU n) h k small = (h.0, omega arith)
join-fits agg.Sum arg (SumU m) (SumI n) h k small = h
join-fits agg.Sum arg (SumU m) b h k small = absurd k
join-fits agg.Sum arg (SumI m) (SumI n) h k small = (h.0, signed_of-least (m +ℤ n), signed_of-greatest (m +ℤ n))
join-fits agg.Sum arg (SumI m) (SumU n) h k small = k
join-fits agg.Sum arg (SumI m) b h k small = absurd k
join-fits agg.Min arg (Least a) (Least b) h k small = either_by-fits lower arg (lower-fits arg) a b h k
join-fits agg.Min arg (Least a) b h k small = absurd k
join-fits agg.Max arg (Greatest a) (Greatest b) h k small = either_by-fits higher arg (higher-fits arg) a b h k
join-fits agg.Max arg (Greatest a) b h k small = absurd k
join-fits agg.UniqExact arg (Uniq a) (Uniq b) h k small = (
  members-All (IsOfScalar arg) (a ++ b) (All-append (IsOfScalar arg) a b h.0 k.0),
  members-Rises value_cmp value_cmp_total value_cmp-IsAntisymmetric (a ++ b),
  small,
)
join-fits agg.UniqExact arg (Uniq a) b h k small = absurd k
join-fits agg arg a b h k small = absurd h

-- a joint set has no more values than both
pub set_size-join : (a b : AnyAgg) → set_size (join a b) ≤ set_size a + set_size b
unfolding join
set_size-join (Uniq a) (Uniq b) = omega (arith, members-length (a ++ b), length-append a b)
set_size-join a (Count n) = omega arith
set_size-join a b = omega arith

-- what bytes stand for joined fits where there are fewer than 2^64 bytes
pub join_bytes-fits : (agg : AggName) (arg : Scalar) (a b : List ℕ) → length a + length b < 2 ^ 64 → FitsState agg arg (join (state_in agg arg a) (state_in agg arg b))
join_bytes-fits agg arg a b small =
    join-fits agg arg (state_in agg arg a) (state_in agg arg b) (state_in-fits agg arg a (omega (arith, small))) (state_in-fits agg arg b (omega (arith, small)))
    (omega (arith, small, set_size-join (state_in agg arg a) (state_in agg arg b), set_size-state_in agg arg a, set_size-state_in agg arg b))
