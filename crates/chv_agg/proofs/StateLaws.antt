-- States over values of a kind: what they are joined to, and their values.
use Rattle.std.proofs.Common.{◌≡◌, pos, ◌+◌, ◌+ℤ◌, ◌%◌, ◌^◌, Bool, true, false, if◌then◌else◌, List, [], ◌∷◌, map, refl, ap, ◌∙◌, arith}
use Rattle.std.specs.List.{All, fold}
use Rattle.std.specs.declared.option.Option.TheVariants.{None}
use Rattle.chv_agg.proofs.JoinOrder.{each, join-assoc, join-comm}
use Rattle.chv_agg.specs.AggregateLaws.{Mixture, mixed, values_of}
use Rattle.chv_agg.specs.CountLaws.{count_state}
use Rattle.chv_agg.specs.ExtremeLaws.{greatest_laws, greatest_state, least_laws, least_state}
use Rattle.chv_agg.specs.FoldLaws.{mixed-state_from}
use Rattle.chv_agg.specs.Functions.{count_one, found_one, found_value, set_join, set_one, set_value, signed_join, signed_one, signed_value, unsigned_join, unsigned_one, unsigned_value}
use Rattle.chv_agg.specs.Lists.{aggregate_of, sum_value, total}
use Rattle.chv_agg.specs.States.{either_by, FitsState, higher, is_signed, IsOver, join, lower, merged, one_like, state_of, unit_of, value_of}
use Rattle.chv_agg.specs.SumLaws.{signed_of-fits, signed_sum_laws, signed_sum_state, unsigned_of-fits, unsigned_sum_state}
use Rattle.chv_agg.specs.UniqLaws.{members-again, set_laws, set_state}
use Rattle.chv_agg.specs.declared.any_agg.AnyAgg.{AnyAgg}
use Rattle.chv_agg.specs.declared.any_agg.AnyAgg.TheVariants.{Count, SumU, SumI, Least, Greatest, Uniq}
use Rattle.chv_types.specs.Fits.{IsOfScalar}
use Rattle.chv_types.specs.Order.{number}
use Rattle.chv_types.specs.declared.aggregate.AggName.{AggName}
use Rattle.chv_types.specs.declared.aggregate.AggName.TheVariants as agg
use Rattle.chv_types.specs.declared.kind.Scalar.{Scalar}
use Rattle.chv_types.specs.declared.value.Value.{Value}

-- the sum of no values of a kind
abbrev none_of : Bool → AnyAgg
none_of signed = if signed then SumI (pos 0) else SumU 0

-- the state of no values changes none
pub join-unit : (function : AggName) (arg : Scalar) (state : AnyAgg) → IsOver function arg state → join (unit_of function arg) state ≡ state
unfolding join
join-unit agg.Count arg = each (λ s. IsOver agg.Count arg s → join (unit_of agg.Count arg) s ≡ s) (λ n h. let same : (0 + n) % 2 ^ 64 ≡ n = omega (arith, h) in ap Count same) (λ x h. absurd h) (λ x h. absurd h) (λ x h. absurd h) (λ x h. absurd h) (λ x h. absurd h)
join-unit agg.Sum arg = each (λ s. IsOver agg.Sum arg s → join (unit_of agg.Sum arg) s ≡ s) (λ x h. absurd h) (λ n h. let same : (0 + n) % 2 ^ 64 ≡ n = omega (arith, h.1) in ap (λ b. join (none_of b) (SumU n)) h.0 ∙ ap SumU same) (λ n h. ap (λ b. join (none_of b) (SumI n)) h.0 ∙ ap SumI (signed_sum_laws.identity arg n (h.1, h.2))) (λ x h. absurd h) (λ x h. absurd h) (λ x h. absurd h)
join-unit agg.Min arg = each (λ s. IsOver agg.Min arg s → join (unit_of agg.Min arg) s ≡ s) (λ x h. absurd h) (λ x h. absurd h) (λ x h. absurd h) (λ found h. refl) (λ x h. absurd h) (λ x h. absurd h)
join-unit agg.Max arg = each (λ s. IsOver agg.Max arg s → join (unit_of agg.Max arg) s ≡ s) (λ x h. absurd h) (λ x h. absurd h) (λ x h. absurd h) (λ x h. absurd h) (λ found h. refl) (λ x h. absurd h)
join-unit agg.UniqExact arg = each (λ s. IsOver agg.UniqExact arg s → join (unit_of agg.UniqExact arg) s ≡ s) (λ x h. absurd h) (λ x h. absurd h) (λ x h. absurd h) (λ x h. absurd h) (λ x h. absurd h) (λ values h. ap Uniq (members-again values h.1))

joined : (function : AggName) (arg : Scalar) (a : AnyAgg) → IsOver function arg a → (b : AnyAgg) → IsOver function arg b → IsOver function arg (join a b)
unfolding join
joined agg.Count arg = each (λ a. IsOver agg.Count arg a → (b : AnyAgg) → IsOver agg.Count arg b → IsOver agg.Count arg (join a b)) (λ m p. each (λ b. IsOver agg.Count arg b → IsOver agg.Count arg (join (Count m) b)) (λ n q. omega arith) (λ x q. absurd q) (λ x q. absurd q) (λ x q. absurd q) (λ x q. absurd q) (λ x q. absurd q)) (λ x p. absurd p) (λ x p. absurd p) (λ x p. absurd p) (λ x p. absurd p) (λ x p. absurd p)
joined agg.Sum arg = each (λ a. IsOver agg.Sum arg a → (b : AnyAgg) → IsOver agg.Sum arg b → IsOver agg.Sum arg (join a b)) (λ x p. absurd p) (λ m p. each (λ b. IsOver agg.Sum arg b → IsOver agg.Sum arg (join (SumU m) b)) (λ x q. absurd q) (λ n q. (p.0, omega arith)) (λ n q. p) (λ x q. absurd q) (λ x q. absurd q) (λ x q. absurd q)) (λ m p. each (λ b. IsOver agg.Sum arg b → IsOver agg.Sum arg (join (SumI m) b)) (λ x q. absurd q) (λ n q. q) (λ n q. let fits = signed_of-fits (m +ℤ n) in (p.0, fits.0, fits.1)) (λ x q. absurd q) (λ x q. absurd q) (λ x q. absurd q)) (λ x p. absurd p) (λ x p. absurd p) (λ x p. absurd p)
joined agg.Min arg = each (λ a. IsOver agg.Min arg a → (b : AnyAgg) → IsOver agg.Min arg b → IsOver agg.Min arg (join a b)) (λ x p. absurd p) (λ x p. absurd p) (λ x p. absurd p) (λ m p. each (λ b. IsOver agg.Min arg b → IsOver agg.Min arg (join (Least m) b)) (λ x q. absurd q) (λ x q. absurd q) (λ x q. absurd q) (λ n q. least_laws.closed arg m n p q) (λ x q. absurd q) (λ x q. absurd q)) (λ x p. absurd p) (λ x p. absurd p)
joined agg.Max arg = each (λ a. IsOver agg.Max arg a → (b : AnyAgg) → IsOver agg.Max arg b → IsOver agg.Max arg (join a b)) (λ x p. absurd p) (λ x p. absurd p) (λ x p. absurd p) (λ x p. absurd p) (λ m p. each (λ b. IsOver agg.Max arg b → IsOver agg.Max arg (join (Greatest m) b)) (λ x q. absurd q) (λ x q. absurd q) (λ x q. absurd q) (λ x q. absurd q) (λ n q. greatest_laws.closed arg m n p q) (λ x q. absurd q)) (λ x p. absurd p)
joined agg.UniqExact arg = each (λ a. IsOver agg.UniqExact arg a → (b : AnyAgg) → IsOver agg.UniqExact arg b → IsOver agg.UniqExact arg (join a b)) (λ x p. absurd p) (λ x p. absurd p) (λ x p. absurd p) (λ x p. absurd p) (λ x p. absurd p) (λ m p. each (λ b. IsOver agg.UniqExact arg b → IsOver agg.UniqExact arg (join (Uniq m) b)) (λ x q. absurd q) (λ x q. absurd q) (λ x q. absurd q) (λ x q. absurd q) (λ x q. absurd q) (λ n q. set_laws.closed arg m n p q))

-- states over values of a kind are joined to such a state
pub join-IsOver : (function : AggName) (arg : Scalar) (a b : AnyAgg) → IsOver function arg a → IsOver function arg b → IsOver function arg (join a b)
join-IsOver function arg a b p q = joined function arg a p b q

-- a state that fits is one over values of the kind
pub IsOver-FitsState : (function : AggName) (arg : Scalar) (state : AnyAgg) → FitsState function arg state → IsOver function arg state
IsOver-FitsState agg.Count arg state fits = fits
IsOver-FitsState agg.Sum arg state fits = fits
IsOver-FitsState agg.Min arg state fits = fits
IsOver-FitsState agg.Max arg state fits = fits
IsOver-FitsState agg.UniqExact arg state fits = each (λ s. FitsState agg.UniqExact arg s → IsOver agg.UniqExact arg s) (λ x h. absurd h) (λ x h. absurd h) (λ x h. absurd h) (λ x h. absurd h) (λ x h. absurd h) (λ values h. (h.0, h.1)) state fits

unit-IsOver : (function : AggName) (arg : Scalar) → IsOver function arg (unit_of function arg)
unit-IsOver agg.Count arg = omega arith
unit-IsOver agg.Sum arg =
    elim (is_signed arg) as (λ b. is_signed arg ≡ b → IsOver agg.Sum arg (none_of b)) [
      | true ↦ λ e. let fits = signed_sum_laws.fits_unit arg in (e, fits.0, fits.1)
      | false ↦ λ e. (e, omega arith)
    ] refl
unit-IsOver agg.Min arg = tt
unit-IsOver agg.Max arg = tt
unit-IsOver agg.UniqExact arg = set_laws.fits_unit arg

one-IsOver : (function : AggName) (arg : Scalar) (value : Value) → IsOfScalar arg value → IsOver function arg (one_like (unit_of function arg) value)
one-IsOver agg.Count arg value of = omega arith
one-IsOver agg.Sum arg value of =
    elim (is_signed arg) as (λ b. is_signed arg ≡ b → IsOver agg.Sum arg (one_like (none_of b) value)) [
      | true ↦ λ e. let fits = signed_of-fits (number value) in (e, fits.0, fits.1)
      | false ↦ λ e. (e, unsigned_of-fits (number value))
    ] refl
one-IsOver agg.Min arg value of = of
one-IsOver agg.Max arg value of = of
one-IsOver agg.UniqExact arg value of = set_laws.fits_one arg value of

pub mixed-state_of : (function : AggName) (arg : Scalar) (mixture : Mixture) → All (IsOfScalar arg) (values_of mixture) → mixed (unit_of function arg) (one_like (unit_of function arg)) join mixture ≡ state_of function arg (values_of mixture)
mixed-state_of function arg =
    mixed-state_from (IsOfScalar arg) (IsOver function arg) (unit_of function arg) (one_like (unit_of function arg)) join join-assoc join-comm
    (join-unit function arg) (unit-IsOver function arg) (one-IsOver function arg) (join-IsOver function arg)

-- the states of one function are those of its implementation
module _ {S : Type 0} (wrap : S → AnyAgg) (unit : S) (one : Value → S) (both : S → S → S) (joins : (a b : S) → join (wrap a) (wrap b) ≡ wrap (both a b)) (likes : (value : Value) → one_like (wrap unit) value ≡ wrap (one value)) where
  wrapped : (a : S) (values : List Value) → fold join (wrap a) (map (one_like (wrap unit)) values) ≡ wrap (fold both a (map one values))
  wrapped a [] = refl
  wrapped a (value ∷ values) =
      ap (λ s. fold join s (map (one_like (wrap unit)) values)) (ap (join (wrap a)) (likes value) ∙ joins a (one value)) ∙ wrapped (both a (one value)) values

sum_law : (arg : Scalar) (values : List Value) (signed : Bool) → value_of arg (merged (none_of signed) (map (one_like (none_of signed)) values)) ≡ sum_value signed (total values)
unfolding join
sum_law arg values true = ap (value_of arg) (wrapped SumI (pos 0) signed_one signed_join (λ a b. refl) (λ value. refl) (pos 0) values) ∙ ap (signed_value arg) (signed_sum_state values)
sum_law arg values false = ap (value_of arg) (wrapped SumU 0 unsigned_one unsigned_join (λ a b. refl) (λ value. refl) 0 values) ∙ ap (unsigned_value arg) (unsigned_sum_state values)

pub value_of-state_of : (function : AggName) (arg : Scalar) (values : List Value) → value_of arg (state_of function arg values) ≡ aggregate_of function arg values
unfolding join
value_of-state_of agg.Count arg values = ap (value_of arg) (wrapped Count 0 count_one unsigned_join (λ a b. refl) (λ value. refl) 0 values) ∙ ap (unsigned_value arg) (count_state values)
value_of-state_of agg.Sum arg values = sum_law arg values (is_signed arg)
value_of-state_of agg.Min arg values = ap (value_of arg) (wrapped Least None found_one (either_by lower) (λ a b. refl) (λ value. refl) None values) ∙ ap (found_value arg) (least_state values)
value_of-state_of agg.Max arg values = ap (value_of arg) (wrapped Greatest None found_one (either_by higher) (λ a b. refl) (λ value. refl) None values) ∙ ap (found_value arg) (greatest_state values)
value_of-state_of agg.UniqExact arg values = ap (value_of arg) (wrapped Uniq [] set_one set_join (λ a b. refl) (λ value. refl) [] values) ∙ ap (set_value arg) (set_state values)
