-- Where states end in bytes.
use Rattle.std.proofs.Common.{◌≡◌, ℕ, ◌+◌, ◌<◌, ◌≤◌, ◌^◌, List, [], ◌∷◌, ◌++◌, length, drop, get_or, Bool, true, false, IfSome, refl, sym, ap, ap₂, subst, ◌∙◌, arith, length-append}
use Rattle.std.proofs.lemmas.List.{drop_more}
use Rattle.std.specs.declared.option.Option.{Option}
use Rattle.std.specs.declared.option.Option.TheVariants.{None, Some}
use Rattle.std.specs.List.{All}
use Rattle.std.specs.Ordering.{is_lt}
use Rattle.chv_bytes.specs.Places.{StandsAt}
use Rattle.chv_types.specs.Fits.{IsOfScalar}
use Rattle.chv_types.specs.Members.{Rises}
use Rattle.chv_types.specs.Order.{value_cmp}
use Rattle.chv_types.specs.Values.{seen_value}
use Rattle.chv_types.specs.declared.kind.Scalar.{Scalar}
use Rattle.chv_types.specs.declared.seen.Seen.{Seen}
use Rattle.chv_types.specs.declared.value.Value.{Value}
use Rattle.byteorder.specs.Endian.{little_number}
use Rattle.byteorder.specs.Numbers.{little_from-lt}
use Rattle.chv_bytes.specs.Integers.{int_bytes, int_value, number_for}
use Rattle.chv_bytes.specs.declared.integer.IntKind.TheVariants.{I64}
use Rattle.chv_bytes.proofs.NumberLemmas.{bytes_of_whole}
use Rattle.std.specs.Int.{to_le_bytes, w64}
use Rattle.chv_types.specs.declared.aggregate.AggName.{AggName}
use Rattle.chv_types.specs.declared.aggregate.AggName.TheVariants as agg
use Rattle.chv_agg.specs.AggregateLaws.{has_few, IsSet}
use Rattle.chv_agg.specs.StateBytes.{found_bytes, set_bytes, state_bytes}
use Rattle.chv_agg.specs.States.{FitsFound, FitsState, is_signed}
use Rattle.chv_agg.specs.declared.any_agg.AnyAgg.{AnyAgg}
use Rattle.chv_agg.specs.declared.any_agg.AnyAgg.TheVariants.{Count, SumU, SumI, Least, Greatest, Uniq}
use Rattle.chv_agg.proofs.FrontLemmas.{AreBytes-number, integer_again}
use Rattle.chv_agg.specs.Plain.{scalar_spelling, values_spelling}
use Rattle.chv_agg.specs.StateReading.{EndsAt, follows, is_above, RiseAt}
use Rattle.chv_agg.proofs.SetLemmas.{none_longer, RiseAt-more, RiseAt-none}

-- so many values of a kind rise in bytes, the last of which was seen
pub record HasSeen (arg : Scalar) (bytes : List ℕ) (at behind count : ℕ) (last : Option Seen) : Type 0 where
  pub values : List Value
  pub rise : RiseAt arg values bytes at behind
  pub many : length values ≡ count
  pub above : (value : Value) → follows values value ≡ is_above last value

-- no value was seen yet
pub HasSeen-none : (arg : Scalar) (bytes : List ℕ) (at : ℕ) → at ≤ length bytes → HasSeen arg bytes at at 0 None
HasSeen-none arg bytes at within = record { values = []; rise = RiseAt-none arg bytes at within; many = refl; above = λ value. refl }

-- behind a value that was put behind others, a value stands above it
follows-push : (values : List Value) (last value : Value) → follows (values ++ last ∷ []) value ≡ is_lt (value_cmp last value)
follows-push [] last value = refl
follows-push (first ∷ []) last value = refl
follows-push (first ∷ (next ∷ values)) last value = follows-push (next ∷ values) last value

-- one value more
pub HasSeen-more : (arg : Scalar) (bytes : List ℕ) (at place behind count : ℕ) (last : Option Seen) (value : Seen) → HasSeen arg bytes at place count last
    → IsOfScalar arg (seen_value value) → is_above last (seen_value value) ≡ true → StandsAt (scalar_spelling arg (seen_value value)) bytes place behind
    → HasSeen arg bytes at behind (count + 1) (Some value)
HasSeen-more arg bytes at place behind count last value seen of above stands =
    let v = seen_value value in
    let more : List Value = seen.values ++ v ∷ [] in
    record {
      values = more;
      rise = RiseAt-more arg seen.values more bytes at place behind seen.rise
          (record { value = v; of = of; above = seen.above v ∙ above; gained = refl; stands = stands });
      many = omega (arith, seen.many, length-append seen.values (v ∷ []));
      above = follows-push seen.values v;
    }

-- where no value above the last stands behind them, no more values that rise stand there
pub none_more : (arg : Scalar) (bytes : List ℕ) (at place count all : ℕ) (last : Option Seen) → HasSeen arg bytes at place count last → count < all
    → ((value : Value) (rest : List ℕ) → IsOfScalar arg value → is_above last value ≡ true → drop place bytes ≡ scalar_spelling arg value ++ rest → ⊥)
    → (values : List Value) (rest : List ℕ) → All (IsOfScalar arg) values → Rises value_cmp values → length values ≡ all
    → drop at bytes ≡ values_spelling arg values ++ rest → ⊥
none_more arg bytes at place count all last seen fewer none =
    none_longer arg seen.values bytes at place all seen.rise (omega (arith, seen.many, fewer))
    (λ value rest of above same. none value rest of (sym (seen.above value) ∙ above) same)

-- bytes spell something that fits
record Spelled {S : Type 0} (Fits : S → Type 0) (spelling : S → List ℕ) (bytes : List ℕ) : Type 0 where
  it : S
  fits : Fits it
  same : bytes ≡ spelling it

-- states of a function are spelled as what fits, and the other way round
pub record IsAlike {S : Type 0} (Fits : S → Type 0) (spelling : S → List ℕ) (agg : AggName) (arg : Scalar) : Type 0 where
  to_state : (it : S) → Fits it → Spelled (FitsState agg arg) (state_bytes arg) (spelling it)
  of_state : (state : AnyAgg) → FitsState agg arg state → Spelled Fits spelling (state_bytes arg state)

module _ {S : Type 0} {Fits : S → Type 0} {spelling : S → List ℕ} {function : AggName} {arg : Scalar} (alike : IsAlike Fits spelling function arg) (agg : AggName) (is : agg ≡ function) where
  -- where one ends, so does the other
  pub alike-found : (bytes : List ℕ) (at : ℕ) (end : Option ℕ) → IfSome end (λ behind. EndsAt Fits spelling bytes at behind)
      → IfSome end (λ behind. EndsAt (FitsState agg arg) (state_bytes arg) bytes at behind)
  alike-found bytes at None found = tt
  alike-found bytes at (Some behind) found =
      let state = alike.to_state found.state found.fits in
      record {
        state = state.it;
        fits = subst (λ (agg : AggName). FitsState agg arg state.it) (sym is) state.fits;
        stands = subst (λ (l : List ℕ). StandsAt l bytes at behind) state.same found.stands;
      }

  -- where none of one stands, none of the other does
  pub alike-none : (bytes : List ℕ) (at : ℕ) → ((it : S) (rest : List ℕ) → Fits it → drop at bytes ≡ spelling it ++ rest → ⊥)
      → (state : AnyAgg) (rest : List ℕ) → FitsState agg arg state → drop at bytes ≡ state_bytes arg state ++ rest → ⊥
  alike-none bytes at none state rest fits same =
      let it = alike.of_state state (subst (λ (agg : AggName). FitsState agg arg state) is fits) in
      none it.it rest it.fits (same ∙ ap (λ (l : List ℕ). l ++ rest) it.same)

-- a number of 64 bits
abbrev Small : ℕ → Type 0
Small n = n < 2 ^ 64

count_of : (arg : Scalar) (state : AnyAgg) → FitsState agg.Count arg state → Spelled Small (to_le_bytes w64) (state_bytes arg state)
unfolding state_bytes
count_of arg (Count n) fits = record { it = n; fits = fits; same = refl }
count_of arg state fits = absurd fits

pub alike_count : (arg : Scalar) → IsAlike Small (to_le_bytes w64) agg.Count arg
unfolding state_bytes
alike_count arg = record { to_state = λ n fits. record { it = Count n; fits = fits; same = refl }; of_state = count_of arg }

-- each 8 bytes are a number with sign, too
sum_to : (arg : Scalar) (signed : Bool) → is_signed arg ≡ signed → (n : ℕ) → Small n → Spelled (FitsState agg.Sum arg) (state_bytes arg) (to_le_bytes w64 n)
unfolding state_bytes
sum_to arg false is n fits = record { it = SumU n; fits = (is, fits); same = refl }
sum_to arg true is n fits =
    let again = integer_again I64 (to_le_bytes w64 n) refl (AreBytes-number 8 n) in
    record { it = SumI (int_value I64 (to_le_bytes w64 n)); fits = (is, again.0.least, again.0.greatest); same = sym again.1 }

sum_of : (arg : Scalar) (state : AnyAgg) → FitsState agg.Sum arg state → Spelled Small (to_le_bytes w64) (state_bytes arg state)
unfolding state_bytes
sum_of arg (SumU n) fits = record { it = n; fits = fits.1; same = refl }
sum_of arg (SumI n) fits =
    record { it = little_number 8 (int_bytes I64 n); fits = little_from-lt 0 8 (int_bytes I64 n) (AreBytes-number 8 (number_for 8 n)); same = sym (bytes_of_whole 8 (int_bytes I64 n) refl (AreBytes-number 8 (number_for 8 n))) }
sum_of arg state fits = absurd fits

pub alike_sum : (arg : Scalar) → IsAlike Small (to_le_bytes w64) agg.Sum arg
alike_sum arg = record { to_state = sum_to arg (is_signed arg) refl; of_state = sum_of arg }

least_of : (arg : Scalar) (state : AnyAgg) → FitsState agg.Min arg state → Spelled (FitsFound arg) (found_bytes arg) (state_bytes arg state)
unfolding state_bytes
least_of arg (Least found) fits = record { it = found; fits = fits; same = refl }
least_of arg state fits = absurd fits

pub alike_least : (arg : Scalar) → IsAlike (FitsFound arg) (found_bytes arg) agg.Min arg
unfolding state_bytes
alike_least arg = record { to_state = λ found fits. record { it = Least found; fits = fits; same = refl }; of_state = least_of arg }

greatest_of : (arg : Scalar) (state : AnyAgg) → FitsState agg.Max arg state → Spelled (FitsFound arg) (found_bytes arg) (state_bytes arg state)
unfolding state_bytes
greatest_of arg (Greatest found) fits = record { it = found; fits = fits; same = refl }
greatest_of arg state fits = absurd fits

pub alike_greatest : (arg : Scalar) → IsAlike (FitsFound arg) (found_bytes arg) agg.Max arg
unfolding state_bytes
alike_greatest arg = record { to_state = λ found fits. record { it = Greatest found; fits = fits; same = refl }; of_state = greatest_of arg }

-- a set with few values
abbrev SmallSet : Scalar → List Value → Type 0
SmallSet arg values = IsSet arg values × has_few values

set_of : (arg : Scalar) (state : AnyAgg) → FitsState agg.UniqExact arg state → Spelled (SmallSet arg) (set_bytes arg) (state_bytes arg state)
unfolding state_bytes
set_of arg (Uniq values) fits = record { it = values; fits = ((fits.0, fits.1), fits.2); same = refl }
set_of arg state fits = absurd fits

pub alike_set : (arg : Scalar) → IsAlike (SmallSet arg) (set_bytes arg) agg.UniqExact arg
unfolding state_bytes
alike_set arg = record { to_state = λ values fits. record { it = Uniq values; fits = (fits.0.0, fits.0.1, fits.1); same = refl }; of_state = set_of arg }

-- a value stands behind the byte 1
pub found_stands : (arg : Scalar) (value : Value) (bytes : List ℕ) (at behind : ℕ) → at < length bytes → get_or bytes at 0 ≡ 1 → StandsAt (scalar_spelling arg value) bytes (at + 1) behind
    → StandsAt (found_bytes arg (Some value)) bytes at behind
found_stands arg value bytes at behind within one stands = record {
  next = omega (arith, stands.next);
  within = stands.within;
  spelled = drop_more bytes at 0 within ∙ ap₂ (λ (b : ℕ) (l : List ℕ). b ∷ l) one stands.spelled;
}
