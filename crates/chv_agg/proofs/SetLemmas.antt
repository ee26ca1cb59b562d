-- Lists of values that rise, and their spellings.
use Rattle.std.proofs.Common.{◌≡◌, ℕ, zero, suc, ◌+◌, ◌<◌, ◌≤◌, List, [], ◌∷◌, ◌++◌, length, take, drop, get_or, Bool, true, false, Less, Equal, Greater, refl, sym, ap, ap₂, subst, ◌∙◌, arith, append_assoc, length-append}
use Rattle.std.proofs.lemmas.List.{append-nil, take_more}
use Rattle.std.proofs.lemmas.List.Elements.{All-nil, All-cons, All-head, All-tail, All-append, All-weaker}
use Rattle.std.specs.List.{All}
use Rattle.std.specs.Ordering.{is_lt}
use Rattle.std.specs.declared.cmp.Ordering.{Ordering}
use Rattle.chv_bytes.specs.Places.{StandsAt}
use Rattle.chv_types.specs.Fits.{IsOfScalar}
use Rattle.chv_types.specs.Members.{Rises}
use Rattle.chv_types.specs.Order.{value_cmp}
use Rattle.chv_types.specs.OrderLaws.{value_cmp_total}
use Rattle.chv_types.specs.declared.kind.Scalar.{Scalar}
use Rattle.chv_types.specs.declared.value.Value.{Value}
use Rattle.chv_agg.specs.Plain.{scalar_spelling, values_spelling}
use Rattle.chv_agg.specs.StateReading.{follows, Gains, RiseAt}
use Rattle.chv_agg.specs.PlainLaws.{one_scalar}

-- an order that tests as less is Less
pub is_lt-Less : (o : Ordering) → is_lt o ≡ true → o ≡ Less
is_lt-Less Less e = refl
is_lt-Less Equal e = cc
is_lt-Less Greater e = cc

-- a value stands above the last of a list where it is greater than that
pub follows-last : (values : List Value) (value last : Value) (k : ℕ) → length values ≡ suc k → get_or values k last ≡ last
    → follows values value ≡ is_lt (value_cmp last value)
follows-last [] value last k long is = absurd (omega (arith, long))
follows-last (first ∷ []) value last zero long is = ap (λ (v : Value). is_lt (value_cmp v value)) is
follows-last (first ∷ []) value last (suc k) long is = absurd (omega (arith, long))
follows-last (first ∷ (next ∷ values)) value last zero long is = absurd (omega (arith, long))
follows-last (first ∷ (next ∷ values)) value last (suc k) long is = follows-last (next ∷ values) value last k (omega (arith, long)) is

-- a list rises where its first item stands below its second, and the others rise
pub Rises-front : (first next : Value) (values : List Value) → value_cmp first next ≡ Less → Rises value_cmp (next ∷ values) → Rises value_cmp (first ∷ (next ∷ values))
Rises-front first next values below h = (
  All-cons (λ w. value_cmp first w ≡ Less) next values below
      (All-weaker (λ w. value_cmp next w ≡ Less) (λ w. value_cmp first w ≡ Less) (λ w f. value_cmp_total.trans first next w below f) values h.0),
  h,
)

-- a list that rises does so with a value above its last
pub Rises-push : (values : List Value) (value : Value) → Rises value_cmp values → follows values value ≡ true → Rises value_cmp (values ++ value ∷ [])
Rises-push [] value h above = (All-nil (λ w. value_cmp value w ≡ Less), tt)
Rises-push (last ∷ []) value h above =
    Rises-front last value [] (is_lt-Less (value_cmp last value) above) (All-nil (λ w. value_cmp value w ≡ Less), tt)
Rises-push (first ∷ (next ∷ values)) value h above =
    Rises-front first next (values ++ value ∷ []) (All-head (λ w. value_cmp first w ≡ Less) next values h.0) (Rises-push (next ∷ values) value h.1 above)

-- in a list that rises, each item stands above the last of those in front of it
pub Rises-follows : (values more : List Value) (value : Value) → Rises value_cmp (values ++ value ∷ more) → follows values value ≡ true
Rises-follows [] more value h = refl
Rises-follows (last ∷ []) more value h = ap is_lt (All-head (λ w. value_cmp last w ≡ Less) value more h.0)
Rises-follows (first ∷ (next ∷ values)) more value h = Rises-follows (next ∷ values) more value h.1

-- values are spelled one behind the other
pub values_spelling-append : (plain : Scalar) (a b : List Value) → values_spelling plain (a ++ b) ≡ values_spelling plain a ++ values_spelling plain b
values_spelling-append plain [] b = refl
values_spelling-append plain (v ∷ a) b =
    ap (λ (l : List ℕ). scalar_spelling plain v ++ l) (values_spelling-append plain a b)
    ∙ sym (append_assoc (scalar_spelling plain v) (values_spelling plain a) (values_spelling plain b))

-- a spelling stands behind another
pub StandsAt-append : (a b bytes : List ℕ) (at place behind : ℕ) → StandsAt a bytes at place → StandsAt b bytes place behind → StandsAt (a ++ b) bytes at behind
StandsAt-append a b bytes at place behind h k = record {
  next = omega (arith, h.next, k.next, length-append a b);
  within = k.within;
  spelled = h.spelled ∙ ap (λ (l : List ℕ). a ++ l) k.spelled ∙ sym (append_assoc a b (drop behind bytes));
}

-- no values stand at each place
pub RiseAt-none : (plain : Scalar) (bytes : List ℕ) (at : ℕ) → at ≤ length bytes → RiseAt plain [] bytes at at
RiseAt-none plain bytes at within = record {
  of = All-nil (IsOfScalar plain);
  rise = tt;
  stand = record { next = omega arith; within = within; spelled = refl };
}

-- values that rise do so with the one that they gain
pub RiseAt-more : (plain : Scalar) (old new : List Value) (bytes : List ℕ) (at place behind : ℕ) → RiseAt plain old bytes at place → Gains plain old new bytes place behind
    → RiseAt plain new bytes at behind
RiseAt-more plain old new bytes at place behind h gains =
    let last : List Value = gains.value ∷ [] in
    let spelling : values_spelling plain last ≡ scalar_spelling plain gains.value = append-nil (scalar_spelling plain gains.value) in
    let stands : StandsAt (values_spelling plain last) bytes place behind = subst (λ (l : List ℕ). StandsAt l bytes place behind) (sym spelling) gains.stands in
    subst (λ (l : List Value). RiseAt plain l bytes at behind) (sym gains.gained) (record {
      of = All-append (IsOfScalar plain) old last h.of (All-cons (IsOfScalar plain) gains.value [] gains.of (All-nil (IsOfScalar plain)));
      rise = Rises-push old gains.value h.rise gains.above;
      stand = subst (λ (l : List ℕ). StandsAt l bytes at behind) (sym (values_spelling-append plain old last))
          (StandsAt-append (values_spelling plain old) (values_spelling plain last) bytes at place behind h.stand stands);
    })

-- what stands in longer values behind others that are spelled in front of the same bytes
record Behind (plain : Scalar) (old values : List Value) (left rest : List ℕ) : Type 0 where
  value : Value
  more : List Value
  of : IsOfScalar plain value
  are : values ≡ old ++ value ∷ more
  left_is : left ≡ scalar_spelling plain value ++ (values_spelling plain more ++ rest)

-- two texts with something behind them, split once more
regroup : (a b c d x y : List ℕ) → (a ++ b) ++ x ≡ (c ++ d) ++ y → a ++ (b ++ x) ≡ c ++ (d ++ y)
regroup a b c d x y same = sym (append_assoc a b x) ∙ same ∙ append_assoc c d y

-- of longer values in front of the same bytes, the first are the same
split : (plain : Scalar) (old values : List Value) (left rest : List ℕ) → All (IsOfScalar plain) old → All (IsOfScalar plain) values → length old < length values
    → values_spelling plain old ++ left ≡ values_spelling plain values ++ rest → Behind plain old values left rest
split plain old [] left rest h k shorter same = absurd (omega (arith, shorter))
split plain [] (v ∷ values) left rest h k shorter same = record {
  value = v;
  more = values;
  of = All-head (IsOfScalar plain) v values k;
  are = refl;
  left_is = same ∙ append_assoc (scalar_spelling plain v) (values_spelling plain values) rest;
}
split plain (u ∷ old) (v ∷ values) left rest h k shorter same =
    let first = one_scalar plain u v (values_spelling plain old ++ left) (values_spelling plain values ++ rest)
    (All-head (IsOfScalar plain) u old h) (All-head (IsOfScalar plain) v values k)
    (regroup (scalar_spelling plain u) (values_spelling plain old) (scalar_spelling plain v) (values_spelling plain values) left rest same) in
    let others = split plain old values left rest (All-tail (IsOfScalar plain) u old h) (All-tail (IsOfScalar plain) v values k) (omega (arith, shorter)) first.1 in
    record {
      value = others.value;
      more = others.more;
      of = others.of;
      are = ap₂ (λ (w : Value) (ws : List Value). w ∷ ws) (sym first.0) others.are;
      left_is = others.left_is;
    }

-- where no value stands behind so many that rise, no more that rise stand there
pub none_longer : (plain : Scalar) (old : List Value) (bytes : List ℕ) (at place count : ℕ) → RiseAt plain old bytes at place → length old < count
    → ((value : Value) (rest : List ℕ) → IsOfScalar plain value → follows old value ≡ true → drop place bytes ≡ scalar_spelling plain value ++ rest → ⊥)
    → (values : List Value) (rest : List ℕ) → All (IsOfScalar plain) values → Rises value_cmp values → length values ≡ count
    → drop at bytes ≡ values_spelling plain values ++ rest → ⊥
none_longer plain old bytes at place count h shorter none values rest of rise long same =
    let next = split plain old values (drop place bytes) rest h.of of (omega (arith, shorter, long)) (sym h.stand.spelled ∙ same) in
    none next.value (values_spelling plain next.more ++ rest) next.of
    (Rises-follows old next.more next.value (subst (Rises value_cmp) next.are rise)) next.left_is

-- where the value that stands somewhere passes no test, no value that passes it stands there
pub none_beyond : (arg : Scalar) (passes : Value → Bool) (found : Value) (bytes : List ℕ) (at behind : ℕ) → StandsAt (scalar_spelling arg found) bytes at behind
    → IsOfScalar arg found → passes found ≡ false
    → (value : Value) (rest : List ℕ) → IsOfScalar arg value → passes value ≡ true → drop at bytes ≡ scalar_spelling arg value ++ rest → ⊥
none_beyond arg passes found bytes at behind stands of_found fails value rest of passed same =
    let e = one_scalar arg found value (drop behind bytes) rest of_found of (sym stands.spelled ∙ same) in
    let apart : false ≡ true = sym fails ∙ ap passes e.0 ∙ passed in
    cc

-- the spelling of the first values, with one more
pub spelled_more : (plain : Scalar) (values : List Value) (i : ℕ) (value : Value) (before now out : List ℕ) → i < length values → value ≡ get_or values i value
    → before ≡ out ++ values_spelling plain (take i values) → now ≡ before ++ scalar_spelling plain value
    → now ≡ out ++ values_spelling plain (take (i + 1) values)
spelled_more plain values i value before now out within is held put =
    let more : take (i + 1) values ≡ take i values ++ value ∷ [] = take_more values i value within ∙ ap (λ (v : Value). take i values ++ v ∷ []) (sym is) in
    let spelling : values_spelling plain (take (i + 1) values) ≡ values_spelling plain (take i values) ++ scalar_spelling plain value =
    ap (values_spelling plain) more ∙ values_spelling-append plain (take i values) (value ∷ [])
    ∙ ap (λ (l : List ℕ). values_spelling plain (take i values) ++ l) (append-nil (scalar_spelling plain value)) in
    put ∙ ap (λ (l : List ℕ). l ++ scalar_spelling plain value) held
    ∙ append_assoc out (values_spelling plain (take i values)) (scalar_spelling plain value)
    ∙ ap (λ (l : List ℕ). out ++ l) (sym spelling)
