-- The sets of states: how many values they have together, where they are joined, and where their inputs are grouped.
use Rattle.std.proofs.Common.{◌≡◌, ◌+◌, ◌<◌, ◌≤◌, ◌^◌, ℕ, pos, suc, Bool, true, false, cond, if◌then◌else◌, List, [], ◌∷◌, length, map, refl, sym, ap, subst, arith, Less, Equal, Greater}
use Rattle.std.proofs.lemmas.List.Elements.{All-head, All-tail}
use Rattle.std.specs.List.{All, filter}
use Rattle.std.specs.Ordering.{is_eq}
use Rattle.std.specs.declared.cmp.Ordering.{Ordering}
use Rattle.chv_agg.proofs.JoinFits.{set_size-join}
use Rattle.chv_agg.proofs.StateFrontLemmas.{state_in-over}
use Rattle.chv_agg.proofs.StateLemmas.{FitsState-few, set_size-unit}
use Rattle.chv_agg.specs.Sets.{set_in, total_of}
use Rattle.chv_agg.specs.StateBytes.{state_in}
use Rattle.chv_agg.specs.States.{FitsState, IsOver, is_signed, join, merged, one_like, set_size, unit_of}
use Rattle.chv_agg.specs.declared.any_agg.AnyAgg.{AnyAgg}
use Rattle.chv_agg.specs.declared.any_agg.AnyAgg.TheVariants.{Count, SumU, SumI}
use Rattle.chv_group.proofs.OverLemmas.{join-IsOver, one_like_unit-IsOver, unit_of-IsOver}
use Rattle.chv_group.specs.Groups.{TakesArgument, TakesValue, call_state, input_state, inputs_of, takes_states}
use Rattle.chv_group.specs.declared.call.AggCall.{AggCall}
use Rattle.chv_group.specs.declared.call.Keyed.{Keyed}
use Rattle.chv_types.specs.Members.{Rises, by_order, members, put_member}
use Rattle.chv_types.specs.Order.{bytes, row_cmp}
use Rattle.chv_types.specs.OrderLaws.{row_cmp-IsAntisymmetric}
use Rattle.chv_types.specs.declared.aggregate.AggName.{AggName}
use Rattle.chv_types.specs.declared.aggregate.AggName.TheVariants as agg
use Rattle.chv_types.specs.declared.kind.Kind.TheVariants as kind
use Rattle.chv_types.specs.declared.kind.Scalar.{Scalar}
use Rattle.chv_types.specs.declared.value.Value.{Value}

-- a list is as long where something is made of each item
pub length-mapped : {A B : Type 0} (f : A → B) (xs : List A) → length (map f xs) ≡ length xs
length-mapped f [] = refl
length-mapped f (x ∷ xs) = ap suc (length-mapped f xs)

module _ {A : Type 0} where
  pub total_of-map : {B : Type 0} (f : A → ℕ) (g : B → A) (xs : List B) → total_of f (map g xs) ≡ total_of (λ x. f (g x)) xs
  total_of-map f g [] = refl
  total_of-map f g (x ∷ xs) = ap (λ n. f (g x) + n) (total_of-map f g xs)

  pub total_of-none : (f : A → ℕ) → ((x : A) → f x ≡ 0) → (xs : List A) → total_of f xs ≡ 0
  total_of-none f none [] = refl
  total_of-none f none (x ∷ xs) = omega (arith, none x, total_of-none f none xs)

  pub total_of-length : (f : A → ℕ) → ((x : A) → f x ≤ 1) → (xs : List A) → total_of f xs ≤ length xs
  total_of-length f one [] = omega arith
  total_of-length f one (x ∷ xs) = omega (arith, one x, total_of-length f one xs)

  pub total_of-more : (P : A → Type 0) (f g : A → ℕ) → ((x : A) → P x → f x ≤ g x) → (xs : List A) → All P xs → total_of f xs ≤ total_of g xs
  total_of-more P f g more [] all = omega arith
  total_of-more P f g more (x ∷ xs) all = omega (arith, more x (All-head P x xs all), total_of-more P f g more xs (All-tail P x xs all))

  pub total_of-same : (f g : A → ℕ) → ((x : A) → f x ≡ g x) → (xs : List A) → total_of f xs ≡ total_of g xs
  total_of-same f g same [] = refl
  total_of-same f g same (x ∷ xs) = omega (arith, same x, total_of-same f g same xs)

  kept : (f : A → ℕ) (x : A) (b : Bool) (rest whole : List A) → total_of f rest ≤ total_of f whole → total_of f (cond b (x ∷ rest) rest) ≤ f x + total_of f whole
  kept f x true rest whole less = omega (arith, less)
  kept f x false rest whole less = omega (arith, less)

  -- what is kept has no more than all
  pub total_of-filter : (p : A → Bool) (f : A → ℕ) (xs : List A) → total_of f (filter p xs) ≤ total_of f xs
  total_of-filter p f [] = omega arith
  total_of-filter p f (x ∷ xs) = kept f x (p x) (filter p xs) xs (total_of-filter p f xs)

-- how many different values an argument of a call stands for
abbrev pub input_size : AggCall → Value → ℕ
input_size call value = set_size (input_state call value)

one_size : (function : AggName) (arg : Scalar) (value : Value) → set_size (one_like (unit_of function arg) value) ≤ 1
one_size agg.Count arg value = omega arith
one_size agg.Sum arg value = by (is_signed arg)
  where
    by : (signed : Bool) → set_size (one_like (if signed then SumI (pos 0) else SumU 0) value) ≤ 1
    by true = omega arith
    by false = omega arith
one_size agg.Min arg value = omega arith
one_size agg.Max arg value = omega arith
one_size agg.UniqExact arg value = omega arith

-- one value is one at most
pub input_size-value : (call : AggCall) (value : Value) → takes_states call.form ≡ false → input_size call value ≤ 1
input_size-value call value values =
    subst (λ (b : Bool). set_size (if b then state_in call.agg call.arg (bytes value) else one_like (unit_of call.agg call.arg) value) ≤ 1) (sym values)
    (one_size call.agg call.arg value)

-- a state has those that it spells
pub input_size-state : (call : AggCall) (value : Value) → takes_states call.form ≡ true → input_size call value ≡ set_in (kind.State call.agg call.arg) value
input_size-state call value states =
    ap (λ (b : Bool). set_size (if b then state_in call.agg call.arg (bytes value) else one_like (unit_of call.agg call.arg) value)) states

input-IsOver : (call : AggCall) (value : Value) → TakesArgument call value → IsOver call.agg call.arg (input_state call value)
input-IsOver call value takes = by (takes_states call.form) takes
  where
    by : (states : Bool) → (states ≡ false → TakesValue call.agg call.arg value)
        → IsOver call.agg call.arg (if states then state_in call.agg call.arg (bytes value) else one_like (unit_of call.agg call.arg) value)
    by true h = state_in-over call.agg call.arg (bytes value)
    by false h = one_like_unit-IsOver call.agg call.arg value (h refl)

-- the joint state of arguments
merged-IsOver : (call : AggCall) (state : AnyAgg) (values : List Value) → IsOver call.agg call.arg state → All (TakesArgument call) values
    → IsOver call.agg call.arg (merged state (map (input_state call) values))
merged-IsOver call state [] over all = over
merged-IsOver call state (value ∷ values) over all =
    merged-IsOver call (join state (input_state call value)) values
    (join-IsOver call.agg call.arg state (input_state call value) over (input-IsOver call value (All-head (TakesArgument call) value values all)))
    (All-tail (TakesArgument call) value values all)

merged-size : (call : AggCall) (state : AnyAgg) (values : List Value) → set_size (merged state (map (input_state call) values)) ≤ set_size state + total_of (input_size call) values
merged-size call state [] = omega arith
merged-size call state (value ∷ values) =
    omega (arith, merged-size call (join state (input_state call value)) values, set_size-join state (input_state call value))

-- it has no more values than they have together
pub call_state-size : (call : AggCall) (values : List Value) → set_size (call_state call values) ≤ total_of (input_size call) values
call_state-size call values = omega (arith, merged-size call (unit_of call.agg call.arg) values, set_size-unit call.agg call.arg)

-- and fits, where they are fewer than 2^64
pub call_state-fits : (call : AggCall) (values : List Value) → All (TakesArgument call) values → total_of (input_size call) values < 2 ^ 64
    → FitsState call.agg call.arg (call_state call values)
call_state-fits call values all few =
    FitsState-few call.agg call.arg (call_state call values) (omega (arith, few, call_state-size call values))
    (merged-IsOver call (unit_of call.agg call.arg) values (unit_of-IsOver call.agg call.arg) all)

-- a list has no more items, each once, than it has
module _ {A : Type 0} (cmp : A → A → Ordering) where
  shorter : (o : Ordering) (x y : A) (ys more : List A) → length more ≤ suc (length ys) → length (by_order o (x ∷ (y ∷ ys)) (y ∷ ys) (y ∷ more)) ≤ suc (length (y ∷ ys))
  shorter Less x y ys more less = omega arith
  shorter Equal x y ys more less = omega arith
  shorter Greater x y ys more less = omega (arith, less)

  put_member-length : (x : A) (ys : List A) → length (put_member cmp x ys) ≤ suc (length ys)
  put_member-length x [] = omega arith
  put_member-length x (y ∷ ys) = shorter (cmp x y) x y ys (put_member cmp x ys) (put_member-length x ys)

  pub members-length : (xs : List A) → length (members cmp xs) ≤ length xs
  members-length [] = omega arith
  members-length (x ∷ xs) = omega (arith, put_member-length x (members cmp xs), members-length xs)

-- an input is of one group at most
below_none : (key : List Value) (keys : List (List Value)) (n : ℕ) → All (λ other. row_cmp key other ≡ Less) keys
    → total_of (λ other. cond (is_eq (row_cmp key other)) n 0) keys ≡ 0
below_none key [] n all = refl
below_none key (other ∷ keys) n all =
    let rest = below_none key keys n (All-tail (λ other. row_cmp key other ≡ Less) other keys all) in
    rw (All-head (λ other. row_cmp key other ≡ Less) other keys all) (omega (arith, rest))

one_group : (key : List Value) (keys : List (List Value)) (n : ℕ) → Rises row_cmp keys → total_of (λ other. cond (is_eq (row_cmp key other)) n 0) keys ≤ n
one_group key [] n rise = omega arith
one_group key (first ∷ keys) n rise =
    elim (row_cmp key first) as (λ o. row_cmp key first ≡ o → cond (is_eq o) n 0 + total_of (λ other. cond (is_eq (row_cmp key other)) n 0) keys ≤ n) [
      | Less ↦ λ e. omega (arith, one_group key keys n rise.1)
      | Equal ↦ λ e.
          let same : key ≡ first = row_cmp-IsAntisymmetric key first e in
          omega (arith, below_none key keys n (subst (λ k. All (λ other. row_cmp k other ≡ Less) keys) (sym same) rise.0))
      | Greater ↦ λ e. omega (arith, one_group key keys n rise.1)
    ] refl

-- the inputs of groups have no more together than all inputs
step : (f : Keyed → ℕ) (input : Keyed) (inputs : List Keyed) (keys : List (List Value))
    → total_of (λ key. total_of f (inputs_of key (input ∷ inputs))) keys
    ≡ total_of (λ key. cond (is_eq (row_cmp input.key key)) (f input) 0) keys + total_of (λ key. total_of f (inputs_of key inputs)) keys
step f input inputs [] = refl
step f input inputs (key ∷ keys) = omega (arith, by (is_eq (row_cmp input.key key)), step f input inputs keys)
  where
    by : (b : Bool) → total_of f (cond b (input ∷ inputs_of key inputs) (inputs_of key inputs)) ≡ cond b (f input) 0 + total_of f (inputs_of key inputs)
    by true = refl
    by false = omega arith

pub total_of-groups : (f : Keyed → ℕ) (keys : List (List Value)) (inputs : List Keyed) → Rises row_cmp keys → total_of (λ key. total_of f (inputs_of key inputs)) keys ≤ total_of f inputs
total_of-groups f keys [] rise = omega (arith, total_of-none (λ (key : List Value). 0) (λ key. refl) keys)
total_of-groups f keys (input ∷ inputs) rise =
    omega (arith, step f input inputs keys, one_group input.key keys (f input) rise, total_of-groups f keys inputs rise)
