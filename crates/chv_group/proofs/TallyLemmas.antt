-- The states of calls, one argument of each after the other.
use Rattle.std.proofs.Common.{◌≡◌, ℕ, zero, suc, pos, ◌+◌, ◌<◌, List, [], ◌∷◌, ◌++◌, length, map, drop, take, set, get_or, refl, sym, ap, ap₂, subst, ◌≤◌, ◌∙◌, arith}
use Rattle.std.proofs.lemmas.List.{append-nil, append_assoc, drop_all, drop_more, get_or-map, length-map, take_all, take_more, drop-drop, drop-set-lt, get_or-drop, length-drop, length-take-le, map-append, take_more_set}
use Rattle.std.proofs.lemmas.List.Sums.{fold-append}
use Rattle.std.proofs.lemmas.Option.{unwrap_or-slice_get}
use Rattle.chv_agg.specs.States.{IsOver, join, unit_of}
use Rattle.chv_agg.specs.declared.any_agg.AnyAgg.{AnyAgg}
use Rattle.chv_group.proofs.OverLemmas.{unit_of-IsOver}
use Rattle.chv_group.proofs.PartLemmas.{length-part, part-at, part-set}
use Rattle.chv_group.specs.Groups.{TakesArgument, TakesArguments, argument_at, call_state, input_state, results, state_value}
use Rattle.chv_group.specs.Tallies.{AreOver, fed, part, states_over, unit_value, units, values_of}
use Rattle.chv_group.specs.declared.call.AggCall.{AggCall}
use Rattle.chv_group.specs.declared.call.Keyed.{Keyed}
use Rattle.chv_types.specs.Values.{seen_value}
use Rattle.chv_types.specs.declared.seen.Seen.{Seen}
use Rattle.chv_types.specs.declared.value.Value.{Value}
use Rattle.chv_types.specs.declared.value.Value.TheVariants.{Whole}

-- there are as many states as calls
pub AreOver-length : (calls : List AggCall) (states : List AnyAgg) → AreOver calls states → length states ≡ length calls
AreOver-length [] [] h = refl
AreOver-length [] (state ∷ states) h = absurd h
AreOver-length (call ∷ calls) [] h = absurd h
AreOver-length (call ∷ calls) (state ∷ states) h = ap suc (AreOver-length calls states h.1)

-- and as many arguments
pub TakesArguments-length : (calls : List AggCall) (values : List Value) → TakesArguments calls values → length values ≡ length calls
TakesArguments-length [] [] h = refl
TakesArguments-length [] (value ∷ values) h = absurd h
TakesArguments-length (call ∷ calls) [] h = absurd h
TakesArguments-length (call ∷ calls) (value ∷ values) h = ap suc (TakesArguments-length calls values h.1)

-- the state and the argument of a call, by its place
pub AreOver-at : (calls : List AggCall) (states : List AnyAgg) (place : ℕ) (c : AggCall) (s : AnyAgg) → AreOver calls states → place < length calls
    → IsOver (get_or calls place c).agg (get_or calls place c).arg (get_or states place s)
AreOver-at [] states place c s h within = absurd (omega arith)
AreOver-at (call ∷ calls) [] place c s h within = absurd h
AreOver-at (call ∷ calls) (state ∷ states) zero c s h within = h.0
AreOver-at (call ∷ calls) (state ∷ states) (suc place) c s h within = AreOver-at calls states place c s h.1 (omega arith)

pub TakesArguments-at : (calls : List AggCall) (values : List Value) (place : ℕ) (c : AggCall) (v : Value) → TakesArguments calls values → place < length calls
    → TakesArgument (get_or calls place c) (get_or values place v)
TakesArguments-at [] values place c v h within = absurd (omega arith)
TakesArguments-at (call ∷ calls) [] place c v h within = absurd h
TakesArguments-at (call ∷ calls) (value ∷ values) zero c v h within = h.0
TakesArguments-at (call ∷ calls) (value ∷ values) (suc place) c v h within = TakesArguments-at calls values place c v h.1 (omega arith)

-- a state in the place of another keeps the others
pub AreOver-set : (calls : List AggCall) (states : List AnyAgg) (place : ℕ) (c : AggCall) (s : AnyAgg) → AreOver calls states → place < length calls
    → IsOver (get_or calls place c).agg (get_or calls place c).arg s → AreOver calls (set states place s)
AreOver-set [] states place c s h within one = absurd (omega arith)
AreOver-set (call ∷ calls) [] place c s h within one = absurd h
AreOver-set (call ∷ calls) (state ∷ states) zero c s h within one = (one, h.1)
AreOver-set (call ∷ calls) (state ∷ states) (suc place) c s h within one = (h.0, AreOver-set calls states place c s h.1 (omega arith) one)

pub AreOver-units : (calls : List AggCall) → AreOver calls (units calls)
AreOver-units [] = tt
AreOver-units (call ∷ calls) = (unit_of-IsOver call.agg call.arg, AreOver-units calls)

-- one state more is as all are to be
pub fed-step : (calls : List AggCall) (states : List AnyAgg) (values : List Value) (place : ℕ) (c : AggCall) (s : AnyAgg) (v : Value) (whole : List AnyAgg)
    → place < length calls → place < length states → place < length values
    → take place states ++ fed (drop place calls) (drop place states) (drop place values) ≡ whole
    → take (place + 1) (set states place (join (get_or states place s) (input_state (get_or calls place c) (get_or values place v))))
    ++ fed (drop (place + 1) calls) (drop (place + 1) (set states place (join (get_or states place s) (input_state (get_or calls place c) (get_or values place v))))) (drop (place + 1) values)
    ≡ whole
fed-step calls states values place c s v whole p q r so_far =
    let new : AnyAgg = join (get_or states place s) (input_state (get_or calls place c) (get_or values place v)) in
    let before : take place states ++ (new ∷ fed (drop (place + 1) calls) (drop (place + 1) states) (drop (place + 1) values)) ≡ whole =
    rw (drop_more calls place c p, drop_more states place s q, drop_more values place v r) at so_far in
    rw (take_more_set states place new q, drop-set-lt (place + 1) states place new (omega arith), append_assoc) before

-- the states over inputs with one more are those with its arguments
pub fed-states_over : (calls : List AggCall) (place : ℕ) (inputs : List Keyed) (input : Keyed) (values : List Value) → drop place input.args ≡ values → TakesArguments calls values
    → fed calls (states_over place calls inputs) values ≡ states_over place calls (inputs ++ input ∷ [])
fed-states_over [] place inputs input values here takes = refl
fed-states_over (call ∷ calls) place inputs input [] here takes = absurd takes
fed-states_over (call ∷ calls) place inputs input (value ∷ values) here takes =
    let within : place < length input.args = omega (arith, ap length here, length-drop place input.args) in
    let parts : get_or input.args place (Whole (pos 0)) ∷ drop (place + 1) input.args ≡ value ∷ values = sym (drop_more input.args place (Whole (pos 0)) within) ∙ here in
    let argument : argument_at place input ≡ value = unwrap_or-slice_get input.args place (Whole (pos 0)) ∙ ap (λ (l : List Value). get_or l 0 value) parts in
    let rest : drop (place + 1) input.args ≡ values = ap (λ (l : List Value). drop 1 l) parts in
    let first : join (call_state call (map (argument_at place) inputs)) (input_state call value) ≡ call_state call (map (argument_at place) (inputs ++ input ∷ [])) =
    rw (
      map-append (argument_at place) inputs (input ∷ []),
      map-append (input_state call) (map (argument_at place) inputs) (argument_at place input ∷ []),
      fold-append join (unit_of call.agg call.arg) (map (input_state call) (map (argument_at place) inputs)) (input_state call (argument_at place input) ∷ []),
      argument,
    ) refl in
    ap₂ (λ (t : AnyAgg) (ts : List AnyAgg). t ∷ ts) first (fed-states_over calls (place + 1) inputs input values rest takes.1)

-- the states over no inputs are those of no values
pub states_over-none : (calls : List AggCall) (place : ℕ) → states_over place calls [] ≡ units calls
states_over-none [] place = refl
states_over-none (call ∷ calls) place = ap (λ (ts : List AnyAgg). unit_of call.agg call.arg ∷ ts) (states_over-none calls (place + 1))

-- what calls give of the states over inputs are their results
pub values_of-states_over : (calls : List AggCall) (place : ℕ) (inputs : List Keyed) → values_of calls (states_over place calls inputs) ≡ results place calls inputs
values_of-states_over [] place inputs = refl
values_of-states_over (call ∷ calls) place inputs = rw (values_of-states_over calls (place + 1) inputs) refl

-- what a step over arguments that are seen needs
pub takes-at : (calls : List AggCall) (args : List Seen) (place : ℕ) (c : AggCall) (d : Seen) → TakesArguments calls (map seen_value args) → place < length calls → length args ≡ length calls
    → TakesArgument (get_or calls place c) (seen_value (get_or args place d))
takes-at calls args place c d takes within size =
    subst (TakesArgument (get_or calls place c)) (get_or-map seen_value args place d (seen_value d) (omega arith)) (TakesArguments-at calls (map seen_value args) place c (seen_value d) takes within)

pub over-at : (calls : List AggCall) (states : List AnyAgg) (place : ℕ) (c : AggCall) (s : AnyAgg) → AreOver calls states → place < length calls → s ≡ get_or states place s
    → IsOver (get_or calls place c).agg (get_or calls place c).arg s
over-at calls states place c s over within is =
    subst (IsOver (get_or calls place c).agg (get_or calls place c).arg) (sym is) (AreOver-at calls states place c s over within)

-- and what it gives
pub take-step : (calls : List AggCall) (args : List Seen) (states : List AnyAgg) (place : ℕ) (c : AggCall) (d : Seen) (s new : AnyAgg) (whole : List AnyAgg)
    → place < length calls → length args ≡ length calls → length states ≡ length calls → s ≡ get_or states place s
    → new ≡ join s (input_state (get_or calls place c) (seen_value (get_or args place d)))
    → take place states ++ fed (drop place calls) (drop place states) (drop place (map seen_value args)) ≡ whole
    → take (place + 1) (set states place new) ++ fed (drop (place + 1) calls) (drop (place + 1) (set states place new)) (drop (place + 1) (map seen_value args)) ≡ whole
take-step calls args states place c d s new whole within args_size states_size is taken so_far =
    let long : length (map seen_value args) ≡ length args = length-map args seen_value in
    let made : new ≡ join (get_or states place s) (input_state (get_or calls place c) (get_or (map seen_value args) place (seen_value d))) =
    taken ∙ ap (λ (state : AnyAgg). join state (input_state (get_or calls place c) (seen_value (get_or args place d)))) is
    ∙ ap (λ (value : Value). join (get_or states place s) (input_state (get_or calls place c) value)) (sym (get_or-map seen_value args place d (seen_value d) (omega arith))) in
    subst (λ (state : AnyAgg). take (place + 1) (set states place state) ++ fed (drop (place + 1) calls) (drop (place + 1) (set states place state)) (drop (place + 1) (map seen_value args)) ≡ whole)
    (sym made) (fed-step calls states (map seen_value args) place c s (seen_value d) whole within (omega arith) (omega arith) so_far)

-- at the end all are fed
pub take-end : (calls : List AggCall) (values : List Value) (states : List AnyAgg) (place : ℕ) (whole : List AnyAgg) → length calls ≤ place → length states ≡ length calls
    → take place states ++ fed (drop place calls) (drop place states) (drop place values) ≡ whole → states ≡ whole
take-end calls values states place whole behind size so_far =
    rw (take_all place states (omega arith), drop_all place calls behind, append-nil) at so_far

-- the same for states that stand among others
pub take-part-step : (calls : List AggCall) (args : List Seen) (tallies : List AnyAgg) (first place : ℕ) (c : AggCall) (d : Seen) (s new : AnyAgg) (whole : List AnyAgg)
    → place < length calls → length args ≡ length calls → first + length calls ≤ length tallies → s ≡ get_or tallies (first + place) s
    → new ≡ join s (input_state (get_or calls place c) (seen_value (get_or args place d)))
    → take place (part first (length calls) tallies) ++ fed (drop place calls) (drop place (part first (length calls) tallies)) (drop place (map seen_value args)) ≡ whole
    → take (place + 1) (part first (length calls) (set tallies (first + place) new))
    ++ fed (drop (place + 1) calls) (drop (place + 1) (part first (length calls) (set tallies (first + place) new))) (drop (place + 1) (map seen_value args)) ≡ whole
take-part-step calls args tallies first place c d s new whole within args_size inside is taken so_far =
    let here : s ≡ get_or (part first (length calls) tallies) place s = is ∙ sym (part-at first (length calls) tallies place s within) in
    subst (λ (mine : List AnyAgg). take (place + 1) mine ++ fed (drop (place + 1) calls) (drop (place + 1) mine) (drop (place + 1) (map seen_value args)) ≡ whole)
    (sym (part-set first (length calls) tallies place new within))
    (take-step calls args (part first (length calls) tallies) place c d s new whole within args_size (length-part first (length calls) tallies inside) here taken so_far)

pub over-part-step : (calls : List AggCall) (tallies : List AnyAgg) (first place : ℕ) (c : AggCall) (new : AnyAgg) → place < length calls → AreOver calls (part first (length calls) tallies)
    → IsOver (get_or calls place c).agg (get_or calls place c).arg new → AreOver calls (part first (length calls) (set tallies (first + place) new))
over-part-step calls tallies first place c new within over one =
    subst (AreOver calls) (sym (part-set first (length calls) tallies place new within)) (AreOver-set calls (part first (length calls) tallies) place c new over within one)

pub over-part-at : (calls : List AggCall) (tallies : List AnyAgg) (first place : ℕ) (c : AggCall) (s : AnyAgg) → AreOver calls (part first (length calls) tallies) → place < length calls
    → s ≡ get_or tallies (first + place) s → IsOver (get_or calls place c).agg (get_or calls place c).arg s
over-part-at calls tallies first place c s over within is =
    over-at calls (part first (length calls) tallies) place c s over within (is ∙ sym (part-at first (length calls) tallies place s within))

-- the states over one argument each, with one call more
fed-push : (calls : List AggCall) (call : AggCall) (values : List Value) (value : Value) → length values ≡ length calls
    → fed (calls ++ call ∷ []) (units (calls ++ call ∷ [])) (values ++ value ∷ []) ≡ fed calls (units calls) values ++ join (unit_of call.agg call.arg) (input_state call value) ∷ []
fed-push [] call [] value size = refl
fed-push [] call (other ∷ values) value size = absurd (omega (arith, size))
fed-push (first ∷ calls) call [] value size = absurd (omega (arith, size))
fed-push (first ∷ calls) call (other ∷ values) value size =
    ap (λ (states : List AnyAgg). join (unit_of first.agg first.arg) (input_state first other) ∷ states) (fed-push calls call values value (omega (arith, size)))

AreOver-push : (calls : List AggCall) (states : List AnyAgg) (call : AggCall) (state : AnyAgg) → AreOver calls states → IsOver call.agg call.arg state
    → AreOver (calls ++ call ∷ []) (states ++ state ∷ [])
AreOver-push [] [] call state over one = (one, tt)
AreOver-push [] (other ∷ states) call state over one = absurd over
AreOver-push (first ∷ calls) [] call state over one = absurd over
AreOver-push (first ∷ calls) (other ∷ states) call state over one = (over.0, AreOver-push calls states call state over.1 one)

first-more : (calls : List AggCall) (args : List Seen) (i : ℕ) (c : AggCall) (d : Seen) (new : AnyAgg) → i < length calls → length args ≡ length calls
    → new ≡ join (unit_of (get_or calls i c).agg (get_or calls i c).arg) (input_state (get_or calls i c) (seen_value (get_or args i d)))
    → fed (take (i + 1) calls) (units (take (i + 1) calls)) (take (i + 1) (map seen_value args)) ≡ fed (take i calls) (units (take i calls)) (take i (map seen_value args)) ++ new ∷ []
first-more calls args i c d new within size made =
    let call = get_or calls i c in
    let values = map seen_value args in
    let long : length values ≡ length args = length-map args seen_value in
    let same : get_or values i (seen_value d) ≡ seen_value (get_or args i d) = get_or-map seen_value args i d (seen_value d) (omega arith) in
    let some : length (take i values) ≡ length (take i calls) =
    length-take-le i values (omega arith) ∙ sym (length-take-le i calls (omega arith)) in
    let last : join (unit_of call.agg call.arg) (input_state call (get_or values i (seen_value d))) ≡ new =
    ap (λ (value : Value). join (unit_of call.agg call.arg) (input_state call value)) same ∙ sym made in
    ap₂ (λ (cs : List AggCall) (vs : List Value). fed cs (units cs) vs) (take_more calls i c within) (take_more values i (seen_value d) (omega arith))
    ∙ fed-push (take i calls) call (take i values) (get_or values i (seen_value d)) some
    ∙ ap (λ (state : AnyAgg). fed (take i calls) (units (take i calls)) (take i values) ++ state ∷ []) last

pub first-step : (calls : List AggCall) (args : List Seen) (i : ℕ) (c : AggCall) (d : Seen) (new : AnyAgg) (old before after : List AnyAgg) → i < length calls → length args ≡ length calls
    → new ≡ join (unit_of (get_or calls i c).agg (get_or calls i c).arg) (input_state (get_or calls i c) (seen_value (get_or args i d)))
    → after ≡ before ++ new ∷ [] → before ≡ old ++ fed (take i calls) (units (take i calls)) (take i (map seen_value args))
    → after ≡ old ++ fed (take (i + 1) calls) (units (take (i + 1) calls)) (take (i + 1) (map seen_value args))
first-step calls args i c d new old before after within size made pushed so_far =
    let states = fed (take i calls) (units (take i calls)) (take i (map seen_value args)) in
    pushed ∙ ap (λ (some : List AnyAgg). some ++ new ∷ []) so_far ∙ append_assoc old states (new ∷ [])
    ∙ ap (λ (some : List AnyAgg). old ++ some) (sym (first-more calls args i c d new within size made))

pub first-over-step : (calls : List AggCall) (args : List Seen) (i : ℕ) (c : AggCall) (d : Seen) (new : AnyAgg) → i < length calls → length args ≡ length calls
    → new ≡ join (unit_of (get_or calls i c).agg (get_or calls i c).arg) (input_state (get_or calls i c) (seen_value (get_or args i d)))
    → IsOver (get_or calls i c).agg (get_or calls i c).arg new
    → AreOver (take i calls) (fed (take i calls) (units (take i calls)) (take i (map seen_value args)))
    → AreOver (take (i + 1) calls) (fed (take (i + 1) calls) (units (take (i + 1) calls)) (take (i + 1) (map seen_value args)))
first-over-step calls args i c d new within size made one over =
    subst (AreOver (take (i + 1) calls)) (sym (first-more calls args i c d new within size made))
    (subst (λ (cs : List AggCall). AreOver cs (fed (take i calls) (units (take i calls)) (take i (map seen_value args)) ++ new ∷ [])) (sym (take_more calls i c within))
    (AreOver-push (take i calls) (fed (take i calls) (units (take i calls)) (take i (map seen_value args))) (get_or calls i c) new over one))

-- all calls are the first so many
pub first-end : (calls : List AggCall) (args : List Seen) (i : ℕ) → length calls ≤ i → length args ≡ length calls
    → fed (take i calls) (units (take i calls)) (take i (map seen_value args)) ≡ fed calls (units calls) (map seen_value args)
first-end calls args i behind size =
    ap₂ (λ (cs : List AggCall) (vs : List Value). fed cs (units cs) vs) (take_all i calls behind) (take_all i (map seen_value args) (omega (arith, length-map args seen_value)))

-- what calls give of no inputs
pub values_of-units : (calls : List AggCall) → values_of calls (units calls) ≡ map unit_value calls
values_of-units [] = refl
values_of-units (call ∷ calls) = ap (λ (values : List Value). unit_value call ∷ values) (values_of-units calls)

-- what calls give of states of which the first are taken out
out-at : (calls : List AggCall) (tallies all : List AnyAgg) (first place : ℕ) (s : AnyAgg) → place < length calls → drop place (part first (length calls) tallies) ≡ drop place all
    → s ≡ get_or tallies (first + place) s → s ≡ get_or all place s
out-at calls tallies all first place s within left is =
    is ∙ sym (part-at first (length calls) tallies place s within) ∙ at_drop (part first (length calls) tallies) place s
    ∙ ap (λ (states : List AnyAgg). get_or states 0 s) left ∙ sym (at_drop all place s)
  where
    at_drop : (xs : List AnyAgg) (n : ℕ) (d : AnyAgg) → get_or xs n d ≡ get_or (drop n xs) 0 d
    at_drop xs n d = ap (λ (k : ℕ). get_or xs k d) (omega arith) ∙ sym (get_or-drop n xs 0 d)

pub out-taken : (calls : List AggCall) (tallies all : List AnyAgg) (first place : ℕ) (s t : AnyAgg) → place < length calls → drop place (part first (length calls) tallies) ≡ drop place all
    → s ≡ get_or tallies (first + place) s → t ≡ s → t ≡ get_or all place t
out-taken calls tallies all first place s t within left is same =
    same ∙ out-at calls tallies all first place s within left is ∙ ap (λ (d : AnyAgg). get_or all place d) (sym same)

pub out-left : (calls : List AggCall) (tallies all : List AnyAgg) (first place : ℕ) (other : AnyAgg) → place < length calls → drop place (part first (length calls) tallies) ≡ drop place all
    → drop (place + 1) (part first (length calls) (set tallies (first + place) other)) ≡ drop (place + 1) all
out-left calls tallies all first place other within left =
    ap (drop (place + 1)) (part-set first (length calls) tallies place other within)
    ∙ drop-set-lt (place + 1) (part first (length calls) tallies) place other (omega arith)
    ∙ sym (drop-drop 1 place (part first (length calls) tallies)) ∙ ap (drop 1) left ∙ drop-drop 1 place all

pub value-step : (calls : List AggCall) (place : ℕ) (c : AggCall) (states : List AnyAgg) (s : AnyAgg) (row new whole : List Value) (value : Value)
    → place < length calls → length states ≡ length calls → s ≡ get_or states place s → value ≡ state_value (get_or calls place c) s → new ≡ row ++ value ∷ []
    → row ++ values_of (drop place calls) (drop place states) ≡ whole → new ++ values_of (drop (place + 1) calls) (drop (place + 1) states) ≡ whole
value-step calls place c states s row new whole value within size is made pushed so_far =
    let split : values_of (drop place calls) (drop place states) ≡ state_value (get_or calls place c) s ∷ values_of (drop (place + 1) calls) (drop (place + 1) states) =
    ap₂ (λ (some : List AggCall) (left : List AnyAgg). values_of some left) (drop_more calls place c within) (drop_more states place s (omega arith))
    ∙ ap (λ (state : AnyAgg). state_value (get_or calls place c) state ∷ values_of (drop (place + 1) calls) (drop (place + 1) states)) (sym is) in
    rw (pushed, made, append_assoc) (ap (λ (values : List Value). row ++ values) (sym split) ∙ so_far)

pub value-end : (calls : List AggCall) (place : ℕ) (states : List AnyAgg) (made whole : List Value) → length calls ≤ place → made ++ values_of (drop place calls) (drop place states) ≡ whole
    → made ≡ whole
value-end calls place states made whole behind so_far =
    sym (append-nil made) ∙ ap (λ (some : List AggCall). made ++ values_of some (drop place states)) (sym (drop_all place calls behind)) ∙ so_far
