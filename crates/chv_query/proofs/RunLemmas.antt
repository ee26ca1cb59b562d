-- Rows of queries, one behind the other.
use Rattle.std.proofs.Common.{◌≡◌, ◌<◌, ◌++◌, ◌∙◌, ℕ, zero, suc, Bool, true, false, cond, List, [], ◌∷◌, length, get_or, take, Option, None, Some, refl, sym, arith, option_map}
use Rattle.std.specs.List.{position}
use Rattle.chv_catalog.proofs.Positions.{position-cons}
use Rattle.chv_types.specs.declared.value.Value.{Value}

-- values, and those behind them
abbrev pub behind : List Value → Option (List Value) → Option (List Value)
behind values more = option_map (λ others. values ++ others) more

-- where neither the first item passes nor one behind it
none_of_both : (first : Bool) (rest : Option ℕ) → cond first (Some 0) (option_map suc rest) ≡ None → (first ≡ false) × (rest ≡ None)
none_of_both true rest h = cc
none_of_both false None h = (refl, refl)
none_of_both false (Some place) h = cc

-- the first item that passes stands behind those that do not
pub position-first : {X : Type 0} (p : X → Bool) (xs : List X) (i : ℕ) (x : X) → i < length xs → x ≡ get_or xs i x → position p (take i xs) ≡ None → p x ≡ true
    → position p xs ≡ Some i
position-first p [] i x within is none passes = absurd (omega arith)
position-first p (first ∷ xs) zero x within is none passes = position-cons p first xs ∙ rw (← is, passes) refl
position-first p (first ∷ xs) (suc i) x within is none passes =
    let before = none_of_both (p first) (position p (take i xs)) (sym (position-cons p first (take i xs)) ∙ none) in
    position-cons p first xs ∙ rw (before.0, position-first p xs i x (omega arith) is before.1 passes) refl

-- where none passes, and one more does not, none passes
pub none-more : {X : Type 0} (p : X → Bool) (xs : List X) (x : X) → position p xs ≡ None → p x ≡ false → position p (xs ++ x ∷ []) ≡ None
none-more p [] x none fails = position-cons p x [] ∙ rw fails refl
none-more p (first ∷ xs) x none fails =
    let before = none_of_both (p first) (position p xs) (sym (position-cons p first xs) ∙ none) in
    position-cons p first (xs ++ x ∷ []) ∙ rw (before.0, none-more p xs x before.1 fails) refl
