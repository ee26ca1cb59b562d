-- The place of the first item that passes a test.
use Rattle.std.proofs.Common.{◌≡◌, ℕ, suc, ◌+◌, ◌<◌, Bool, true, false, cond, not, List, [], ◌∷◌, length, drop, get_or, refl, ap, sym, ◌∙◌, Some, None, arith}
use Rattle.std.proofs.lemmas.List.{drop_more}
use Rattle.std.proofs.lemmas.List.Quantifiers.{position-Some}
use Rattle.std.proofs.lemmas.List.Sums.{prefix_len-le-length}
use Rattle.std.proofs.Math.Seq.{drop-length}
use Rattle.std.specs.List.{position, position_or_len, filter}

-- the place of the first that passes
pub at_place : {X : Type 0} (p : X → Bool) (xs : List X) (i : ℕ) → position p xs ≡ Some i → (position_or_len p xs ≡ i) × (i < length xs)
at_place p xs i h = (grind (arith, h), grind (arith, h))

-- none passes
at_end : {X : Type 0} (p : X → Bool) (xs : List X) → position p xs ≡ None → position_or_len p xs ≡ length xs
at_end p xs h = grind (arith, h, prefix_len-le-length (λ x. not (p x)) xs)

-- one more to drop from a longer list
drop-cons : {X : Type 0} (n : ℕ) (x : X) (xs : List X) → drop (1 + n) (x ∷ xs) ≡ drop n xs
drop-cons n x xs = let one : 1 + n ≡ suc n = omega arith in rw one refl

-- nothing in front of the first that passes does
filter-front : {X : Type 0} (p : X → Bool) (xs : List X) → filter p (drop (position_or_len p xs) xs) ≡ filter p xs
filter-front p [] = refl
filter-front p (x ∷ xs) =
    let n = position_or_len p xs in
    elim (p x) as (λ w. p x ≡ w → filter p (drop (cond (not w) (1 + n) 0) (x ∷ xs)) ≡ cond w (x ∷ filter p xs) (filter p xs)) [
      | true ↦ λ passes. ap (λ (b : Bool). cond b (x ∷ filter p xs) (filter p xs)) passes
      | false ↦ λ _. ap (filter p) (drop-cons n x xs) ∙ filter-front p xs
    ] refl

-- what passes, by the place of the first
pub filter-first : {X : Type 0} (p : X → Bool) (xs : List X) (i : ℕ) (d : X) → position p xs ≡ Some i → filter p xs ≡ get_or xs i d ∷ filter p (drop (i + 1) xs)
filter-first p xs i d h =
    let found = at_place p xs i h in
    let passes = (position-Some p xs i d h).1 in
    sym (filter-front p xs) ∙ ap (λ (n : ℕ). filter p (drop n xs)) found.0 ∙ ap (filter p) (drop_more xs i d found.1)
    ∙ ap (λ (b : Bool). cond b (get_or xs i d ∷ filter p (drop (i + 1) xs)) (filter p (drop (i + 1) xs))) passes

pub filter-none : {X : Type 0} (p : X → Bool) (xs : List X) → position p xs ≡ None → filter p xs ≡ []
filter-none p xs h = sym (filter-front p xs) ∙ ap (λ (n : ℕ). filter p (drop n xs)) (at_end p xs h) ∙ ap (filter p) (drop-length xs)
