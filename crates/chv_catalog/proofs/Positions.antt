-- The first item of a list that passes a test.
use Rattle.std.proofs.Common.{◌≡◌, ◌∙◌, ◌+◌, ◌||◌, ℕ, suc, Bool, true, false, not, cond, nat_lt, List, [], ◌∷◌, ◌++◌, length, map, Option, Some, None, is_some, option_map, refl, sym, ap, arith}
use Prim.Native.Nat.compare
use Rattle.std.proofs.lemmas.Bool.{lt-ltb}
use Rattle.std.specs.List.{position, position_or_len, list_any}
use Rattle.std.specs.Option.{option_or}

one_more : (n : ℕ) → 1 + n ≡ suc n
one_more n = omega arith

module _ {X : Type 0} (p : X → Bool) where
  -- it is the first, or the first behind that
  pub position-cons : (x : X) (xs : List X) → position p (x ∷ xs) ≡ cond (p x) (Some 0) (option_map suc (position p xs))
  position-cons x xs = by (p x)
    where
      within : (b : Bool) → cond b (Some (suc (position_or_len p xs))) None ≡ option_map suc (cond b (Some (position_or_len p xs)) None)
      within true = refl
      within false = refl

      by : (b : Bool) → cond (nat_lt (cond (not b) (1 + position_or_len p xs) 0) (suc (length xs))) (Some (cond (not b) (1 + position_or_len p xs) 0)) None
          ≡ cond b (Some 0) (option_map suc (position p xs))
      by true = rw (lt-ltb 0 (suc (length xs)) (omega arith)) refl
      by false = rw (one_more (position_or_len p xs), compare.suc-suc) (within (nat_lt (position_or_len p xs) (length xs)))

  -- there is one where any item passes
  pub is_some-position : (xs : List X) → is_some (position p xs) ≡ list_any p xs
  is_some-position [] = refl
  is_some-position (x ∷ xs) = ap is_some (position-cons x xs) ∙ by (p x) (position p xs) (is_some-position xs)
    where
      by : (b : Bool) (o : Option ℕ) → is_some o ≡ list_any p xs → is_some (cond b (Some 0) (option_map suc o)) ≡ (b || list_any p xs)
      by true o h = refl
      by false None h = h
      by false (Some k) h = h

  -- the place in a list and one item more: the one that it was, or the last
  pub position-push : (xs : List X) (y : X)
      → position p (xs ++ y ∷ []) ≡ option_or (position p xs) (cond (p y) (Some (length xs)) None)
  position-push [] y = position-cons y []
  position-push (x ∷ xs) y = position-cons x (xs ++ y ∷ []) ∙ rw (position-push xs y, position-cons x xs) (by (p x) (position p xs) (p y))
    where
      by : (b : Bool) (o : Option ℕ) (c : Bool) → cond b (Some 0) (option_map suc (option_or o (cond c (Some (length xs)) None)))
          ≡ option_or (cond b (Some 0) (option_map suc o)) (cond c (Some (suc (length xs))) None)
      by true o c = refl
      by false None true = refl
      by false None false = refl
      by false (Some k) c = refl

-- among images an item stands where it stands itself
pub position-map : {X Y : Type 0} (f : X → Y) (p : Y → Bool) (xs : List X) → position (λ x. p (f x)) xs ≡ position p (map f xs)
position-map f p [] = refl
position-map f p (x ∷ xs) = position-cons (λ y. p (f y)) x xs ∙ rw (position-map f p xs) (sym (position-cons p (f x) (map f xs)))
