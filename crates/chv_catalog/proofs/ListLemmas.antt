-- Lists of names.
use Rattle.std.proofs.Common.{◌≡◌, ◌∙◌, ◌||◌, ◌<◌, ◌+◌, ℕ, Bool, true, false, List, [], ◌∷◌, ◌++◌, Some, None, is_some, refl, ap, sym, length, map, take, drop, get_or, append-nil}
use Rattle.std.specs.List.{list_any}
use Rattle.std.specs.Str.{bytes_eq}
use Rattle.std.proofs.lemmas.List.{map_more, map-append, take-append-drop}
use Rattle.std.proofs.lemmas.List.Elements.{filter_map-append}
use Rattle.std.proofs.lemmas.Cmp.{nat_list_eq_equiv}
use Rattle.chv_types.specs.Names.{place_of}
use Rattle.chv_catalog.proofs.Positions.{is_some-position}
use Rattle.chv_catalog.specs.Checks.{has_repeat, places_of}

-- a name is in a list where it is equal to any
pub is_some-place_of : (name : List ℕ) (names : List (List ℕ)) → is_some (place_of name names) ≡ list_any (bytes_eq name) names
is_some-place_of name names = is_some-position (λ (other : List ℕ). bytes_eq other name) names ∙ by names
  where
    by : (names : List (List ℕ)) → list_any (λ (other : List ℕ). bytes_eq other name) names ≡ list_any (bytes_eq name) names
    by [] = refl
    by (other ∷ names) = rw (by names, nat_list_eq_equiv.symm other name) refl

list_any-push : {X : Type 0} (p : X → Bool) (xs : List X) (y : X) → list_any p (xs ++ y ∷ []) ≡ (list_any p xs || p y)
list_any-push p [] y = by (p y)
  where
    by : (b : Bool) → (b || false) ≡ b
    by true = refl
    by false = refl
list_any-push p (x ∷ xs) y = rw (list_any-push p xs y) (by (p x) (list_any p xs) (p y))
  where
    by : (a b c : Bool) → (a || (b || c)) ≡ ((a || b) || c)
    by true b c = refl
    by false b c = refl

-- names and one more: it repeats where they do, or where it is one of them
pub has_repeat-push : (names : List (List ℕ)) (name : List ℕ) → has_repeat (names ++ name ∷ []) ≡ (has_repeat names || is_some (place_of name names))
has_repeat-push [] name = refl
has_repeat-push (other ∷ names) name =
    rw (has_repeat-push names name, is_some-place_of other (names ++ name ∷ []), list_any-push (bytes_eq other) names name, is_some-place_of other names, is_some-place_of name names, is_some-place_of name (other ∷ names), nat_list_eq_equiv.symm other name)
    (by (list_any (bytes_eq other) names) (bytes_eq name other) (has_repeat names) (list_any (bytes_eq name) names))
  where
    by : (a b c d : Bool) → ((a || b) || (c || d)) ≡ ((a || c) || (b || d))
    by true b c d = refl
    by false true true d = refl
    by false true false d = refl
    by false false c d = refl

or_true : (b : Bool) → (b || true) ≡ true
or_true true = refl
or_true false = refl

list_any-append : {X : Type 0} (p : X → Bool) (xs ys : List X) → list_any p xs ≡ true → list_any p (xs ++ ys) ≡ true
list_any-append p [] ys h = cc
list_any-append p (x ∷ xs) ys h = by (p x) h (list_any-append p xs ys)
  where
    by : (b : Bool) → (b || list_any p xs) ≡ true → (list_any p xs ≡ true → list_any p (xs ++ ys) ≡ true) → (b || list_any p (xs ++ ys)) ≡ true
    by true h rest = refl
    by false h rest = rest h

-- what repeats goes on to, whatever follows
pub has_repeat-append : (names more : List (List ℕ)) → has_repeat names ≡ true → has_repeat (names ++ more) ≡ true
has_repeat-append [] more h = cc
has_repeat-append (name ∷ names) more h =
    rw (is_some-place_of name (names ++ more))
    (by (list_any (bytes_eq name) names) (has_repeat names) (ap (λ b. b || has_repeat names) (sym (is_some-place_of name names)) ∙ h)
    (list_any-append (bytes_eq name) names more) (has_repeat-append names more))
  where
    by : (b r : Bool) → (b || r) ≡ true → (b ≡ true → list_any (bytes_eq name) (names ++ more) ≡ true) → (r ≡ true → has_repeat (names ++ more) ≡ true)
        → (list_any (bytes_eq name) (names ++ more) || has_repeat (names ++ more)) ≡ true
    by true r h found rest = rw (found refl) refl
    by false r h found rest = rw (rest h) (or_true (list_any (bytes_eq name) (names ++ more)))

-- the first items and the next one: a name stands twice among them where it did, or where the next one has that of an earlier
pub has_repeat-more : {X : Type 0} (f : X → List ℕ) (xs : List X) (i : ℕ) (d : X) (name : List ℕ) (found : Bool) → i < length xs → name ≡ f (get_or xs i d)
    → is_some (place_of name (map f (take i xs))) ≡ found → has_repeat (map f (take i xs)) ≡ false → has_repeat (map f (take (i + 1) xs)) ≡ found
has_repeat-more f xs i d name found h e p none =
    rw (map_more f xs i d h, ← e, has_repeat-push (map f (take i xs)) name, none) p

-- what the first items repeat, all of them do
pub has_repeat-take : {X : Type 0} (f : X → List ℕ) (xs : List X) (i : ℕ) → has_repeat (map f (take i xs)) ≡ true → has_repeat (map f xs) ≡ true
has_repeat-take f xs i h =
    rw (← take-append-drop i xs, map-append f (take i xs) (drop i xs)) (has_repeat-append (map f (take i xs)) (map f (drop i xs)) h)

-- one name more, which is that of a column
pub places_of-Some : {X : Type 0} (columns : List (List ℕ)) (f : X → List ℕ) (xs : List X) (i : ℕ) (d : X) (name : List ℕ) (place : ℕ) → i < length xs → name ≡ f (get_or xs i d)
    → place_of name columns ≡ Some place → places_of columns (map f (take (i + 1) xs)) ≡ places_of columns (map f (take i xs)) ++ place ∷ []
places_of-Some columns f xs i d name place h at found =
    rw (map_more f xs i d h, ← at, filter_map-append (λ (name : List ℕ). place_of name columns) (map f (take i xs)) (name ∷ []), found) refl

-- or which is that of none
pub places_of-None : {X : Type 0} (columns : List (List ℕ)) (f : X → List ℕ) (xs : List X) (i : ℕ) (d : X) (name : List ℕ) → i < length xs → name ≡ f (get_or xs i d)
    → place_of name columns ≡ None → places_of columns (map f (take (i + 1) xs)) ≡ places_of columns (map f (take i xs))
places_of-None columns f xs i d name h at absent =
    rw (map_more f xs i d h, ← at, filter_map-append (λ (name : List ℕ). place_of name columns) (map f (take i xs)) (name ∷ []), absent)
    (append-nil (places_of columns (map f (take i xs))))

-- a test of what is made of items is a test of the list that is made
pub list_any-map : {X Y : Type 0} (f : X → Y) (p : Y → Bool) (xs : List X) → list_any (λ (x : X). p (f x)) xs ≡ list_any p (map f xs)
list_any-map f p [] = refl
list_any-map f p (x ∷ xs) = rw (list_any-map f p xs) refl
