-- The bytes of keys held as vectors, and their places.
use Rattle.std.proofs.Common.{Result, Ok, Err, OnOk, IfOk, ◌≡◌, ◌∙◌, ◌+◌, ◌||◌, ap₂, map, ℤ, ℕ, suc, Bool, true, false, not, cond, nat_lt, List, [], ◌∷◌, ◌++◌, length, Option, Some, None, is_some, option_map, refl, sym, ap, arith}
use Prim.Native.Nat.compare
use Rattle.std.proofs.lemmas.Bool.{lt-ltb}
use Rattle.std.proofs.lemmas.Bool.Decides.{Decides-int_eq}
use Rattle.std.proofs.lemmas.Cmp.{nat_list_eq_equiv}
use Rattle.std.proofs.lemmas.List.{length-map}
use Rattle.std.proofs.lemmas.List.Elements.{All-cons, All-head, All-nil, All-tail}
use Rattle.std.proofs.lemmas.Slice.Eq.{bytes_eq-Decides}
use Rattle.std.specs.Int.{w128}
use Rattle.std.specs.Int.RustNames.{FitsSigned}
use Rattle.std.specs.Ordering.{int_eq}
use Rattle.std.specs.List.{All, position, position_or_len, prefix_len, list_any}
use Rattle.std.specs.Str.{bytes_eq}
use Rattle.std.specs.declared.alloc.Global.{Global}
use Rattle.std.specs.declared.vec.Vec.{Vec}
use Rattle.indexmap.specs.IndexSet.{insert_key}
use Rattle.chv_group.proofs.KeyBytesLemmas.{same_key}
use Rattle.chv_group.specs.KeyBytes.{IsHeld, key_bytes, names_of, number_name, texts_of}
use Rattle.chv_types.specs.Names.{place_of}
use Rattle.chv_types.specs.declared.value.Value.{Value}
use Rattle.chv_types.specs.declared.value.Value.TheVariants.{Whole}

one_more : (n : ℕ) → 1 + n ≡ suc n
one_more n = omega arith

module _ {X : Type 0} (p : X → Bool) where
  -- it is the first, or the first behind that
  pub position-cons : (x : X) (xs : List X) → position p (x ∷ xs) ≡ cond (p x) (Some 0) (option_map suc (position p xs))
  position-cons x xs = by (p x)
    where
      within : (b : Bool) → cond b (Some (suc (position_or_len p xs))) None ≡ option_map suc (cond b (Some (position_or_len p xs)) None)
      within true = refl
      within false = refl

      by : (b : Bool) → cond (nat_lt (cond (not b) (1 + position_or_len p xs) 0) (suc (length xs))) (Some (cond (not b) (1 + position_or_len p xs) 0)) None
          ≡ cond b (Some 0) (option_map suc (position p xs))
      by true = rw (lt-ltb 0 (suc (length xs)) (omega arith)) refl
      by false = rw (one_more (position_or_len p xs), compare.suc-suc) (within (nat_lt (position_or_len p xs) (length xs)))

  -- there is one where any item passes
  pub is_some-position : (xs : List X) → is_some (position p xs) ≡ list_any p xs
  is_some-position [] = refl
  is_some-position (x ∷ xs) = ap is_some (position-cons x xs) ∙ by (p x) (position p xs) (is_some-position xs)
    where
      by : (b : Bool) (o : Option ℕ) → is_some o ≡ list_any p xs → is_some (cond b (Some 0) (option_map suc o)) ≡ (b || list_any p xs)
      by true o h = refl
      by false None h = h
      by false (Some k) h = h

prefix_len-texts_of : (name : List ℕ) (keys : List (Vec ℕ Global))
    → prefix_len (λ key. not (bytes_eq name key.items)) keys ≡ prefix_len (λ other. not (bytes_eq other name)) (texts_of keys)
prefix_len-texts_of name [] = refl
prefix_len-texts_of name (key ∷ keys) = rw (prefix_len-texts_of name keys, nat_list_eq_equiv.symm name key.items) refl

pub length-texts_of : (keys : List (Vec ℕ Global)) → length (texts_of keys) ≡ length keys
length-texts_of [] = refl
length-texts_of (key ∷ keys) = rw (length-texts_of keys) refl

-- the first vector with the bytes of a name is where the name is first
pub position-texts_of : (name : List ℕ) (keys : List (Vec ℕ Global)) → position (λ key. bytes_eq name key.items) keys ≡ place_of name (texts_of keys)
position-texts_of name keys = rw (prefix_len-texts_of name keys, length-texts_of keys) refl

-- one vector more is one text more
pub texts_of-append : (keys : List (Vec ℕ Global)) (key : Vec ℕ Global) → texts_of (keys ++ key ∷ []) ≡ texts_of keys ++ key.items ∷ []
texts_of-append [] key = refl
texts_of-append (other ∷ keys) key = rw (texts_of-append keys key) refl

-- a vector whose bytes are no name's goes behind the others
pub texts_of-insert_key : (key : Vec ℕ Global) (keys : List (Vec ℕ Global)) → place_of key.items (texts_of keys) ≡ None
    → texts_of (insert_key (λ a b. bytes_eq a.items b.items) keys key) ≡ texts_of keys ++ key.items ∷ []
texts_of-insert_key key keys new =
    let absent : list_any (λ other. bytes_eq key.items other.items) keys ≡ false =
    sym (is_some-position (λ (other : Vec ℕ Global). bytes_eq key.items other.items) keys) ∙ ap is_some (position-texts_of key.items keys ∙ new) in
    rw absent (texts_of-append keys key)

-- what is found in front is found, and what is not may be behind it
module _ {X : Type 0} (p : X → Bool) where
  pub position-front : (xs ys : List X) (place : ℕ) → position p xs ≡ Some place → position p (xs ++ ys) ≡ Some place
  position-front [] ys place at = cc
  position-front (x ∷ xs) ys place at =
      position-cons p x (xs ++ ys) ∙ by (p x) (position p xs) (position p (xs ++ ys)) (λ k e. position-front xs ys k e) (sym (position-cons p x xs) ∙ at)
    where
      by : (b : Bool) (o whole : Option ℕ) → ((k : ℕ) → o ≡ Some k → whole ≡ Some k) → cond b (Some 0) (option_map suc o) ≡ Some place → cond b (Some 0) (option_map suc whole) ≡ Some place
      by true o whole h e = e
      by false None whole h e = cc
      by false (Some k) whole h e = ap (option_map suc) (h k refl) ∙ e

  pub position-behind : (xs ys : List X) → position p xs ≡ None → position p (xs ++ ys) ≡ option_map (λ place. length xs + place) (position p ys)
  position-behind [] ys none = by (position p ys)
    where
      by : (o : Option ℕ) → o ≡ option_map (λ place. 0 + place) o
      by None = refl
      by (Some k) = ap (λ (n : ℕ). Some n) (omega arith)
  position-behind (x ∷ xs) ys none =
      position-cons p x (xs ++ ys) ∙ by (p x) (position p xs) (λ e. position-behind xs ys e) (sym (position-cons p x xs) ∙ none)
    where
      more : (o : Option ℕ) → option_map suc (option_map (λ place. length xs + place) o) ≡ option_map (λ place. suc (length xs) + place) o
      more None = refl
      more (Some k) = ap (λ (n : ℕ). Some n) (omega arith)

      by : (b : Bool) (o : Option ℕ) → (o ≡ None → position p (xs ++ ys) ≡ option_map (λ place. length xs + place) (position p ys)) → cond b (Some 0) (option_map suc o) ≡ None
          → cond b (Some 0) (option_map suc (position p (xs ++ ys))) ≡ option_map (λ place. suc (length xs) + place) (position p ys)
      by true o h e = cc
      by false None h e = ap (option_map suc) (h refl) ∙ more (position p ys)
      by false (Some k) h e = cc

one_held : (n : ℤ) → FitsSigned w128 n → All IsHeld (Whole n ∷ [])
one_held n h = All-cons IsHeld (Whole n) [] h (All-nil IsHeld)

-- keys of one number have the same bytes where they have the same number
same_number : (m n : ℤ) → FitsSigned w128 m → FitsSigned w128 n → bytes_eq (number_name m) (number_name n) ≡ int_eq n m
same_number m n fit fits =
    elim (int_eq n m) as (λ b. int_eq n m ≡ b → bytes_eq (number_name m) (number_name n) ≡ b) [
      | true ↦ λ e.
          let same : n ≡ m = (Decides-int_eq n m).0 e in
          ap (λ (k : ℤ). bytes_eq (number_name m) (number_name k)) same ∙ nat_list_eq_equiv.refl (number_name m)
      | false ↦ λ e. differ (bytes_eq (number_name m) (number_name n)) refl e
    ] refl
  where
    differ : (b : Bool) → bytes_eq (number_name m) (number_name n) ≡ b → int_eq n m ≡ false → b ≡ false
    differ false is e = refl
    differ true is e =
        let keys : Whole m ∷ [] ≡ Whole n ∷ [] =
        same_key (Whole m ∷ []) (Whole n ∷ []) (one_held m fit) (one_held n fits) ((bytes_eq-Decides (number_name m) (number_name n)).0 is) in
        let same : m ≡ n = cc in
        let yes : int_eq n m ≡ true = (Decides-int_eq n m).1 (sym same) in cc

-- a number is found where the bytes of its key are
pub place_of-number : (n : ℤ) (numbers : List ℤ) → FitsSigned w128 n → All (FitsSigned w128) numbers
    → place_of (number_name n) (map number_name numbers) ≡ position (int_eq n) numbers
place_of-number n [] fits all = refl
place_of-number n (m ∷ numbers) fits all =
    position-cons (λ (other : List ℕ). bytes_eq other (number_name n)) (number_name m) (map number_name numbers)
    ∙ ap₂ (λ (b : Bool) (o : Option ℕ). cond b (Some 0) (option_map suc o))
    (same_number m n (All-head (FitsSigned w128) m numbers all) fits) (place_of-number n numbers fits (All-tail (FitsSigned w128) m numbers all))
    ∙ sym (position-cons (int_eq n) m numbers)

-- the bytes of another key are those of no number
pub place_of-other : (key : List Value) (numbers : List ℤ) → All IsHeld key → All (FitsSigned w128) numbers → ((n : ℤ) → key ≡ Whole n ∷ [] → ⊥)
    → place_of (key_bytes key) (map number_name numbers) ≡ None
place_of-other key [] held all other = refl
place_of-other key (m ∷ numbers) held all other =
    position-cons (λ (name : List ℕ). bytes_eq name (key_bytes key)) (number_name m) (map number_name numbers)
    ∙ ap₂ (λ (b : Bool) (o : Option ℕ). cond b (Some 0) (option_map suc o))
    (differ (bytes_eq (number_name m) (key_bytes key)) refl) (place_of-other key numbers held (All-tail (FitsSigned w128) m numbers all) other)
  where
    differ : (b : Bool) → bytes_eq (number_name m) (key_bytes key) ≡ b → b ≡ false
    differ false is = refl
    differ true is =
        absurd (other m (same_key key (Whole m ∷ []) held (one_held m (All-head (FitsSigned w128) m numbers all))
        (sym ((bytes_eq-Decides (number_name m) (key_bytes key)).0 is))))

-- a place in front, and places behind
pub place-front : (name : List ℕ) (numbers : List ℤ) (keys : List (Vec ℕ Global)) (place : ℕ) → place_of name (map number_name numbers) ≡ Some place
    → place_of name (names_of numbers keys) ≡ Some place
place-front name numbers keys place at = position-front (λ (other : List ℕ). bytes_eq other name) (map number_name numbers) (texts_of keys) place at

pub place-behind : (name : List ℕ) (numbers : List ℤ) (keys : List (Vec ℕ Global)) → place_of name (map number_name numbers) ≡ None
    → place_of name (names_of numbers keys) ≡ option_map (λ place. length numbers + place) (place_of name (texts_of keys))
place-behind name numbers keys none =
    position-behind (λ (other : List ℕ). bytes_eq other name) (map number_name numbers) (texts_of keys) none
    ∙ ap (λ (n : ℕ). option_map (λ place. n + place) (place_of name (texts_of keys))) (length-map numbers number_name)

-- what is not there is not in front, nor behind it
pub none-front : (name : List ℕ) (numbers : List ℤ) (keys : List (Vec ℕ Global)) → place_of name (names_of numbers keys) ≡ None → place_of name (map number_name numbers) ≡ None
none-front name numbers keys none =
    elim (place_of name (map number_name numbers)) as (λ o. place_of name (map number_name numbers) ≡ o → o ≡ None) [
      | None ↦ λ e. refl
      | Some place ↦ λ e. let there : place_of name (names_of numbers keys) ≡ Some place = place-front name numbers keys place e in cc
    ] refl

pub none-behind : (name : List ℕ) (numbers : List ℤ) (keys : List (Vec ℕ Global)) → place_of name (names_of numbers keys) ≡ None → place_of name (texts_of keys) ≡ None
none-behind name numbers keys none =
    by (place_of name (texts_of keys)) (sym (place-behind name numbers keys (none-front name numbers keys none)) ∙ none)
  where
    by : (o : Option ℕ) → option_map (λ place. length numbers + place) o ≡ None → o ≡ None
    by None e = refl
    by (Some place) e = cc

-- a set of no keys has none
pub no_keys : {A : Type 0} (keys : List A) → length keys ≡ 0 → keys ≡ []
no_keys [] none = refl
no_keys (key ∷ keys) none = absurd (omega (arith, none))

-- what follows from a fact of a success and from one of its value
pub with_value : {T E P : Type 0} (r : Result T E) (Q R : T → Type 0) → OnOk r P → IfOk r Q → ((t : T) → P → Q t → R t) → IfOk r R
with_value (Ok t) Q R p q f = f t p q
with_value (Err e) Q R p q f = tt

-- one number more
pub insert-number : (n : ℤ) (numbers : List ℤ) → position (int_eq n) numbers ≡ None → insert_key int_eq numbers n ≡ numbers ++ n ∷ []
insert-number n numbers none = let absent : list_any (int_eq n) numbers ≡ false = sym (is_some-position (int_eq n) numbers) ∙ ap is_some none in rw absent refl
