-- Sorting keeps the items, and items have one order.
use Rattle.std.proofs.Common.{◌≡◌, ℕ, zero, suc, ◌+◌, Bool, true, false, cond, if◌then◌else◌, List, [], ◌∷◌, ◌++◌, refl, sym, ap, ◌∙◌, add-one, arith}
use Rattle.std.proofs.lemmas.List.Elements.{All-nil, All-cons, All-head, All-tail, All-weaker}
use Rattle.std.proofs.lemmas.List.Sorted.{IsPermutation-refl, IsPermutation-sym, IsPermutation-trans, IsPermutation-cons, IsPermutation-middle, IsPermutation-append, All-permutation, sum_by-IsPermutation, sorted_far}
use Rattle.std.proofs.lemmas.List.Sums.{sum_by-cons}
use Rattle.std.specs.Cmp.{IsStrictWeakOrder}
use Rattle.std.specs.List.{All, sum_by, count_by}
use Rattle.std.specs.List.Sorted.{IsPermutation, IsSortedBy}
use Rattle.chv_types.specs.Sorting.{put_in_order, sorted_by}

-- no item is below one in front of it
abbrev pub Ascending : {A : Type 0} → (A → A → Bool) → List A → Type 0
Ascending below [] = Unit {0}
Ascending below (x ∷ xs) = All (λ y. below y x ≡ false) xs × Ascending below xs

module _ {A : Type 0} (below : A → A → Bool) where
  pub put_in_order-IsPermutation : (x : A) (ys : List A) → IsPermutation (x ∷ ys) (put_in_order below x ys)
  put_in_order-IsPermutation x [] = IsPermutation-refl (x ∷ [])
  put_in_order-IsPermutation x (y ∷ ys) =
      elim (below y x) as (λ b. IsPermutation (x ∷ y ∷ ys) (if b then y ∷ put_in_order below x ys else x ∷ (y ∷ ys))) [
        | true ↦ IsPermutation-trans _ _ _ (IsPermutation-middle (x ∷ []) y ys) (IsPermutation-cons y _ _ (put_in_order-IsPermutation x ys))
        | false ↦ IsPermutation-refl (x ∷ y ∷ ys)
      ]

  pub sorted_by-IsPermutation : (xs : List A) → IsPermutation xs (sorted_by below xs)
  sorted_by-IsPermutation [] = IsPermutation-refl []
  sorted_by-IsPermutation (x ∷ xs) =
      IsPermutation-trans _ _ _ (IsPermutation-cons x _ _ (sorted_by-IsPermutation xs)) (put_in_order-IsPermutation x (sorted_by below xs))

count_by-none : {A : Type 0} (p : A → Bool) (xs : List A) → All (λ x. p x ≡ false) xs → count_by p xs ≡ 0
count_by-none p [] h = refl
count_by-none p (x ∷ xs) h =
    let first : ◌≡◌ {A = ℕ} (cond (p x) 1 0) 0 = rw (All-head (λ y. p y ≡ false) x xs h) refl in
    let rest : count_by p xs ≡ 0 = count_by-none p xs (All-tail (λ y. p y ≡ false) x xs h) in
    omega (arith, sum_by-cons (λ y. cond (p y) 1 0) x xs)

module _ {A : Type 0} {below : A → A → Bool} (o : IsStrictWeakOrder below) where
  put_in_order-Ascending : (x : A) (ys : List A) → Ascending below ys → Ascending below (put_in_order below x ys)
  put_in_order-Ascending x [] h = (All-nil _, tt)
  put_in_order-Ascending x (y ∷ ys) h =
      elim (below y x) as (λ b. below y x ≡ b → Ascending below (if b then y ∷ put_in_order below x ys else x ∷ (y ∷ ys))) [
        | true ↦ λ e. (
          All-permutation (λ z. below z y ≡ false) _ _ (put_in_order-IsPermutation below x ys) (All-cons (λ z. below z y ≡ false) x ys (o.one_way y x e) h.0),
          put_in_order-Ascending x ys h.1,
        )
        | false ↦ λ e. (All-cons (λ z. below z x ≡ false) y ys e (All-weaker (λ z. below z y ≡ false) (λ z. below z x ≡ false) (λ z f. o.chain z y x f e) ys h.0), h)
      ] refl

  pub sorted_by-Ascending : (xs : List A) → Ascending below (sorted_by below xs)
  sorted_by-Ascending [] = tt
  sorted_by-Ascending (x ∷ xs) = put_in_order-Ascending x (sorted_by below xs) (sorted_by-Ascending xs)

  pub Ascending-from_sorted : (xs : List A) → IsSortedBy below xs → Ascending below xs
  Ascending-from_sorted [] s = tt
  Ascending-from_sorted (x ∷ xs) s = (
    λ k d h. sorted_far below o (x ∷ xs) s 0 (suc k) d (omega arith) (omega arith),
    Ascending-from_sorted xs (λ k d low high. rw add-one (rw add-one at (s (suc k) d (omega arith) (omega arith)))),
  )

  sorted_from_Ascending : (xs : List A) → Ascending below xs → IsSortedBy below xs
  sorted_from_Ascending [] h k d low high = absurd (omega arith)
  sorted_from_Ascending (x ∷ xs) h zero d low high = h.0 0 d (omega arith)
  sorted_from_Ascending (x ∷ xs) h (suc k) d low high =
      rw add-one (rw add-one at (sorted_from_Ascending xs h.1 k d (omega arith) (omega arith)))

  pub sorted_by-IsSortedBy : (xs : List A) → IsSortedBy below (sorted_by below xs)
  sorted_by-IsSortedBy xs = sorted_from_Ascending _ (sorted_by-Ascending xs)

  itself : (x : A) → below x x ≡ false
  itself x = elim (below x x) as (λ b. below x x ≡ b → b ≡ false) [ true ↦ λ e. sym e ∙ o.one_way x x e | false ↦ λ e. refl ] refl

  -- of as many items, the first of a list is not below that of a list in order
  first_not_below : (x y : A) (xs ys : List A) → Ascending below (y ∷ ys) → count_by (λ z. below z y) (x ∷ xs) ≡ count_by (λ z. below z y) (y ∷ ys) → below x y ≡ false
  first_not_below x y xs ys h same =
      elim (below x y) as (λ b. below x y ≡ b → b ≡ false) [
        | true ↦ λ e.
            let none : count_by (λ z. below z y) (y ∷ ys) ≡ 0 = count_by-none (λ z. below z y) (y ∷ ys) (All-cons (λ z. below z y ≡ false) y ys (itself y) h.0) in
            let one : ◌≡◌ {A = ℕ} (cond (below x y) 1 0) 1 = rw e refl in
            let more : count_by (λ z. below z y) (x ∷ xs) ≡ cond (below x y) 1 0 + count_by (λ z. below z y) xs = sum_by-cons (λ z. cond (below z y) 1 0) x xs in
            absurd (omega arith)
        | false ↦ λ e. refl
      ] refl

  module _ (apart : (x y : A) → below x y ≡ false → below y x ≡ false → x ≡ y) where
    one_order : (xs ys : List A) → Ascending below xs → Ascending below ys → ((f : A → ℕ) → sum_by f ys ≡ sum_by f xs) → xs ≡ ys
    one_order [] [] h k same = refl
    one_order [] (y ∷ ys) h k same = absurd (omega (arith, same (λ z. 1), sum_by-cons (λ z. 1) y ys))
    one_order (x ∷ xs) [] h k same = absurd (omega (arith, same (λ z. 1), sum_by-cons (λ z. 1) x xs))
    one_order (x ∷ xs) (y ∷ ys) h k same =
        let e : x ≡ y = apart x y (first_not_below x y xs ys k (sym (same _))) (first_not_below y x ys xs h (same _)) in
        let rest : xs ≡ ys = one_order xs ys h.1 k.1 (λ f. omega (arith, same f, ap f e, sum_by-cons f x xs, sum_by-cons f y ys)) in
        cc

    -- lists in order of the same items are the same
    pub Ascending-unique : (xs ys : List A) → Ascending below xs → Ascending below ys → IsPermutation xs ys → xs ≡ ys
    Ascending-unique xs ys h k moved = one_order xs ys h k (λ f. sum_by-IsPermutation f xs ys moved)

    pub sorted_by-unique : (xs ys : List A) → IsPermutation xs ys → IsSortedBy below ys → ys ≡ sorted_by below xs
    sorted_by-unique xs ys moved sorted =
        Ascending-unique _ _ (Ascending-from_sorted ys sorted) (sorted_by-Ascending xs)
        (IsPermutation-trans _ _ _ (IsPermutation-sym _ _ moved) (sorted_by-IsPermutation below xs))

    pub sorted_by-permuted : (xs ys : List A) → IsPermutation xs ys → sorted_by below xs ≡ sorted_by below ys
    sorted_by-permuted xs ys moved =
        Ascending-unique _ _ (sorted_by-Ascending xs) (sorted_by-Ascending ys)
        (IsPermutation-trans _ _ _ (IsPermutation-sym _ _ (sorted_by-IsPermutation below xs))
        (IsPermutation-trans _ _ _ moved (sorted_by-IsPermutation below ys)))

    pub sorted_by-append : (xs ys : List A) → sorted_by below (xs ++ ys) ≡ sorted_by below (sorted_by below xs ++ sorted_by below ys)
    sorted_by-append xs ys =
        sorted_by-permuted _ _ (IsPermutation-append _ _ _ _ (sorted_by-IsPermutation below xs) (sorted_by-IsPermutation below ys))
