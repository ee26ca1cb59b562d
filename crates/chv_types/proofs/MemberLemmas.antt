-- The items of a list, each once and in order: they rise, they are the same, and no other list that rises has the same.
use Rattle.std.proofs.Common.{◌≡◌, ℕ, zero, suc, ◌<◌, List, [], ◌∷◌, ◌++◌, length, get_or, Less, Equal, Greater, refl, sym, ap, ap₂, subst, ◌∙◌, arith, ◌⊎◌, inl, inr}
use Rattle.std.proofs.lemmas.Cmp.{tied_itself}
use Rattle.std.proofs.lemmas.List.Elements.{All-nil, All-cons, All-weaker, All-contains, Contains-get_or, Contains-append_left, Contains-append_right, Contains-append_cases}
use Rattle.std.proofs.lemmas.List.Sorted.{IsPermutation-sym, Contains-permutation}
use Rattle.std.specs.Cmp.{IsTotalOrder}
use Rattle.std.specs.FinMap.{IsAntisymmetric}
use Rattle.std.specs.List.{All, Contains}
use Rattle.std.specs.List.Sorted.{IsPermutation}
use Rattle.std.specs.Ordering.{ordering_reverse}
use Rattle.std.specs.declared.cmp.Ordering.{Ordering}
use Rattle.chv_types.specs.Members.{by_order, put_member, members, Rises, HaveSame}

module _ {A : Type 0} where
  -- a list has its first item, and the others
  Contains-first : (x : A) (xs : List A) → Contains (x ∷ xs) x
  Contains-first x xs = (0, omega arith, refl)

  Contains-behind : (x : A) (xs : List A) (z : A) → Contains xs z → Contains (x ∷ xs) z
  Contains-behind x xs z h = let within = h.1 in (suc h.0, omega arith, h.2)

  first_or_behind : (x : A) (xs : List A) (z : A) (k : ℕ) → k < length (x ∷ xs) → get_or (x ∷ xs) k z ≡ z → (x ≡ z) ⊎ Contains xs z
  first_or_behind x xs z zero within e = inl e
  first_or_behind x xs z (suc k) within e = inr (k, omega (arith, within), e)

  -- and no more
  Contains-cases : (x : A) (xs : List A) (z : A) → Contains (x ∷ xs) z → (x ≡ z) ⊎ Contains xs z
  Contains-cases x xs z h = first_or_behind x xs z h.0 h.1 h.2

  none_in_nothing : (z : A) → Contains [] z → ⊥
  none_in_nothing z h = let within = h.1 in omega arith

  -- what each item of a list has holds of all
  All-from_Contains : (P : A → Type 0) (xs : List A) → ((z : A) → Contains xs z → P z) → All P xs
  All-from_Contains P xs f k d within = f (get_or xs k d) (Contains-get_or xs k d within)

  -- to have the same items goes both ways and on
  pub HaveSame-sym : (xs ys : List A) → HaveSame xs ys → HaveSame ys xs
  HaveSame-sym xs ys h z = ((h z).1, (h z).0)

  pub HaveSame-trans : (xs ys zs : List A) → HaveSame xs ys → HaveSame ys zs → HaveSame xs zs
  HaveSame-trans xs ys zs h k z = ((λ at. (k z).0 ((h z).0 at)), (λ at. (h z).1 ((k z).1 at)))

  -- lists that are permuted have the same items
  pub HaveSame-permuted : (xs ys : List A) → IsPermutation xs ys → HaveSame xs ys
  HaveSame-permuted xs ys moved z = (Contains-permutation xs ys z moved, Contains-permutation ys xs z (IsPermutation-sym xs ys moved))

  appended : (xs ys us vs : List A) → HaveSame xs us → HaveSame ys vs → (z : A) → Contains xs z ⊎ Contains ys z → Contains (us ++ vs) z
  appended xs ys us vs h k z (inl at) = Contains-append_left us vs z ((h z).0 at)
  appended xs ys us vs h k z (inr at) = Contains-append_right us vs z ((k z).0 at)

  -- so do lists of which the parts have
  pub HaveSame-append : (xs ys us vs : List A) → HaveSame xs us → HaveSame ys vs → HaveSame (xs ++ ys) (us ++ vs)
  HaveSame-append xs ys us vs h k z = (
    (λ at. appended xs ys us vs h k z (Contains-append_cases xs ys z at)),
    (λ at. appended us vs xs ys (HaveSame-sym xs us h) (HaveSame-sym ys vs k) z (Contains-append_cases us vs z at)),
  )

module _ {A : Type 0} (cmp : A → A → Ordering) (total : IsTotalOrder cmp) (same : IsAntisymmetric cmp) where
  behind_or_put : (x y z : A) (ys : List A) → ((y ≡ z) ⊎ ((x ≡ z) ⊎ Contains ys z)) → (x ≡ z) ⊎ Contains (y ∷ ys) z
  behind_or_put x y z ys (inl e) = inr (subst (Contains (y ∷ ys)) e (Contains-first y ys))
  behind_or_put x y z ys (inr (inl e)) = inl e
  behind_or_put x y z ys (inr (inr at)) = inr (Contains-behind y ys z at)

  further : (x y z : A) (ys more : List A) → (Contains more z → (x ≡ z) ⊎ Contains ys z) → (y ≡ z) ⊎ Contains more z → (x ≡ z) ⊎ Contains (y ∷ ys) z
  further x y z ys more f (inl e) = behind_or_put x y z ys (inl e)
  further x y z ys more f (inr at) = behind_or_put x y z ys (inr (f at))

  -- where an item is put, there is nothing else new
  put_member-has : (x : A) (ys : List A) (z : A) → Contains (put_member cmp x ys) z → (x ≡ z) ⊎ Contains ys z
  put_member-has x [] z = Contains-cases x [] z
  put_member-has x (y ∷ ys) z =
      elim (cmp x y) as (λ o. Contains (by_order o (x ∷ (y ∷ ys)) (y ∷ ys) (y ∷ put_member cmp x ys)) z → (x ≡ z) ⊎ Contains (y ∷ ys) z) [
        | Less ↦ λ at. Contains-cases x (y ∷ ys) z at
        | Equal ↦ λ at. inr at
        | Greater ↦ λ at. further x y z ys (put_member cmp x ys) (put_member-has x ys z) (Contains-cases y (put_member cmp x ys) z at)
      ]

  kept_behind : (y z : A) (ys more : List A) → (Contains ys z → Contains more z) → (y ≡ z) ⊎ Contains ys z → Contains (y ∷ more) z
  kept_behind y z ys more f (inl e) = subst (Contains (y ∷ more)) e (Contains-first y more)
  kept_behind y z ys more f (inr at) = Contains-behind y more z (f at)

  -- the others stay
  put_member-keeps : (x : A) (ys : List A) (z : A) → Contains ys z → Contains (put_member cmp x ys) z
  put_member-keeps x [] z at = absurd (none_in_nothing z at)
  put_member-keeps x (y ∷ ys) z at =
      elim (cmp x y) as (λ o. Contains (by_order o (x ∷ (y ∷ ys)) (y ∷ ys) (y ∷ put_member cmp x ys)) z) [
        | Less ↦ Contains-behind x (y ∷ ys) z at
        | Equal ↦ at
        | Greater ↦ kept_behind y z ys (put_member cmp x ys) (put_member-keeps x ys z) (Contains-cases y ys z at)
      ]

  -- and the item is there
  put_member-puts : (x : A) (ys : List A) → Contains (put_member cmp x ys) x
  put_member-puts x [] = Contains-first x []
  put_member-puts x (y ∷ ys) =
      elim (cmp x y) as (λ o. cmp x y ≡ o → Contains (by_order o (x ∷ (y ∷ ys)) (y ∷ ys) (y ∷ put_member cmp x ys)) x) [
        | Less ↦ λ e. Contains-first x (y ∷ ys)
        | Equal ↦ λ e. subst (Contains (y ∷ ys)) (sym (same x y e)) (Contains-first y ys)
        | Greater ↦ λ e. Contains-behind y (put_member cmp x ys) x (put_member-puts x ys)
      ] refl

  below_put : (x y z : A) (ys : List A) → cmp y x ≡ Less → All (λ w. cmp y w ≡ Less) ys → (x ≡ z) ⊎ Contains ys z → cmp y z ≡ Less
  below_put x y z ys below all (inl e) = subst (λ w. cmp y w ≡ Less) e below
  below_put x y z ys below all (inr at) = All-contains (λ w. cmp y w ≡ Less) ys z all at

  put_member-Rises : (x : A) (ys : List A) → Rises cmp ys → Rises cmp (put_member cmp x ys)
  put_member-Rises x [] h = (All-nil (λ w. cmp x w ≡ Less), tt)
  put_member-Rises x (y ∷ ys) h =
      elim (cmp x y) as (λ o. cmp x y ≡ o → Rises cmp (by_order o (x ∷ (y ∷ ys)) (y ∷ ys) (y ∷ put_member cmp x ys))) [
        | Less ↦ λ e. (
          All-cons (λ w. cmp x w ≡ Less) y ys e (All-weaker (λ w. cmp y w ≡ Less) (λ w. cmp x w ≡ Less) (λ w f. total.trans x y w e f) ys h.0),
          h,
        )
        | Equal ↦ λ e. h
        | Greater ↦ λ e.
            let below : cmp y x ≡ Less = total.antisymm y x ∙ ap ordering_reverse e in (
              All-from_Contains (λ w. cmp y w ≡ Less) (put_member cmp x ys) (λ z at. below_put x y z ys below h.0 (put_member-has x ys z at)),
              put_member-Rises x ys h.1,
            )
      ] refl

  pub members-Rises : (xs : List A) → Rises cmp (members cmp xs)
  members-Rises [] = tt
  members-Rises (x ∷ xs) = put_member-Rises x (members cmp xs) (members-Rises xs)

  there : (x z : A) (xs : List A) → (Contains xs z → Contains (members cmp xs) z) → (x ≡ z) ⊎ Contains xs z → Contains (put_member cmp x (members cmp xs)) z
  there x z xs f (inl e) = subst (Contains (put_member cmp x (members cmp xs))) e (put_member-puts x (members cmp xs))
  there x z xs f (inr at) = put_member-keeps x (members cmp xs) z (f at)

  back : (x z : A) (xs : List A) → (Contains (members cmp xs) z → Contains xs z) → (x ≡ z) ⊎ Contains (members cmp xs) z → Contains (x ∷ xs) z
  back x z xs f (inl e) = subst (Contains (x ∷ xs)) e (Contains-first x xs)
  back x z xs f (inr at) = Contains-behind x xs z (f at)

  pub members-HaveSame : (xs : List A) → HaveSame xs (members cmp xs)
  members-HaveSame [] z = ((λ at. at), (λ at. at))
  members-HaveSame (x ∷ xs) z = (
    (λ at. there x z xs (members-HaveSame xs z).0 (Contains-cases x xs z at)),
    (λ at. back x z xs (members-HaveSame xs z).1 (put_member-has x (members cmp xs) z at)),
  )

  -- of two lists that rise and have the same items, the first items are the same
  same_first : (x y : A) (xs ys : List A) → All (λ w. cmp x w ≡ Less) xs → All (λ w. cmp y w ≡ Less) ys → (x ≡ y) ⊎ Contains xs y → (y ≡ x) ⊎ Contains ys x → x ≡ y
  same_first x y xs ys h k (inl e) there = e
  same_first x y xs ys h k (inr at) (inl e) = sym e
  same_first x y xs ys h k (inr at) (inr other) =
      let below : cmp x y ≡ Less = All-contains (λ w. cmp x w ≡ Less) xs y h at in
      let above : cmp x y ≡ Greater = total.antisymm x y ∙ ap ordering_reverse (All-contains (λ w. cmp y w ≡ Less) ys x k other) in
      let apart : Less ≡ Greater = sym below ∙ above in
      cc

  -- no item stands before itself
  not_below_itself : (x : A) → cmp x x ≡ Less → ⊥
  not_below_itself x below = let apart : Less ≡ Equal = sym below ∙ tied_itself total x in cc

  -- what stands behind the first item of one list does so in the other
  rest_of : (x y z : A) (xs ys : List A) → x ≡ y → All (λ w. cmp x w ≡ Less) xs → Contains xs z → (y ≡ z) ⊎ Contains ys z → Contains ys z
  rest_of x y z xs ys e h at (inl f) =
      absurd (not_below_itself x (subst (λ w. cmp x w ≡ Less) (sym (e ∙ f)) (All-contains (λ w. cmp x w ≡ Less) xs z h at)))
  rest_of x y z xs ys e h at (inr there) = there

  pub Rises-unique : (xs ys : List A) → Rises cmp xs → Rises cmp ys → HaveSame xs ys → xs ≡ ys
  Rises-unique [] [] h k s = refl
  Rises-unique [] (y ∷ ys) h k s = absurd (none_in_nothing y ((s y).1 (Contains-first y ys)))
  Rises-unique (x ∷ xs) [] h k s = absurd (none_in_nothing x ((s x).0 (Contains-first x xs)))
  Rises-unique (x ∷ xs) (y ∷ ys) h k s =
      let e : x ≡ y = same_first x y xs ys h.0 k.0
      (Contains-cases x xs y ((s y).1 (Contains-first y ys))) (Contains-cases y ys x ((s x).0 (Contains-first x xs))) in
      let rest : HaveSame xs ys = λ z. (
        (λ at. rest_of x y z xs ys e h.0 at (Contains-cases y ys z ((s z).0 (Contains-behind x xs z at)))),
        (λ at. rest_of y x z ys xs (sym e) k.0 at (Contains-cases x xs z ((s z).1 (Contains-behind y ys z at)))),
      ) in
      ap₂ (λ (w : A) (ws : List A). w ∷ ws) e (Rises-unique xs ys h.1 k.1 rest)

  pub members-unique : (xs ys : List A) → Rises cmp ys → HaveSame xs ys → ys ≡ members cmp xs
  members-unique xs ys rises h =
      Rises-unique ys (members cmp xs) rises (members-Rises xs) (HaveSame-trans ys xs (members cmp xs) (HaveSame-sym xs ys h) (members-HaveSame xs))

  pub members-permuted : (xs ys : List A) → IsPermutation xs ys → members cmp xs ≡ members cmp ys
  members-permuted xs ys moved =
      members-unique ys (members cmp xs) (members-Rises xs)
      (HaveSame-trans ys xs (members cmp xs) (HaveSame-sym xs ys (HaveSame-permuted xs ys moved)) (members-HaveSame xs))

  pub members-append : (xs ys : List A) → members cmp (members cmp xs ++ members cmp ys) ≡ members cmp (xs ++ ys)
  members-append xs ys =
      let both : List A = members cmp xs ++ members cmp ys in
      members-unique (xs ++ ys) (members cmp both) (members-Rises both)
      (HaveSame-trans (xs ++ ys) both (members cmp both)
      (HaveSame-append xs ys (members cmp xs) (members cmp ys) (members-HaveSame xs) (members-HaveSame ys)) (members-HaveSame both))
