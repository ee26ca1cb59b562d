-- Normal forms go by the rows of each key, and keep to tests of keys.
use Rattle.std.proofs.Common.{◌≡◌, ℕ, Bool, true, false, cond, if◌then◌else◌, List, [], ◌∷◌, ◌++◌, map, Option, None, Some, Less, Equal, Greater, refl, sym, ap, subst, ◌∙◌, append_assoc, filter, flat_map}
use Rattle.std.proofs.lemmas.List.Elements.{All-cons, All-filter, All-head, All-weaker}
use Rattle.std.proofs.lemmas.List.Sorted.{IsPermutation-refl, IsPermutation-sym, IsPermutation-trans, IsPermutation-append_comm, IsPermutation-append_left, IsPermutation-append_right}
use Rattle.std.specs.Cmp.{IsStrictWeakOrder}
use Rattle.std.specs.List.{All}
use Rattle.std.specs.List.Sorted.{IsPermutation, IsSortedBy}
use Rattle.std.specs.Ordering.{is_eq, is_lt, ordering_then}
use Rattle.std.specs.declared.cmp.Ordering.{Ordering}
use Rattle.chv_agg.proofs.PairLemmas.{collapse-alike}
use Rattle.chv_agg.specs.Pairs.{IsAssociative, collapse, items_under, join_found, joint, put_pair, value_under}
use Rattle.chv_types.proofs.SortingLemmas.{Ascending, sorted_by-Ascending}
use Rattle.chv_types.specs.Members.{by_order}
use Rattle.chv_types.specs.Order.{row_cmp}
use Rattle.chv_types.specs.OrderLaws.{row_cmp_total, row_cmp-IsAntisymmetric}
use Rattle.chv_types.specs.Sorting.{put_in_order, sorted_by}
use Rattle.chv_types.specs.declared.value.Value.{Value}
use Rattle.chv_merge.proofs.NormalFormLemmas.{key_below-IsStrictWeakOrder, normal_form-IsSortedBy, normal_form-permuted}
use Rattle.chv_merge.specs.NormalForms.{before, key_below, key_cmp, normal_form, values_at}

-- a list in order, of which a test keeps some
module _ {A : Type 0} {below : A → A → Bool} (o : IsStrictWeakOrder below) (keep : A → Bool) where
  put_first : (x : A) (ys : List A) → All (λ y. below y x ≡ false) ys → put_in_order below x ys ≡ x ∷ ys
  put_first x [] h = refl
  put_first x (y ∷ ys) h = rw (All-head (λ z. below z x ≡ false) y ys h) refl

  -- an item that is put in order is kept where the test keeps it
  filter-put_in_order : (x : A) (ys : List A) → Ascending below ys
      → filter keep (put_in_order below x ys) ≡ cond (keep x) (put_in_order below x (filter keep ys)) (filter keep ys)
  filter-put_in_order x [] h = elim (keep x) as (λ b. cond b (x ∷ []) [] ≡ cond b (x ∷ []) []) [ true ↦ refl | false ↦ refl ]
  filter-put_in_order x (y ∷ ys) h =
      elim (below y x) as (λ b. below y x ≡ b
      → filter keep (if b then y ∷ put_in_order below x ys else x ∷ (y ∷ ys)) ≡ cond (keep x) (put_in_order below x (filter keep (y ∷ ys))) (filter keep (y ∷ ys))) [
        | true ↦ λ e.
            ap (λ (zs : List A). cond (keep y) (y ∷ zs) zs) (filter-put_in_order x ys h.1)
            ∙ elim (keep y) as (λ b. cond b (y ∷ cond (keep x) (put_in_order below x (filter keep ys)) (filter keep ys)) (cond (keep x) (put_in_order below x (filter keep ys)) (filter keep ys))
            ≡ cond (keep x) (put_in_order below x (cond b (y ∷ filter keep ys) (filter keep ys))) (cond b (y ∷ filter keep ys) (filter keep ys))) [
              | true ↦ elim (keep x) as (λ b. y ∷ cond b (put_in_order below x (filter keep ys)) (filter keep ys)
                  ≡ cond b (if below y x then y ∷ put_in_order below x (filter keep ys) else x ∷ (y ∷ filter keep ys)) (y ∷ filter keep ys)) [ true ↦ rw e refl | false ↦ refl ]
              | false ↦ refl
            ]
        | false ↦ λ e.
            ap (λ (zs : List A). cond (keep x) zs (filter keep (y ∷ ys)))
            (sym (put_first x (filter keep (y ∷ ys))
            (All-filter keep (λ z. below z x ≡ false) (y ∷ ys)
            (All-cons (λ z. below z x ≡ false) y ys e (All-weaker (λ z. below z y ≡ false) (λ z. below z x ≡ false) (λ z f. o.chain z y x f e) ys h.0)))))
      ] refl

  filter-sorted_by : (xs : List A) → filter keep (sorted_by below xs) ≡ sorted_by below (filter keep xs)
  filter-sorted_by [] = refl
  filter-sorted_by (x ∷ xs) =
      filter-put_in_order x (sorted_by below xs) (sorted_by-Ascending o xs)
      ∙ ap (λ (ys : List A). cond (keep x) (put_in_order below x ys) ys) (filter-sorted_by xs)
      ∙ elim (keep x) as (λ b. cond b (put_in_order below x (sorted_by below (filter keep xs))) (sorted_by below (filter keep xs)) ≡ sorted_by below (cond b (x ∷ filter keep xs) (filter keep xs))) [
        | true ↦ refl
        | false ↦ refl
      ]

pub normal_form-filter : (key : List ℕ) (keep : List Value → Bool) (rows : List (List Value)) → filter keep (normal_form key rows) ≡ normal_form key (filter keep rows)
unfolding normal_form
normal_form-filter key keep = filter-sorted_by (key_below-IsStrictWeakOrder key) keep

-- rows that do not fall by the key and then by all columns do not fall by the key
first_not_less : (first second : Ordering) → is_lt (ordering_then first second) ≡ false → is_lt first ≡ false
first_not_less Less second e = e
first_not_less Equal second e = refl
first_not_less Greater second e = refl

pub normal_form-before : (key : List ℕ) (rows : List (List Value)) → IsSortedBy (before key) (normal_form key rows)
unfolding key_cmp
normal_form-before key rows k d low high = first_not_less _ _ (normal_form-IsSortedBy key rows k d low high)

append-IsAssociative : {A : Type 0} → IsAssociative (λ (a b : List A). a ++ b)
append-IsAssociative a b c = append_assoc a b c

module _ (key : List ℕ) where
  abbrev Group : Type 0
  Group = List Value × List (List Value)

  abbrev join_groups : List (List Value) → List (List Value) → List (List Value)
  join_groups a b = a ++ b

  -- the rows of each key, key by key
  abbrev alone : List Value → Group
  alone row = (values_at key row, row ∷ [])

  abbrev groups : List (List Value) → List Group
  groups rows = collapse row_cmp join_groups (map alone rows)

  abbrev rows_of : List Group → List (List Value)
  rows_of pairs = flat_map (λ group. group.1) pairs

  put_group-moved : (group : Group) (others : List Group) → IsPermutation (group.1 ++ rows_of others) (rows_of (put_pair row_cmp join_groups group others))
  put_group-moved group [] = IsPermutation-refl _
  put_group-moved group (first ∷ others) =
      elim (row_cmp group.0 first.0) as (λ o. IsPermutation (group.1 ++ (first.1 ++ rows_of others))
      (rows_of (by_order o (group ∷ (first ∷ others)) ((first.0, group.1 ++ first.1) ∷ others) (first ∷ put_pair row_cmp join_groups group others)))) [
        | Less ↦ IsPermutation-refl _
        | Equal ↦ subst (IsPermutation (group.1 ++ (first.1 ++ rows_of others))) (sym (append_assoc group.1 first.1 (rows_of others))) (IsPermutation-refl _)
        | Greater ↦
            IsPermutation-trans _ _ _
            (subst (λ (rows : List (List Value)). IsPermutation rows (first.1 ++ (group.1 ++ rows_of others))) (append_assoc group.1 first.1 (rows_of others))
            (subst (IsPermutation ((group.1 ++ first.1) ++ rows_of others)) (append_assoc first.1 group.1 (rows_of others))
            (IsPermutation-append_left (rows_of others) _ _ (IsPermutation-append_comm group.1 first.1))))
            (IsPermutation-append_right first.1 _ _ (put_group-moved group others))
      ]

  groups-moved : (rows : List (List Value)) → IsPermutation rows (rows_of (groups rows))
  groups-moved [] = IsPermutation-refl []
  groups-moved (row ∷ rows) =
      IsPermutation-trans _ _ _ (IsPermutation-append_right (row ∷ []) _ _ (groups-moved rows)) (put_group-moved (alone row) (groups rows))

  -- the rows of a key, where there are any
  abbrev some_rows : List (List Value) → Option (List (List Value))
  some_rows [] = None
  some_rows (row ∷ rows) = Some (row ∷ rows)

  one_more : (b : Bool) (row : List Value) (rows : List (List Value)) → join_found join_groups (if b then Some (row ∷ []) else None) (some_rows rows) ≡ some_rows (cond b (row ∷ rows) rows)
  one_more false row rows = refl
  one_more true row [] = refl
  one_more true row (next ∷ rows) = refl

  joint-alone : (values : List Value) (rows : List (List Value)) → joint row_cmp join_groups values (map alone rows) ≡ some_rows (items_under row_cmp (values_at key) values rows)
  joint-alone values [] = refl
  joint-alone values (row ∷ rows) =
      ap (join_found join_groups (value_under row_cmp values (alone row))) (joint-alone values rows)
      ∙ one_more (is_eq (row_cmp (values_at key row) values)) row (items_under row_cmp (values_at key) values rows)

  -- lists with the same rows of each key have the same rows
  same_rows : (a b : List (List Value)) → ((values : List Value) → items_under row_cmp (values_at key) values a ≡ items_under row_cmp (values_at key) values b) → IsPermutation a b
  same_rows a b alike =
      let same : groups a ≡ groups b = collapse-alike row_cmp join_groups row_cmp_total row_cmp-IsAntisymmetric append-IsAssociative (map alone a) (map alone b)
      (λ values. joint-alone values a ∙ ap some_rows (alike values) ∙ sym (joint-alone values b)) in
      IsPermutation-trans _ _ _ (subst (λ (pairs : List Group). IsPermutation a (rows_of pairs)) same (groups-moved a)) (IsPermutation-sym _ _ (groups-moved b))

  pub normal_form-alike : (a b : List (List Value))
      → ((values : List Value) → items_under row_cmp (values_at key) values a ≡ items_under row_cmp (values_at key) values b) → normal_form key a ≡ normal_form key b
  normal_form-alike a b alike = normal_form-permuted key a b (same_rows a b alike)
