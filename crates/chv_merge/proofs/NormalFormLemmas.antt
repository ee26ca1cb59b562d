-- Normal forms of rows, and the walk through a key by which rows are compared.
use Rattle.std.proofs.Common.{◌≡◌, ℕ, suc, ◌≤◌, nat_lt, Bool, true, false, List, [], ◌∷◌, ◌++◌, length, drop, Less, Equal, Greater, refl, sym, ap, ◌∙◌, drop_of_length-le, ◌⊎◌, inl, inr, rules}
use Rattle.std.proofs.lemmas.List.MinMax.{ranks_by}
use Rattle.std.proofs.lemmas.List.Sorted.{IsPermutation-sym, All-permutation, length_permutation}
use Rattle.std.specs.Cmp.{IsTotalOrder, IsStrictWeakOrder, then_total, on_total}
use Rattle.std.specs.List.{All}
use Rattle.std.specs.List.Sorted.{IsPermutation, IsSortedBy}
use Rattle.std.specs.Ordering.{is_lt, ordering_then, ordering_reverse, bool_cmp}
use Rattle.std.specs.declared.cmp.Ordering.{Ordering}
use Rattle.chv_types.specs.Order.{row_cmp}
use Rattle.chv_types.specs.OrderLaws.{row_cmp_total, row_cmp-IsAntisymmetric}
use Rattle.chv_types.specs.declared.value.Value.{Value}
use Rattle.chv_types.proofs.SortingLemmas.{sorted_by-IsPermutation, sorted_by-IsSortedBy, sorted_by-unique, sorted_by-permuted, sorted_by-append}
use Rattle.chv_merge.specs.NormalForms.{values_at, key_cmp, key_below, normal_form}

pub key_cmp_total : (key : List ℕ) → IsTotalOrder (key_cmp key)
unfolding key_cmp
key_cmp_total key = then_total (on_total (values_at key) row_cmp_total) row_cmp_total

pub key_below-IsStrictWeakOrder : (key : List ℕ) → IsStrictWeakOrder (key_below key)
key_below-IsStrictWeakOrder key = ranks_by (key_cmp_total key) (λ (row : List Value). row)

-- the second of two orders tells what both together do not tell apart
second_equal : (first second : Ordering) → ordering_then first second ≡ Equal → second ≡ Equal
second_equal Less second e = cc
second_equal Equal second e = e
second_equal Greater second e = cc

key_cmp-Equal : (key : List ℕ) (a b : List Value) → key_cmp key a b ≡ Equal → a ≡ b
unfolding key_cmp
key_cmp-Equal key a b e =
    row_cmp-IsAntisymmetric a b (second_equal (row_cmp (values_at key a) (values_at key b)) _ e)

-- rows of which neither is below the other are the same
pub key_below-apart : (key : List ℕ) (a b : List Value) → key_below key a b ≡ false → key_below key b a ≡ false → a ≡ b
key_below-apart key a b =
    elim (key_cmp key a b) as (λ r. key_cmp key a b ≡ r → is_lt r ≡ false → key_below key b a ≡ false → a ≡ b) [
      | Less ↦ λ e f g. cc
      | Equal ↦ λ e f g. key_cmp-Equal key a b e
      | Greater ↦ λ e f g. let back : key_cmp key b a ≡ Less = (key_cmp_total key).antisymm b a ∙ ap ordering_reverse e in
          let below : is_lt (key_cmp key b a) ≡ true = ap is_lt back in cc
    ] refl

module _ (key : List ℕ) where
  pub normal_form-IsPermutation : (rows : List (List Value)) → IsPermutation (normal_form key rows) rows
  unfolding normal_form
  normal_form-IsPermutation rows = IsPermutation-sym _ _ (sorted_by-IsPermutation (key_below key) rows)

  pub normal_form-IsSortedBy : (rows : List (List Value)) → IsSortedBy (key_below key) (normal_form key rows)
  unfolding normal_form
  normal_form-IsSortedBy = sorted_by-IsSortedBy (key_below-IsStrictWeakOrder key)

  -- rows in order are the normal form of all lists of these rows
  pub normal_form-unique : (rows sorted : List (List Value)) → IsPermutation rows sorted → IsSortedBy (key_below key) sorted → sorted ≡ normal_form key rows
  unfolding normal_form
  normal_form-unique = sorted_by-unique (key_below-IsStrictWeakOrder key) (key_below-apart key)

  pub normal_form-permuted : (a b : List (List Value)) → IsPermutation a b → normal_form key a ≡ normal_form key b
  unfolding normal_form
  normal_form-permuted = sorted_by-permuted (key_below-IsStrictWeakOrder key) (key_below-apart key)

  pub normal_form-append : (a b : List (List Value)) → normal_form key (a ++ b) ≡ normal_form key (normal_form key a ++ normal_form key b)
  unfolding normal_form
  normal_form-append = sorted_by-append (key_below-IsStrictWeakOrder key) (key_below-apart key)

  pub normal_form-length : (rows : List (List Value)) → length (normal_form key rows) ≡ length rows
  normal_form-length rows = sym (length_permutation _ _ (normal_form-IsPermutation rows))

pub normal_form-all : (P : List Value → Type 0) (key : List ℕ) (rows : List (List Value)) → All P rows → All P (normal_form key rows)
normal_form-all P key rows all =
    All-permutation P _ _ (IsPermutation-sym _ _ (normal_form-IsPermutation key rows)) all

-- behind a key there are no values
pub values_at-end : (key : List ℕ) (row : List Value) (i : ℕ) → length key ≤ i → values_at (drop i key) row ≡ []
values_at-end key row i end = ap (λ places. values_at places row) (drop_of_length-le key end)

positive : (n : ℕ) → nat_lt 0 (suc n) ≡ true
positive n = search rules

-- two lists of values of which one is empty
pub rests_cmp : (a b : List Value) (more_a more_b : Bool) → more_a ≡ nat_lt 0 (length a) → more_b ≡ nat_lt 0 (length b)
    → (a ≡ []) ⊎ (b ≡ []) → bool_cmp more_a more_b ≡ row_cmp a b
rests_cmp [] [] more_a more_b p q none = rw (p, q) refl
rests_cmp [] (y ∷ b) more_a more_b p q none = rw (p, q, positive) refl
rests_cmp (x ∷ a) [] more_a more_b p q none = rw (p, q, positive) refl
rests_cmp (x ∷ a) (y ∷ b) more_a more_b p q (inl none) = cc
rests_cmp (x ∷ a) (y ∷ b) more_a more_b p q (inr none) = cc
