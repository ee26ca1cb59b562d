-- What is left of a list that is sorted and has its repeats dropped are its members.
use Rattle.std.proofs.Common.{◌≡◌, ◌++◌, true, List, [], ◌∷◌, refl, subst, append_assoc, ◌∙◌}
use Rattle.std.proofs.lemmas.List.Elements.{All-from_recursion}
use Rattle.std.proofs.lemmas.List.Filters.{dedup_is}
use Rattle.std.proofs.lemmas.List.Kept.{IsStrictlySortedBy-dedup, Contains-dedup, Contains-from_dedup}
use Rattle.std.proofs.lemmas.List.Sorted.{IsPermutation-append, IsPermutation-append_comm, IsPermutation-refl, IsPermutation-trans}
use Rattle.std.specs.Cmp.{eq_by_cmp_equiv}
use Rattle.std.specs.List.{dedup}
use Rattle.std.specs.List.Retain.{IsFiltered, DiffersFromLast}
use Rattle.std.specs.List.Sorted.{IsPermutation, IsSorted, IsStrictlySortedBy}
use Rattle.std.specs.Ordering.{eq_by_cmp}
use Rattle.std.specs.declared.cmp.Ordering.TheVariants.{Less, Equal, Greater}
use Rattle.chv_types.specs.Members.{members, Rises, HaveSame}
use Rattle.chv_types.specs.Order.{value_cmp}
use Rattle.chv_types.specs.OrderLaws.{value_cmp_total, value_cmp-IsAntisymmetric}
use Rattle.chv_types.specs.declared.value.Value.{Value}
use Rattle.chv_types.proofs.MemberLemmas.{HaveSame-permuted, HaveSame-trans, members-permuted, members-unique}

-- keys that are each below those behind them rise
Rises-from_sorted : (xs : List Value) → IsStrictlySortedBy value_cmp xs → Rises value_cmp xs
unfolding IsStrictlySortedBy
Rises-from_sorted [] h = tt
Rises-from_sorted (x ∷ xs) h = (All-from_recursion (λ y. value_cmp x y ≡ Less) xs h.0, Rises-from_sorted xs h.1)

-- values that the order does not tell apart are identical
same_value : (x y : Value) → eq_by_cmp value_cmp x y ≡ true → x ≡ y
same_value x y e =
    elim (value_cmp x y) as (λ o. value_cmp x y ≡ o → x ≡ y) [
      | Less ↦ λ f. let g : eq_by_cmp value_cmp x y ≡ true = e in cc
      | Equal ↦ λ f. value_cmp-IsAntisymmetric x y f
      | Greater ↦ λ f. let g : eq_by_cmp value_cmp x y ≡ true = e in cc
    ] refl

pub members-settled : (xs ys zs : List Value) → IsPermutation xs ys → IsSorted value_cmp ys → IsFiltered (DiffersFromLast (eq_by_cmp value_cmp)) [] ys zs → zs ≡ members value_cmp xs
members-settled xs ys zs moved sorted filtered =
    let kept : zs ≡ dedup (eq_by_cmp value_cmp) ys = dedup_is (eq_by_cmp value_cmp) ys zs filtered in
    let same : HaveSame ys (dedup (eq_by_cmp value_cmp) ys) = λ z. (
      Contains-dedup (eq_by_cmp_equiv value_cmp_total) same_value ys z,
      Contains-from_dedup (eq_by_cmp value_cmp) ys z,
    ) in
    kept ∙ members-unique value_cmp value_cmp_total value_cmp-IsAntisymmetric xs (dedup (eq_by_cmp value_cmp) ys)
    (Rises-from_sorted _ (IsStrictlySortedBy-dedup value_cmp_total (λ x y. refl) ys sorted))
    (HaveSame-trans xs ys _ (HaveSame-permuted xs ys moved) same)

-- members go by what is there
pub members-moved : (xs ys : List Value) → IsPermutation xs ys → members value_cmp xs ≡ members value_cmp ys
members-moved = members-permuted value_cmp value_cmp_total value_cmp-IsAntisymmetric

-- a value that is moved from the end of one list to the end of another
pub IsPermutation-moved : (xs vs ts : List Value) (v : Value) → IsPermutation xs ((vs ++ v ∷ []) ++ ts) → IsPermutation xs (vs ++ (ts ++ v ∷ []))
IsPermutation-moved xs vs ts v h =
    IsPermutation-trans xs (vs ++ (v ∷ ts)) (vs ++ (ts ++ v ∷ [])) (subst (IsPermutation xs) (append_assoc vs (v ∷ []) ts) h)
    (IsPermutation-append vs vs (v ∷ ts) (ts ++ v ∷ []) (IsPermutation-refl vs) (IsPermutation-append_comm (v ∷ []) ts))
