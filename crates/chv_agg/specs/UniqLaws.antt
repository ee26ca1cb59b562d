-- What sets of values keep to.
use Rattle.std.proofs.Common.{◌≡◌, List, [], ◌∷◌, ◌++◌, get_or, append_assoc, refl, sym, ap, ◌∙◌, ⊎_elim}
use Rattle.std.proofs.lemmas.List.Elements.{All-cons, All-contains, All-nil, Contains-append_cases, Contains-get_or}
use Rattle.std.proofs.lemmas.List.Sorted.{IsPermutation-append_comm}
use Rattle.std.specs.List.{All, Contains}
use Rattle.chv_agg.specs.AggregateLaws.{AggregateLaws, IsSet, state_from}
use Rattle.chv_agg.specs.FoldLaws.{state_from-cons}
use Rattle.chv_agg.specs.Functions.{set_join, set_one}
use Rattle.chv_types.proofs.MemberLemmas.{members-append, members-HaveSame, members-permuted, members-Rises, members-unique}
use Rattle.chv_types.specs.Fits.{IsOfScalar}
use Rattle.chv_types.specs.Members.{members, Rises}
use Rattle.chv_types.specs.Order.{value_cmp}
use Rattle.chv_types.specs.OrderLaws.{value_cmp_total, value_cmp-IsAntisymmetric}
use Rattle.chv_types.specs.declared.value.Value.{Value}

-- the members of what rises already are that
pub members-again : (a : List Value) → Rises value_cmp a → members value_cmp a ≡ a
members-again a rises = sym (members-unique value_cmp value_cmp_total value_cmp-IsAntisymmetric a a rises (λ z. ((λ at. at), (λ at. at))))

pub members-members : (a : List Value) → members value_cmp (members value_cmp a) ≡ members value_cmp a
members-members a = members-again _ (members-Rises value_cmp value_cmp_total value_cmp-IsAntisymmetric a)

-- the first of two lists may have settled
pub members-settled_first : (a b : List Value) → members value_cmp (members value_cmp a ++ b) ≡ members value_cmp (a ++ b)
members-settled_first a b =
    sym (members-append value_cmp value_cmp_total value_cmp-IsAntisymmetric (members value_cmp a) b)
    ∙ ap (λ (xs : List Value). members value_cmp (xs ++ members value_cmp b)) (members-members a)
    ∙ members-append value_cmp value_cmp_total value_cmp-IsAntisymmetric a b

-- so may the second
pub members-settled_second : (a b : List Value) → members value_cmp (a ++ members value_cmp b) ≡ members value_cmp (a ++ b)
members-settled_second a b =
    sym (members-append value_cmp value_cmp_total value_cmp-IsAntisymmetric a (members value_cmp b))
    ∙ ap (λ (xs : List Value). members value_cmp (members value_cmp a ++ xs)) (members-members b)
    ∙ members-append value_cmp value_cmp_total value_cmp-IsAntisymmetric a b

pub set_join-assoc : (a b c : List Value) → set_join (set_join a b) c ≡ set_join a (set_join b c)
set_join-assoc a b c =
    members-settled_first (a ++ b) c ∙ ap (members value_cmp) (append_assoc a b c) ∙ sym (members-settled_second a (b ++ c))

pub set_join-comm : (a b : List Value) → set_join a b ≡ set_join b a
set_join-comm a b = members-permuted value_cmp value_cmp_total value_cmp-IsAntisymmetric (a ++ b) (b ++ a) (IsPermutation-append_comm a b)

-- what holds of the items of two lists holds of the members of both
members-All : (P : Value → Type 0) (a b : List Value) → All P a → All P b → All P (members value_cmp (a ++ b))
members-All P a b p q k d within =
    let all : List Value = members value_cmp (a ++ b) in
    let there : Contains (a ++ b) (get_or all k d) = (members-HaveSame value_cmp value_cmp_total value_cmp-IsAntisymmetric (a ++ b) (get_or all k d)).1 (Contains-get_or all k d within) in
    ⊎_elim (λ at. All-contains P a (get_or all k d) p at) (λ at. All-contains P b (get_or all k d) q at) (Contains-append_cases a b (get_or all k d) there)

pub set_laws : AggregateLaws IsSet [] set_one set_join
set_laws = record {
  assoc = set_join-assoc;
  comm = set_join-comm;
  identity = λ arg a fits. members-again a fits.1;
  fits_unit = λ arg. (All-nil (IsOfScalar arg), tt);
  fits_one = λ arg value of. (All-cons (IsOfScalar arg) value [] of (All-nil (IsOfScalar arg)), (All-nil _, tt));
  closed = λ arg a b first second. (members-All (IsOfScalar arg) a b first.0 second.0, members-Rises value_cmp value_cmp_total value_cmp-IsAntisymmetric (a ++ b));
}

pub set_state : (values : List Value) → state_from [] set_one set_join values ≡ members value_cmp values
set_state [] = refl
set_state (value ∷ values) =
    state_from-cons set_join set_join-assoc set_join-comm [] set_one value values
    ∙ ap (set_join (value ∷ [])) (set_state values) ∙ members-settled_second (value ∷ []) values
