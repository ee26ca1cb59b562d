-- Sets that are joined.
use Rattle.std.proofs.Common.{◌≡◌, ◌++◌, List, refl, sym, ap, ◌∙◌}
use Rattle.std.proofs.lemmas.List.Sorted.{IsPermutation-append_comm}
use Rattle.std.specs.List.Sorted.{IsPermutation}
use Rattle.std.specs.Prelude.{OnOk}
use Rattle.std.specs.declared.result.Result.{Result}
use Rattle.std.specs.declared.result.Result.TheVariants.{Ok, Err}
use Rattle.chv_agg.proofs.DistinctLemmas.{members-moved}
use Rattle.chv_agg.specs.States.{join}
use Rattle.chv_agg.specs.UniqLaws.{members-members, members-settled_first}
use Rattle.chv_agg.specs.declared.any_agg.AnyAgg.TheVariants.{Uniq}
use Rattle.chv_types.specs.Members.{members}
use Rattle.chv_types.specs.Order.{value_cmp}
use Rattle.chv_types.specs.declared.value.Value.{Value}

-- two sets as one
pub join-Uniq : (a b : List Value) → join (Uniq a) (Uniq b) ≡ Uniq (members value_cmp (a ++ b))
unfolding join
join-Uniq a b = refl

pub ruleset gathered_laws = (join-Uniq, members-settled_first, members-members)

-- values that are gathered beside others, which may have settled
gathered : (old room set new : List Value) → members value_cmp room ≡ members value_cmp old → IsPermutation (set ++ room) new → members value_cmp new ≡ members value_cmp (members value_cmp old ++ set)
gathered old room set new e moved =
    sym (members-moved _ _ moved) ∙ members-moved _ _ (IsPermutation-append_comm set room)
    ∙ sym (members-settled_first room set) ∙ ap (λ (xs : List Value). members value_cmp (xs ++ set)) e

pub members-gathered : {E : Type 0} (result : Result (Unit {0}) E) (old room set new : List Value) → members value_cmp room ≡ members value_cmp old
    → OnOk result (IsPermutation (set ++ room) new) → OnOk result (members value_cmp new ≡ members value_cmp (members value_cmp old ++ set))
members-gathered (Ok done) old room set new e moved = gathered old room set new e moved
members-gathered (Err fault) old room set new e moved = tt
