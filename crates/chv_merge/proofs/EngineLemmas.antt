-- What holds of the normal forms of all engines.
use Rattle.std.proofs.Common.{◌≡◌, ℕ, ◌<◌, ◌≤◌, ◌^◌, Bool, List, [], ◌∷◌, ◌++◌, length, refl, sym, ap, ◌∙◌, arith, append-nil, filter}
use Rattle.std.proofs.lemmas.List.Elements.{All-nil, All-cons, All-head, All-tail}
use Rattle.std.specs.List.{All}
use Rattle.std.specs.List.Sorted.{IsPermutation, IsSortedBy}
use Rattle.chv_agg.specs.OfKinds.{AllAreOf, AreOf}
use Rattle.chv_agg.specs.Pairs.{items_under}
use Rattle.chv_agg.specs.Sets.{SetsWithin}
use Rattle.chv_types.specs.Order.{row_cmp}
use Rattle.chv_types.specs.declared.kind.Kind.{Kind}
use Rattle.chv_types.specs.declared.table.Engine.{Engine}
use Rattle.chv_types.specs.declared.table.Engine.TheVariants.{MergeTree, Aggregating}
use Rattle.chv_types.specs.declared.value.Value.{Value}
use Rattle.chv_merge.specs.NormalForms.{before, normal_form, normal_form_of, values_at}
use Rattle.chv_merge.proofs.AggregatedLemmas.{aggregated-IsSortedBy, aggregated-alike, aggregated-append, aggregated-filter, aggregated-length, aggregated-nil, aggregated-permuted, aggregated-some}
use Rattle.chv_merge.proofs.ByKeyLemmas.{normal_form-alike, normal_form-before, normal_form-filter}
use Rattle.chv_merge.proofs.KindLemmas.{aggregated-kinds}
use Rattle.chv_merge.proofs.NormalFormLemmas.{normal_form-all, normal_form-append, normal_form-length, normal_form-permuted}

pub all_from : (kinds : List Kind) (rows : List (List Value)) → AllAreOf kinds rows → All (AreOf kinds) rows
all_from kinds [] are = All-nil (AreOf kinds)
all_from kinds (row ∷ rows) are = All-cons (AreOf kinds) row rows are.0 (all_from kinds rows are.1)

pub all_to : (kinds : List Kind) (rows : List (List Value)) → All (AreOf kinds) rows → AllAreOf kinds rows
all_to kinds [] all = tt
all_to kinds (row ∷ rows) all = (All-head (AreOf kinds) row rows all, all_to kinds rows (All-tail (AreOf kinds) row rows all))

pub normal_form-kinds : (kinds : List Kind) (key : List ℕ) (rows : List (List Value)) → AllAreOf kinds rows → AllAreOf kinds (normal_form key rows)
normal_form-kinds kinds key rows are = all_to kinds (normal_form key rows) (normal_form-all (AreOf kinds) key rows (all_from kinds rows are))

normal_form-nil : (key : List ℕ) → normal_form key [] ≡ []
unfolding normal_form
normal_form-nil key = refl

normal_form_of-nil : (engine : Engine) (kinds : List Kind) (key : List ℕ) → normal_form_of engine kinds key [] ≡ []
normal_form_of-nil MergeTree kinds key = normal_form-nil key
normal_form_of-nil Aggregating kinds key = aggregated-nil kinds key

pub normal_form_of-permuted : (engine : Engine) (kinds : List Kind) (key : List ℕ) (a b : List (List Value)) → IsPermutation a b
    → normal_form_of engine kinds key a ≡ normal_form_of engine kinds key b
normal_form_of-permuted MergeTree kinds key = normal_form-permuted key
normal_form_of-permuted Aggregating kinds key = aggregated-permuted kinds key

pub normal_form_of-append : (engine : Engine) (kinds : List Kind) (key : List ℕ) (a b : List (List Value))
    → normal_form_of engine kinds key (a ++ b) ≡ normal_form_of engine kinds key (normal_form_of engine kinds key a ++ normal_form_of engine kinds key b)
normal_form_of-append MergeTree kinds key = normal_form-append key
normal_form_of-append Aggregating kinds key = aggregated-append kinds key

pub normal_form_of-again : (engine : Engine) (kinds : List Kind) (key : List ℕ) (rows : List (List Value))
    → normal_form_of engine kinds key (normal_form_of engine kinds key rows) ≡ normal_form_of engine kinds key rows
normal_form_of-again engine kinds key rows =
    sym (ap (normal_form_of engine kinds key) (append-nil (normal_form_of engine kinds key rows)))
    ∙ ap (λ (more : List (List Value)). normal_form_of engine kinds key (normal_form_of engine kinds key rows ++ more)) (sym (normal_form_of-nil engine kinds key))
    ∙ sym (normal_form_of-append engine kinds key rows [])
    ∙ ap (normal_form_of engine kinds key) (append-nil rows)

pub normal_form_of-length : (engine : Engine) (kinds : List Kind) (key : List ℕ) (rows : List (List Value)) → length (normal_form_of engine kinds key rows) ≤ length rows
normal_form_of-length MergeTree kinds key rows = omega (arith, normal_form-length key rows)
normal_form_of-length Aggregating kinds key rows = aggregated-length kinds key rows

pub normal_form_of-some : (engine : Engine) (kinds : List Kind) (key : List ℕ) (rows : List (List Value)) → 1 ≤ length rows → 1 ≤ length (normal_form_of engine kinds key rows)
normal_form_of-some MergeTree kinds key rows some = omega (arith, some, normal_form-length key rows)
normal_form_of-some Aggregating kinds key rows some = aggregated-some kinds key rows some

pub normal_form_of-kinds : (engine : Engine) (kinds : List Kind) (key : List ℕ) (most : ℕ) (rows : List (List Value)) → most < 2 ^ 64 → AllAreOf kinds rows
    → (engine ≡ Aggregating → SetsWithin most kinds rows) → AllAreOf kinds (normal_form_of engine kinds key rows)
normal_form_of-kinds MergeTree kinds key most rows few are within = normal_form-kinds kinds key rows are
normal_form_of-kinds Aggregating kinds key most rows few are within = aggregated-kinds kinds key most rows few are (within refl)

pub normal_form_of-alike : (engine : Engine) (kinds : List Kind) (key : List ℕ) (a b : List (List Value))
    → ((values : List Value) → items_under row_cmp (values_at key) values a ≡ items_under row_cmp (values_at key) values b)
    → normal_form_of engine kinds key a ≡ normal_form_of engine kinds key b
normal_form_of-alike MergeTree kinds key a b alike = normal_form-alike key a b alike
normal_form_of-alike Aggregating kinds key a b alike = aggregated-alike kinds key a b alike

pub normal_form_of-filter : (engine : Engine) (kinds : List Kind) (key : List ℕ) (keep : List Value → Bool) (rows : List (List Value))
    → filter (λ row. keep (values_at key row)) (normal_form_of engine kinds key rows) ≡ normal_form_of engine kinds key (filter (λ row. keep (values_at key row)) rows)
normal_form_of-filter MergeTree kinds key keep rows = normal_form-filter key (λ row. keep (values_at key row)) rows
normal_form_of-filter Aggregating kinds key keep rows = aggregated-filter kinds key keep rows

pub normal_form_of-IsSortedBy : (engine : Engine) (kinds : List Kind) (key : List ℕ) (rows : List (List Value)) → IsSortedBy (before key) (normal_form_of engine kinds key rows)
normal_form_of-IsSortedBy MergeTree kinds key rows = normal_form-before key rows
normal_form_of-IsSortedBy Aggregating kinds key rows = aggregated-IsSortedBy kinds key rows
