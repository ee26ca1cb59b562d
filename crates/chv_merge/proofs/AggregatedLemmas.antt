-- The rows of each key as one.
use Rattle.std.proofs.Common.{◌≡◌, ℕ, zero, suc, ◌≤◌, Bool, true, false, cond, if◌then◌else◌, List, [], ◌∷◌, ◌++◌, map, length, Option, None, Some, Less, Equal, Greater, refl, sym, ap, ap₂, subst, ◌∙◌, add-one, arith, filter}
use Rattle.std.proofs.lemmas.List.{map-append}
use Rattle.std.proofs.lemmas.List.Elements.{All-head}
use Rattle.std.proofs.lemmas.List.Sorted.{IsPermutation-map}
use Rattle.std.specs.List.Sorted.{IsPermutation, IsSortedBy}
use Rattle.std.specs.Ordering.{is_eq, is_lt, ordering_reverse}
use Rattle.chv_agg.proofs.PairLemmas.{collapse-Rises, collapse-alike, collapse-append, collapse-each_by_key, collapse-permuted, kept-collapse}
use Rattle.chv_agg.specs.Pairs.{collapse, grouped_by, items_under, join_found, joint, kept, pair_keys, put_pair, value_under}
use Rattle.chv_types.specs.Members.{by_order, Rises}
use Rattle.chv_types.specs.Order.{row_cmp}
use Rattle.chv_types.specs.OrderLaws.{row_cmp_total, row_cmp-IsAntisymmetric}
use Rattle.chv_types.specs.declared.kind.Kind.{Kind}
use Rattle.chv_types.specs.declared.value.Value.{Value}
use Rattle.chv_merge.specs.NormalForms.{aggregated, before, keyed, merge_all, merge_rows, values_at}
use Rattle.chv_merge.proofs.KeyLemmas.{merge_rows-key}
use Rattle.chv_merge.proofs.MergeLemmas.{merge_all-IsStepwise, merge_rows-IsAssociative, merge_rows-IsCommutative}

-- a row with its key
abbrev pub Pair : Type 0
Pair = List Value × List Value

abbrev pub rows_in : List Pair → List (List Value)
rows_in pairs = map (λ pair. pair.1) pairs

-- each row stands behind its key
abbrev pub AreKeyed : List ℕ → List Pair → Type 0
AreKeyed key [] = Unit {0}
AreKeyed key (pair ∷ pairs) = (pair.0 ≡ values_at key pair.1) × AreKeyed key pairs

map-keyed : (key : List ℕ) (rows : List (List Value)) → AreKeyed key (map (keyed key) rows)
map-keyed key [] = tt
map-keyed key (row ∷ rows) = (refl, map-keyed key rows)

-- rows that stand behind their keys get them again
keyed_again : (key : List ℕ) (pairs : List Pair) → AreKeyed key pairs → map (keyed key) (rows_in pairs) ≡ pairs
keyed_again key [] h = refl
keyed_again key (pair ∷ pairs) h =
    ap₂ (λ (values : List Value) (others : List Pair). (values, pair.1) ∷ others) (sym h.0) (keyed_again key pairs h.1)

keys_again : (key : List ℕ) (pairs : List Pair) → AreKeyed key pairs → map (values_at key) (rows_in pairs) ≡ pair_keys pairs
keys_again key [] h = refl
keys_again key (pair ∷ pairs) h = ap₂ (λ (values : List Value) (others : List (List Value)). values ∷ others) (sym h.0) (keys_again key pairs h.1)

kept_rows : (key : List ℕ) (keep : List Value → Bool) (pairs : List Pair) → AreKeyed key pairs
    → filter (λ row. keep (values_at key row)) (rows_in pairs) ≡ rows_in (kept keep pairs)
kept_rows key keep [] h = refl
kept_rows key keep (pair ∷ pairs) h =
    ap₂ (λ (values : List Value) (others : List (List Value)). cond (keep values) (pair.1 ∷ others) others) (sym h.0) (kept_rows key keep pairs h.1)
    ∙ elim (keep pair.0) as (λ b. cond b (pair.1 ∷ rows_in (kept keep pairs)) (rows_in (kept keep pairs)) ≡ rows_in (cond b (pair ∷ kept keep pairs) (kept keep pairs))) [
      | true ↦ refl
      | false ↦ refl
    ]

kept_keyed : (key : List ℕ) (keep : List Value → Bool) (rows : List (List Value))
    → kept keep (map (keyed key) rows) ≡ map (keyed key) (filter (λ row. keep (values_at key row)) rows)
kept_keyed key keep [] = refl
kept_keyed key keep (row ∷ rows) =
    elim (keep (values_at key row)) as (λ b. cond b (keyed key row ∷ kept keep (map (keyed key) rows)) (kept keep (map (keyed key) rows))
    ≡ map (keyed key) (cond b (row ∷ filter (λ other. keep (values_at key other)) rows) (filter (λ other. keep (values_at key other)) rows))) [
      | true ↦ ap (λ (pairs : List Pair). keyed key row ∷ pairs) (kept_keyed key keep rows)
      | false ↦ kept_keyed key keep rows
    ]

-- rows whose keys rise stand in the order of keys
rising_rows : (key : List ℕ) (rows : List (List Value)) → Rises row_cmp (map (values_at key) rows) → IsSortedBy (before key) rows
rising_rows key [] h k d low high = absurd (omega (arith, high))
rising_rows key (row ∷ []) h k d low high = absurd (omega (arith, high))
rising_rows key (row ∷ (next ∷ rows)) h zero d low high =
    ap is_lt (row_cmp_total.antisymm (values_at key next) (values_at key row)
    ∙ ap ordering_reverse (All-head (λ values. row_cmp (values_at key row) values ≡ Less) (values_at key next) (map (values_at key) rows) h.0))
rising_rows key (row ∷ (next ∷ rows)) h (suc k) d low high =
    rw add-one (rw add-one at (rising_rows key (next ∷ rows) h.1 k d (omega arith) (omega (arith, high))))

module _ (kinds : List Kind) (key : List ℕ) where
  -- rows of each key as one, behind their keys
  abbrev pub pairs_of : List (List Value) → List Pair
  pairs_of rows = collapse row_cmp (merge_rows kinds key) (map (keyed key) rows)

  put_pair-keyed : (pair : Pair) (pairs : List Pair) → AreKeyed key (pair ∷ pairs) → AreKeyed key (put_pair row_cmp (merge_rows kinds key) pair pairs)
  put_pair-keyed pair [] h = h
  put_pair-keyed pair (first ∷ pairs) h =
      elim (row_cmp pair.0 first.0) as (λ o. row_cmp pair.0 first.0 ≡ o
      → AreKeyed key (by_order o (pair ∷ (first ∷ pairs)) ((first.0, merge_rows kinds key pair.1 first.1) ∷ pairs) (first ∷ put_pair row_cmp (merge_rows kinds key) pair pairs))) [
        | Less ↦ λ e. h
        | Equal ↦ λ e. (
          h.1.0 ∙ sym (merge_rows-key kinds key pair.1 first.1 (sym h.0 ∙ row_cmp-IsAntisymmetric pair.0 first.0 e ∙ h.1.0)),
          h.1.1,
        )
        | Greater ↦ λ e. (h.1.0, put_pair-keyed pair pairs (h.0, h.1.1))
      ] refl

  collapse-keyed : (pairs : List Pair) → AreKeyed key pairs → AreKeyed key (collapse row_cmp (merge_rows kinds key) pairs)
  collapse-keyed [] h = tt
  collapse-keyed (pair ∷ pairs) h = put_pair-keyed pair (collapse row_cmp (merge_rows kinds key) pairs) (h.0, collapse-keyed pairs h.1)

  pairs_of-keyed : (rows : List (List Value)) → AreKeyed key (pairs_of rows)
  pairs_of-keyed rows = collapse-keyed (map (keyed key) rows) (map-keyed key rows)

  aggregated-keyed : (rows : List (List Value)) → map (keyed key) (aggregated kinds key rows) ≡ pairs_of rows
  unfolding aggregated
  aggregated-keyed rows = keyed_again key (pairs_of rows) (pairs_of-keyed rows)

  pub aggregated-permuted : (a b : List (List Value)) → IsPermutation a b → aggregated kinds key a ≡ aggregated kinds key b
  unfolding aggregated
  aggregated-permuted a b moved =
      ap rows_in (collapse-permuted row_cmp (merge_rows kinds key) row_cmp_total row_cmp-IsAntisymmetric (merge_rows-IsAssociative kinds key) (merge_rows-IsCommutative kinds key)
      (map (keyed key) a) (map (keyed key) b) (IsPermutation-map (keyed key) a b moved))

  pub aggregated-append : (a b : List (List Value)) → aggregated kinds key (a ++ b) ≡ aggregated kinds key (aggregated kinds key a ++ aggregated kinds key b)
  unfolding aggregated
  aggregated-append a b =
      ap (λ (pairs : List Pair). rows_in (collapse row_cmp (merge_rows kinds key) pairs)) (map-append (keyed key) a b)
      ∙ ap rows_in (sym (collapse-append row_cmp (merge_rows kinds key) row_cmp_total row_cmp-IsAntisymmetric (merge_rows-IsAssociative kinds key) (map (keyed key) a) (map (keyed key) b)))
      ∙ sym (ap (λ (pairs : List Pair). rows_in (collapse row_cmp (merge_rows kinds key) pairs))
      (map-append (keyed key) (aggregated kinds key a) (aggregated kinds key b)
      ∙ ap₂ (λ (p q : List Pair). p ++ q) (aggregated-keyed a) (aggregated-keyed b)))

  -- the rows of a key as one, where there are any
  abbrev merged_found : List (List Value) → Option (List Value)
  merged_found [] = None
  merged_found (row ∷ rows) = Some (merge_all kinds key (row ∷ rows))

  one_more : (b : Bool) (row : List Value) (rows : List (List Value))
      → join_found (merge_rows kinds key) (if b then Some row else None) (merged_found rows) ≡ merged_found (cond b (row ∷ rows) rows)
  one_more false row rows = refl
  one_more true row [] = refl
  one_more true row (next ∷ rows) = ap Some (sym (merge_all-IsStepwise kinds key row next rows))

  joint-keyed : (values : List Value) (rows : List (List Value))
      → joint row_cmp (merge_rows kinds key) values (map (keyed key) rows) ≡ merged_found (items_under row_cmp (values_at key) values rows)
  joint-keyed values [] = refl
  joint-keyed values (row ∷ rows) =
      ap (join_found (merge_rows kinds key) (value_under row_cmp values (keyed key row))) (joint-keyed values rows)
      ∙ one_more (is_eq (row_cmp (values_at key row) values)) row (items_under row_cmp (values_at key) values rows)

  pub aggregated-alike : (a b : List (List Value))
      → ((values : List Value) → items_under row_cmp (values_at key) values a ≡ items_under row_cmp (values_at key) values b) → aggregated kinds key a ≡ aggregated kinds key b
  unfolding aggregated
  aggregated-alike a b alike =
      ap rows_in (collapse-alike row_cmp (merge_rows kinds key) row_cmp_total row_cmp-IsAntisymmetric (merge_rows-IsAssociative kinds key)
      (map (keyed key) a) (map (keyed key) b) (λ values. joint-keyed values a ∙ ap merged_found (alike values) ∙ sym (joint-keyed values b)))

  pub aggregated-filter : (keep : List Value → Bool) (rows : List (List Value))
      → filter (λ row. keep (values_at key row)) (aggregated kinds key rows) ≡ aggregated kinds key (filter (λ row. keep (values_at key row)) rows)
  unfolding aggregated
  aggregated-filter keep rows =
      kept_rows key keep (pairs_of rows) (pairs_of-keyed rows)
      ∙ ap rows_in (kept-collapse row_cmp (merge_rows kinds key) row_cmp_total row_cmp-IsAntisymmetric keep (merge_rows-IsAssociative kinds key) (map (keyed key) rows))
      ∙ ap (λ (pairs : List Pair). rows_in (collapse row_cmp (merge_rows kinds key) pairs)) (kept_keyed key keep rows)

  pub aggregated-Rises : (rows : List (List Value)) → Rises row_cmp (map (values_at key) (aggregated kinds key rows))
  unfolding aggregated
  aggregated-Rises rows =
      subst (Rises row_cmp) (sym (keys_again key (pairs_of rows) (pairs_of-keyed rows)))
      (collapse-Rises row_cmp (merge_rows kinds key) row_cmp_total row_cmp-IsAntisymmetric (merge_rows-IsAssociative kinds key) (map (keyed key) rows))

  pub aggregated-IsSortedBy : (rows : List (List Value)) → IsSortedBy (before key) (aggregated kinds key rows)
  aggregated-IsSortedBy rows = rising_rows key (aggregated kinds key rows) (aggregated-Rises rows)

  pub aggregated-grouped : (rows : List (List Value)) → aggregated kinds key rows ≡ map (λ pair. pair.1) (grouped_by row_cmp (values_at key) (merge_all kinds key) rows)
  unfolding aggregated
  aggregated-grouped rows =
      ap rows_in (collapse-each_by_key row_cmp (merge_rows kinds key) (values_at key) (merge_all kinds key) (merge_all-IsStepwise kinds key)
      row_cmp_total row_cmp-IsAntisymmetric (merge_rows-IsAssociative kinds key) rows)

  pub aggregated-nil : aggregated kinds key [] ≡ []
  unfolding aggregated
  aggregated-nil = refl

  -- with a pair there are no fewer than one and one more than before at most
  put_pair-length : (pair : Pair) (pairs : List Pair)
      → (1 ≤ length (rows_in (put_pair row_cmp (merge_rows kinds key) pair pairs))) × (length (rows_in (put_pair row_cmp (merge_rows kinds key) pair pairs)) ≤ suc (length (rows_in pairs)))
  put_pair-length pair [] = (omega arith, omega arith)
  put_pair-length pair (first ∷ pairs) =
      elim (row_cmp pair.0 first.0) as (λ o.
      (1 ≤ length (rows_in (by_order o (pair ∷ (first ∷ pairs)) ((first.0, merge_rows kinds key pair.1 first.1) ∷ pairs) (first ∷ put_pair row_cmp (merge_rows kinds key) pair pairs))))
      × (length (rows_in (by_order o (pair ∷ (first ∷ pairs)) ((first.0, merge_rows kinds key pair.1 first.1) ∷ pairs) (first ∷ put_pair row_cmp (merge_rows kinds key) pair pairs)))
      ≤ suc (suc (length (rows_in pairs))))) [
        | Less ↦ (omega arith, omega arith)
        | Equal ↦ (omega arith, omega arith)
        | Greater ↦ (omega arith, omega (arith, (put_pair-length pair pairs).1))
      ]

  pub aggregated-length : (rows : List (List Value)) → length (aggregated kinds key rows) ≤ length rows
  unfolding aggregated
  aggregated-length [] = omega arith
  aggregated-length (row ∷ rows) = omega (arith, (put_pair-length (keyed key row) (pairs_of rows)).1, aggregated-length rows)

  pub aggregated-some : (rows : List (List Value)) → 1 ≤ length rows → 1 ≤ length (aggregated kinds key rows)
  unfolding aggregated
  aggregated-some [] some = absurd (omega (arith, some))
  aggregated-some (row ∷ rows) some = (put_pair-length (keyed key row) (pairs_of rows)).0
