-- Rows that stand in the order of their keys.
use Rattle.std.proofs.Common.{◌≡◌, ℕ, Bool, true, false, List, [], ◌∷◌, ◌++◌, map, Less, Equal, Greater, refl, sym, ap, ap₂, subst, ◌∙◌, flat_map, append_assoc}
use Rattle.std.proofs.lemmas.List.Elements.{All-cons, All-head, All-map, All-nil, All-tail, All-weaker}
use Rattle.std.proofs.lemmas.List.MinMax.{ranks_by}
use Rattle.std.proofs.lemmas.List.Sorted.{All-permutation}
use Rattle.std.specs.Cmp.{Equal-is}
use Rattle.std.specs.List.{All}
use Rattle.std.specs.List.Sorted.{IsPermutation, IsSortedBy}
use Rattle.std.specs.Ordering.{is_eq, is_lt, ordering_reverse}
use Rattle.std.specs.declared.cmp.Ordering.{Ordering}
use Rattle.chv_agg.specs.OfKinds.{AllAreOf, AreOf}
use Rattle.chv_agg.specs.Pairs.{collapse, put_pair}
use Rattle.chv_types.proofs.SortingLemmas.{Ascending, Ascending-from_sorted}
use Rattle.chv_types.specs.Members.{by_order}
use Rattle.chv_types.specs.Order.{row_cmp}
use Rattle.chv_types.specs.OrderLaws.{row_cmp_total, row_cmp-IsAntisymmetric}
use Rattle.chv_types.specs.declared.kind.Kind.{Kind}
use Rattle.chv_types.specs.declared.value.Value.{Value}
use Rattle.chv_merge.proofs.EngineLemmas.{all_from, all_to}
use Rattle.chv_merge.proofs.MergeLemmas.{merge_all-IsStepwise}
use Rattle.chv_merge.specs.Merging.{begins_alike}
use Rattle.chv_merge.specs.NormalForms.{aggregated, before, keyed, merge_all, merge_rows, values_at}

module _ {K V : Type 0} (cmp : K → K → Ordering) (join : V → V → V) where
  -- the first of pairs stands behind a key
  abbrev BeginsBehind : K → List (K × V) → Type 0
  BeginsBehind key [] = Unit {0}
  BeginsBehind key (first ∷ pairs) = cmp key first.0 ≡ Less

  put_pair-behind : (key : K) (pair : K × V) (pairs : List (K × V)) → cmp key pair.0 ≡ Less → BeginsBehind key pairs → BeginsBehind key (put_pair cmp join pair pairs)
  put_pair-behind key pair [] below behind = below
  put_pair-behind key pair (first ∷ pairs) below behind =
      elim (cmp pair.0 first.0) as (λ o. BeginsBehind key (by_order o (pair ∷ (first ∷ pairs)) ((first.0, join pair.1 first.1) ∷ pairs) (first ∷ put_pair cmp join pair pairs))) [
        | Less ↦ below
        | Equal ↦ behind
        | Greater ↦ behind
      ]

  collapse-behind : (key : K) (pairs : List (K × V)) → All (λ pair. cmp key pair.0 ≡ Less) pairs → BeginsBehind key (collapse cmp join pairs)
  collapse-behind key [] all = tt
  collapse-behind key (pair ∷ pairs) all =
      put_pair-behind key pair (collapse cmp join pairs) (All-head (λ pair. cmp key pair.0 ≡ Less) pair pairs all)
      (collapse-behind key pairs (All-tail (λ pair. cmp key pair.0 ≡ Less) pair pairs all))

  put_pair-front : (pair : K × V) (pairs : List (K × V)) → BeginsBehind pair.0 pairs → put_pair cmp join pair pairs ≡ pair ∷ pairs
  put_pair-front pair [] behind = refl
  put_pair-front pair (first ∷ pairs) behind =
      ap (λ o. by_order o (pair ∷ (first ∷ pairs)) ((first.0, join pair.1 first.1) ∷ pairs) (first ∷ put_pair cmp join pair pairs)) behind

  put_pair-tied : (pair : K × V) (key : K) (value : V) (pairs : List (K × V)) → cmp pair.0 key ≡ Equal → put_pair cmp join pair ((key, value) ∷ pairs) ≡ (key, join pair.1 value) ∷ pairs
  put_pair-tied pair key value pairs tied =
      ap (λ o. by_order o (pair ∷ ((key, value) ∷ pairs)) ((key, join pair.1 value) ∷ pairs) ((key, value) ∷ put_pair cmp join pair pairs)) tied

module _ (kinds : List Kind) (key : List ℕ) where
  -- the rows of each key as one, with their keys
  abbrev joint_rows : List (List Value) → List (List Value × List Value)
  joint_rows rows = collapse row_cmp (merge_rows kinds key) (map (keyed key) rows)

  -- a row has the key of another
  abbrev IsAlike : List Value → List Value → Type 0
  IsAlike row other = is_eq (row_cmp (values_at key row) (values_at key other)) ≡ true

  alike : (row other : List Value) → IsAlike row other → values_at key row ≡ values_at key other
  alike row other e = row_cmp-IsAntisymmetric (values_at key row) (values_at key other) ((Equal-is _).0 e)

  -- the rows of one key in front of rows of keys behind it
  joint_rows-run : (row : List Value) (others rest : List (List Value)) → All (IsAlike row) others
      → BeginsBehind row_cmp (merge_rows kinds key) (values_at key row) (joint_rows rest)
      → joint_rows (row ∷ others ++ rest) ≡ (values_at key row, merge_all kinds key (row ∷ others)) ∷ joint_rows rest
  joint_rows-run row [] rest all behind = put_pair-front row_cmp (merge_rows kinds key) (keyed key row) (joint_rows rest) behind
  joint_rows-run row (other ∷ others) rest all behind =
      let join = merge_rows kinds key in
      let same : values_at key row ≡ values_at key other = alike row other (All-head (IsAlike row) other others all) in
      let others_alike : All (IsAlike other) others =
      All-weaker (IsAlike row) (IsAlike other) (λ one e. ap (λ k. is_eq (row_cmp k (values_at key one))) (sym same) ∙ e) others (All-tail (IsAlike row) other others all) in
      let tied : row_cmp (values_at key row) (values_at key other) ≡ Equal = (Equal-is _).0 (All-head (IsAlike row) other others all) in
      ap (put_pair row_cmp join (keyed key row)) (joint_rows-run other others rest others_alike (subst (λ k. BeginsBehind row_cmp join k (joint_rows rest)) same behind))
      ∙ put_pair-tied row_cmp join (keyed key row) (values_at key other) (merge_all kinds key (other ∷ others)) (joint_rows rest) tied
      ∙ ap₂ (λ (k : List Value) (v : List Value). (k, v) ∷ joint_rows rest) (sym same) (sym (merge_all-IsStepwise kinds key row other others))

-- an order that is neither below nor the same is above
is_above : (o : Ordering) → is_lt (ordering_reverse o) ≡ false → is_eq o ≡ false → o ≡ Less
is_above Less h k = refl
is_above Equal h k = cc
is_above Greater h k = cc

-- a list in order without the items in its middle
without : {A : Type 0} (below : A → A → Bool) (item : A) (middle items : List A) → Ascending below (item ∷ middle ++ items) → Ascending below (item ∷ items)
without below item [] items up = up
without below item (next ∷ middle) items up =
    without below item middle items (All-tail (λ other. below other item ≡ false) next (middle ++ items) up.0, up.1.1)

module _ (key : List ℕ) where
  abbrev IsBehind : List Value → List Value → Type 0
  IsBehind row other = row_cmp (values_at key row) (values_at key other) ≡ Less

  behind-step : (row first other : List Value) → IsBehind row first → before key other first ≡ false → IsBehind row other
  behind-step row first other below up =
      elim (row_cmp (values_at key first) (values_at key other)) as (λ o. row_cmp (values_at key first) (values_at key other) ≡ o → IsBehind row other) [
        | Less ↦ λ e. row_cmp_total.trans (values_at key row) (values_at key first) (values_at key other) below e
        | Equal ↦ λ e. subst (λ k. row_cmp (values_at key row) k ≡ Less) (row_cmp-IsAntisymmetric (values_at key first) (values_at key other) e) below
        | Greater ↦ λ e. let back : before key other first ≡ true = ap is_lt (row_cmp_total.antisymm (values_at key other) (values_at key first) ∙ ap ordering_reverse e) in cc
      ] refl

  behind-all : (row : List Value) (rest : List (List Value)) → Ascending (before key) (row ∷ rest) → begins_alike key row rest ≡ false → All (IsBehind row) rest
  behind-all row [] up apart = All-nil (IsBehind row)
  behind-all row (first ∷ rest) up apart =
      let not_below : before key first row ≡ false = All-head (λ other. before key other row ≡ false) first rest up.0 in
      let turned : is_lt (ordering_reverse (row_cmp (values_at key row) (values_at key first))) ≡ false = ap is_lt (sym (row_cmp_total.antisymm (values_at key first) (values_at key row))) ∙ not_below in
      let below : IsBehind row first = is_above (row_cmp (values_at key row) (values_at key first)) turned apart in
      All-cons (IsBehind row) first rest below
      (All-weaker (λ other. before key other first ≡ false) (IsBehind row) (λ other h. behind-step row first other below h) rest up.1.0)

module _ (kinds : List Kind) (key : List ℕ) where
  -- the first rows of a list in order, which have one key, are one row in front of what becomes of the others
  aggregated-run : (row : List Value) (others rest : List (List Value)) → Ascending (before key) (row ∷ others ++ rest) → All (IsAlike kinds key row) others
      → begins_alike key row rest ≡ false → aggregated kinds key (row ∷ others ++ rest) ≡ merge_all kinds key (row ∷ others) ∷ aggregated kinds key rest
  unfolding aggregated
  aggregated-run row others rest up same apart =
      let behind : All (IsBehind key row) rest = behind-all key row rest (without (before key) row others rest up) apart in
      ap (map (λ pair. pair.1)) (joint_rows-run kinds key row others rest same
      (collapse-behind row_cmp (merge_rows kinds key) (values_at key row) (map (keyed key) rest) (All-map (λ pair. row_cmp (values_at key row) pair.0 ≡ Less) (keyed key) rest behind)))

  -- what is merged, and what becomes of the rows that are left
  pub aggregated-step : (made pushed left others rest whole : List (List Value)) (row joint : List Value) → left ≡ row ∷ others ++ rest → Ascending (before key) left
      → All (IsAlike kinds key row) others → begins_alike key row rest ≡ false → joint ≡ merge_all kinds key (row ∷ others) → pushed ≡ made ++ joint ∷ []
      → made ++ aggregated kinds key left ≡ whole → pushed ++ aggregated kinds key rest ≡ whole
  aggregated-step made pushed left others rest whole row joint is up same apart joined push so_far =
      ap (λ rows. rows ++ aggregated kinds key rest) push ∙ append_assoc made (joint ∷ []) (aggregated kinds key rest)
      ∙ ap (λ one. made ++ one ∷ aggregated kinds key rest) joined
      ∙ ap (λ rows. made ++ rows) (sym (aggregated-run row others rest (subst (Ascending (before key)) is up) same apart) ∙ ap (aggregated kinds key) (sym is)) ∙ so_far

  pub aggregated-none : aggregated kinds key [] ≡ []
  unfolding aggregated
  aggregated-none = refl

pub Ascending-behind : {A : Type 0} (below : A → A → Bool) (xs ys : List A) → Ascending below (xs ++ ys) → Ascending below ys
Ascending-behind below [] ys up = up
Ascending-behind below (x ∷ xs) ys up = Ascending-behind below xs ys up.1

pub before-Ascending : (key : List ℕ) (rows : List (List Value)) → IsSortedBy (before key) rows → Ascending (before key) rows
before-Ascending key = Ascending-from_sorted (ranks_by row_cmp_total (values_at key))

-- rows of kinds, in front of others, behind others, and with one more
module _ (kinds : List Kind) where
  pub AllAreOf-front : (xs ys : List (List Value)) → AllAreOf kinds (xs ++ ys) → AllAreOf kinds xs
  AllAreOf-front [] ys are = tt
  AllAreOf-front (x ∷ xs) ys are = (are.0, AllAreOf-front xs ys are.1)

  pub AllAreOf-behind : (xs ys : List (List Value)) → AllAreOf kinds (xs ++ ys) → AllAreOf kinds ys
  AllAreOf-behind [] ys are = are
  AllAreOf-behind (x ∷ xs) ys are = AllAreOf-behind xs ys are.1

  pub AllAreOf-append : (xs ys : List (List Value)) → AllAreOf kinds xs → AllAreOf kinds ys → AllAreOf kinds (xs ++ ys)
  AllAreOf-append [] ys are more = more
  AllAreOf-append (x ∷ xs) ys are more = (are.0, AllAreOf-append xs ys are.1 more)

  pub AllAreOf-joined : (blocks : List (List (List Value))) → All (AllAreOf kinds) blocks → AllAreOf kinds (flat_map (λ block. block) blocks)
  AllAreOf-joined [] all = tt
  AllAreOf-joined (block ∷ blocks) all =
      AllAreOf-append block (flat_map (λ b. b) blocks) (All-head (AllAreOf kinds) block blocks all) (AllAreOf-joined blocks (All-tail (AllAreOf kinds) block blocks all))

  pub AllAreOf-permuted : (xs ys : List (List Value)) → IsPermutation xs ys → AllAreOf kinds xs → AllAreOf kinds ys
  AllAreOf-permuted xs ys moved are = all_to kinds ys (All-permutation (AreOf kinds) xs ys moved (all_from kinds xs are))
