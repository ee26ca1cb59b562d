-- What is made of rows and joined by a key goes by the rows that are merged by a finer key.
use Rattle.std.proofs.Common.{◌≡◌, List, [], ◌∷◌, ◌++◌, map, Option, None, Some, Less, Equal, Greater, refl, sym, ap, ◌∙◌, flat_map}
use Rattle.std.proofs.lemmas.Grind.{flat_map-append}
use Rattle.std.proofs.lemmas.List.Sorted.{IsPermutation-map}
use Rattle.std.specs.FinMap.{IsAntisymmetric}
use Rattle.std.specs.List.Sorted.{IsPermutation}
use Rattle.std.specs.Option.{unwrap_or}
use Rattle.std.specs.declared.cmp.Ordering.{Ordering}
use Rattle.chv_agg.proofs.PairLemmas.{join_found-IsAssociative, join_found-IsCommutative, joint-append, joint-permuted}
use Rattle.chv_agg.specs.Pairs.{IsAssociative, IsCommutative, collapse, join_found, joint, put_pair}
use Rattle.chv_types.specs.Members.{by_order}

-- of two in front of a third either may be in front
exchanged : {W : Type 0} (join : W → W → W) → IsAssociative join → IsCommutative join → (a b c : Option W)
    → join_found join a (join_found join b c) ≡ join_found join b (join_found join a c)
exchanged {W} join assoc comm a b c =
    sym (join_found-IsAssociative join assoc a b c) ∙ ap (λ (t : Option W). join_found join t c) (join_found-IsCommutative join comm a b) ∙ join_found-IsAssociative join assoc b a c

found_alone : {W : Type 0} (join : W → W → W) (a : Option W) → join_found join a None ≡ a
found_alone join None = refl
found_alone join (Some w) = refl

-- pairs that are made of rows, by the joint values of their keys
module _ {L V W : Type 0} (cmp : L → L → Ordering) (other : W → W → W) (assoc : IsAssociative other) (made : V → List (L × W)) (key : L) where
  -- the joint value of a key over rows
  abbrev pub over : List V → Option W
  over rows = joint cmp other key (flat_map made rows)

  abbrev pub alone : V → Option W
  alone row = joint cmp other key (made row)

  pub over-cons : (row : V) (rows : List V) → over (row ∷ rows) ≡ join_found other (alone row) (over rows)
  over-cons row rows = joint-append cmp other assoc key (made row) (flat_map made rows)

  pub over-append : (a b : List V) → over (a ++ b) ≡ join_found other (over a) (over b)
  over-append a b =
      ap (joint cmp other key) (flat_map-append made a b) ∙ joint-append cmp other assoc key (flat_map made a) (flat_map made b)

  -- rows as pairs of one key, whose values are joined in any order
  abbrev all_one : Unit {0} → Unit {0} → Ordering
  all_one a b = Equal

  abbrev each : List V → List (Unit {0} × Option W)
  each rows = map (λ row. (tt, alone row)) rows

  one_more : (a : Option W) (found : Option (Option W)) → unwrap_or (join_found (join_found other) (Some a) found) None ≡ join_found other a (unwrap_or found None)
  one_more a None = sym (found_alone other a)
  one_more a (Some b) = refl

  each-over : (rows : List V) → unwrap_or (joint all_one (join_found other) tt (each rows)) None ≡ over rows
  each-over [] = refl
  each-over (row ∷ rows) =
      one_more (alone row) (joint all_one (join_found other) tt (each rows)) ∙ ap (join_found other (alone row)) (each-over rows) ∙ sym (over-cons row rows)

  -- the order of rows tells nothing
  pub over-permuted : IsCommutative other → (a b : List V) → IsPermutation a b → over a ≡ over b
  over-permuted comm a b moved =
      sym (each-over a)
      ∙ ap (λ (found : Option (Option W)). unwrap_or found None)
      (sym (joint-permuted all_one (join_found other) (join_found-IsAssociative other assoc) (join_found-IsCommutative other comm) tt (each a) (each b)
      (IsPermutation-map (λ row. (tt, alone row)) a b moved)))
      ∙ each-over b

-- rows that are merged by a finer key give the joint value of each alone, where two of one key merged give that of both
module _ {K L V W : Type 0} (fine : K → K → Ordering) (cmp : L → L → Ordering) (join : V → V → V) (other : W → W → W) (made : V → List (L × W)) (key : L)
    (fine_same : IsAntisymmetric fine) (assoc : IsAssociative other) (comm : IsCommutative other) (Is : K × V → Type 0)
    (merge : (p q : K × V) → Is p → Is q → p.0 ≡ q.0
    → Is (q.0, join p.1 q.1) × (alone cmp other assoc made key (join p.1 q.1) ≡ join_found other (alone cmp other assoc made key p.1) (alone cmp other assoc made key q.1))) where
  abbrev pub AllAre : List (K × V) → Type 0
  AllAre [] = Unit {0}
  AllAre (pair ∷ pairs) = Is pair × AllAre pairs

  abbrev one : K × V → Option W
  one pair = alone cmp other assoc made key pair.1

  abbrev pub behind : List (K × V) → Option W
  behind pairs = over cmp other assoc made key (map (λ pair. pair.1) pairs)

  behind-cons : (pair : K × V) (pairs : List (K × V)) → behind (pair ∷ pairs) ≡ join_found other (one pair) (behind pairs)
  behind-cons pair pairs = over-cons cmp other assoc made key pair.1 (map (λ pair. pair.1) pairs)

  -- a row that is put among others counts as one in front of them
  put_pair-behind : (p : K × V) (ps : List (K × V)) → Is p → AllAre ps → AllAre (put_pair fine join p ps) × (behind (put_pair fine join p ps) ≡ join_found other (one p) (behind ps))
  put_pair-behind p [] is are = ((is, tt), behind-cons p [])
  put_pair-behind p (q ∷ ps) is are =
      elim (fine p.0 q.0) as (λ o. fine p.0 q.0 ≡ o → AllAre (by_order o (p ∷ (q ∷ ps)) ((q.0, join p.1 q.1) ∷ ps) (q ∷ put_pair fine join p ps))
      × (behind (by_order o (p ∷ (q ∷ ps)) ((q.0, join p.1 q.1) ∷ ps) (q ∷ put_pair fine join p ps)) ≡ join_found other (one p) (behind (q ∷ ps)))) [
        | Less ↦ λ e. ((is, are), behind-cons p (q ∷ ps))
        | Equal ↦ λ e.
            let both = merge p q is are.0 (fine_same p.0 q.0 e) in (
              (both.0, are.1),
              behind-cons (q.0, join p.1 q.1) ps
                  ∙ ap (λ (found : Option W). join_found other found (behind ps)) both.1
                  ∙ join_found-IsAssociative other assoc (one p) (one q) (behind ps)
                  ∙ ap (join_found other (one p)) (sym (behind-cons q ps)),
            )
        | Greater ↦ λ e.
            let rest = put_pair-behind p ps is are.1 in (
              (are.0, rest.0),
              behind-cons q (put_pair fine join p ps)
                  ∙ ap (join_found other (one q)) rest.1
                  ∙ exchanged other assoc comm (one q) (one p) (behind ps)
                  ∙ ap (join_found other (one p)) (sym (behind-cons q ps)),
            )
      ] refl

  -- rows of each finer key as one give the same joint value
  pub collapse-behind : (ps : List (K × V)) → AllAre ps → AllAre (collapse fine join ps) × (behind (collapse fine join ps) ≡ behind ps)
  collapse-behind [] are = (tt, refl)
  collapse-behind (p ∷ ps) are =
      let rest = collapse-behind ps are.1 in
      let put = put_pair-behind p (collapse fine join ps) are.0 rest.0 in
      (put.0, put.1 ∙ ap (join_found other (one p)) rest.1 ∙ sym (behind-cons p ps))
