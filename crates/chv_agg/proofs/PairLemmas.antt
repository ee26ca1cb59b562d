-- Pairs of a key and a value, those of one key as one.
use Rattle.std.proofs.Common.{◌≡◌, ℕ, zero, suc, ◌<◌, Bool, true, false, cond, if◌then◌else◌, List, [], ◌∷◌, ◌++◌, map, length, get_or, set, swap, Option, None, Some, Less, Equal, Greater, refl, sym, ap, ap₂, subst, ◌∙◌, arith, filter, flat_map, fold, pos}
use Rattle.std.proofs.lemmas.Cmp.{tied_itself}
use Rattle.std.proofs.lemmas.List.Edits.{swap_is}
use Rattle.std.proofs.lemmas.List.Elements.{All-cons, All-weaker, All-filter, All-head, All-tail}
use Rattle.std.proofs.lemmas.List.Sorted.{IsPermutation-keeps}
use Rattle.std.specs.Cmp.{IsTotalOrder, Equal-is}
use Rattle.std.specs.FinMap.{IsAntisymmetric}
use Rattle.std.specs.Int.{int_wrap}
use Rattle.std.specs.List.{All}
use Rattle.std.specs.List.Sorted.{IsPermutation}
use Rattle.std.specs.Ordering.{is_eq, ordering_reverse}
use Rattle.std.specs.declared.cmp.Ordering.{Ordering}
use Rattle.chv_agg.specs.Pairs.{IsAssociative, IsCommutative, IsStepwise, IsThrough, collapse, each_by_key, grouped_by, items_under, join_each, join_found, joint, kept, pair_keys, put_pair, recast, value_under}
use Rattle.chv_agg.specs.States.{is_signed, join, merged, signed_of, unit_of}
use Rattle.chv_agg.specs.declared.any_agg.AnyAgg.{AnyAgg}
use Rattle.chv_agg.specs.declared.any_agg.AnyAgg.TheVariants.{SumI, SumU}
use Rattle.chv_types.specs.declared.aggregate.AggName.{AggName}
use Rattle.chv_types.specs.declared.aggregate.AggName.TheVariants as agg
use Rattle.chv_types.specs.declared.kind.Scalar.{Scalar}
use Rattle.chv_types.proofs.MemberLemmas.{members-Rises}
use Rattle.chv_types.specs.Members.{by_order, put_member, members, Rises}

-- what is there where a test passes
abbrev where_so : {V : Type 0} → Bool → V → Option V
where_so so v = if so then Some v else None

module _ {V : Type 0} (join : V → V → V) (assoc : IsAssociative join) where
  pub join_found-IsAssociative : IsAssociative (join_found join)
  join_found-IsAssociative None b c = refl
  join_found-IsAssociative (Some a) None c = refl
  join_found-IsAssociative (Some a) (Some b) None = refl
  join_found-IsAssociative (Some a) (Some b) (Some c) = ap Some (assoc a b c)

  pub join_each-IsAssociative : IsAssociative (join_each join)
  join_each-IsAssociative [] bs cs = refl
  join_each-IsAssociative (a ∷ rest) [] cs = refl
  join_each-IsAssociative (a ∷ rest) (b ∷ bs) [] = refl
  join_each-IsAssociative (a ∷ rest) (b ∷ bs) (c ∷ cs) =
      ap₂ (λ (v : V) (vs : List V). v ∷ vs) (assoc a b c) (join_each-IsAssociative rest bs cs)

  -- a joined value stands for its two
  joined_or_two : (so : Bool) (u v : V) (t : Option V) → join_found join (where_so so (join u v)) t ≡ join_found join (where_so so u) (join_found join (where_so so v) t)
  joined_or_two false u v t = refl
  joined_or_two true u v None = refl
  joined_or_two true u v (Some w) = ap Some (assoc u v w)

module _ {V : Type 0} (join : V → V → V) (comm : IsCommutative join) where
  pub join_found-IsCommutative : IsCommutative (join_found join)
  join_found-IsCommutative None None = refl
  join_found-IsCommutative None (Some b) = refl
  join_found-IsCommutative (Some a) None = refl
  join_found-IsCommutative (Some a) (Some b) = ap Some (comm a b)

  pub join_each-IsCommutative : IsCommutative (join_each join)
  join_each-IsCommutative [] [] = refl
  join_each-IsCommutative [] (b ∷ bs) = refl
  join_each-IsCommutative (a ∷ rest) [] = refl
  join_each-IsCommutative (a ∷ rest) (b ∷ bs) = ap₂ (λ (v : V) (vs : List V). v ∷ vs) (comm a b) (join_each-IsCommutative rest bs)

module _ {V : Type 0} (join : V → V → V) (assoc : IsAssociative join) (comm : IsCommutative join) where
  -- two in front of a third go in either order
  join_found-exchanged : (a b c : Option V) → join_found join a (join_found join b c) ≡ join_found join b (join_found join a c)
  join_found-exchanged a b c =
      sym (join_found-IsAssociative join assoc a b c) ∙ ap (λ (t : Option V). join_found join t c) (join_found-IsCommutative join comm a b) ∙ join_found-IsAssociative join assoc b a c

-- of two of which one is not there, each may be in front
exchanged_apart : {V : Type 0} (join : V → V → V) (a b : Bool) (u v : V) (t : Option V) → (a ≡ true → b ≡ true → ⊥)
    → join_found join (where_so a u) (join_found join (where_so b v) t) ≡ join_found join (where_so b v) (join_found join (where_so a u) t)
exchanged_apart join false b u v t h = refl
exchanged_apart join true false u v t h = refl
exchanged_apart join true true u v t h = absurd (h refl refl)

module _ {K V : Type 0} (cmp : K → K → Ordering) (join : V → V → V) where
  pair_keys-put_pair : (p : K × V) (ps : List (K × V)) → pair_keys (put_pair cmp join p ps) ≡ put_member cmp p.0 (pair_keys ps)
  pair_keys-put_pair p [] = refl
  pair_keys-put_pair p (f ∷ ps) =
      elim (cmp p.0 f.0) as (λ o. pair_keys (by_order o (p ∷ (f ∷ ps)) ((f.0, join p.1 f.1) ∷ ps) (f ∷ put_pair cmp join p ps))
      ≡ by_order o (p.0 ∷ (f.0 ∷ pair_keys ps)) (f.0 ∷ pair_keys ps) (f.0 ∷ put_member cmp p.0 (pair_keys ps))) [
        | Less ↦ refl
        | Equal ↦ refl
        | Greater ↦ ap (λ (ks : List K). f.0 ∷ ks) (pair_keys-put_pair p ps)
      ]

  -- the keys of collapsed pairs are those of the pairs, each once and in order
  pub pair_keys-collapse : (ps : List (K × V)) → pair_keys (collapse cmp join ps) ≡ members cmp (pair_keys ps)
  pair_keys-collapse [] = refl
  pair_keys-collapse (p ∷ ps) = pair_keys-put_pair p (collapse cmp join ps) ∙ ap (put_member cmp p.0) (pair_keys-collapse ps)

-- a function that goes through the joinings goes through collapsing
module _ {K V W : Type 0} (cmp : K → K → Ordering) (join : V → V → V) (other : W → W → W) (f : V → W) (through : IsThrough join other f) where
  abbrev mapped : List (K × V) → List (K × W)
  mapped ps = recast (λ (k : K). k) f ps

  mapped-put_pair : (p : K × V) (ps : List (K × V)) → mapped (put_pair cmp join p ps) ≡ put_pair cmp other (p.0, f p.1) (mapped ps)
  mapped-put_pair p [] = refl
  mapped-put_pair p (q ∷ ps) =
      elim (cmp p.0 q.0) as (λ o. mapped (by_order o (p ∷ (q ∷ ps)) ((q.0, join p.1 q.1) ∷ ps) (q ∷ put_pair cmp join p ps))
      ≡ by_order o ((p.0, f p.1) ∷ ((q.0, f q.1) ∷ mapped ps)) ((q.0, other (f p.1) (f q.1)) ∷ mapped ps) ((q.0, f q.1) ∷ put_pair cmp other (p.0, f p.1) (mapped ps))) [
        | Less ↦ refl
        | Equal ↦ ap (λ (w : W). (q.0, w) ∷ mapped ps) (through p.1 q.1)
        | Greater ↦ ap (λ (qs : List (K × W)). (q.0, f q.1) ∷ qs) (mapped-put_pair p ps)
      ]

  pub recast-collapse : (ps : List (K × V)) → recast (λ (k : K). k) f (collapse cmp join ps) ≡ collapse cmp other (recast (λ (k : K). k) f ps)
  recast-collapse [] = refl
  recast-collapse (p ∷ ps) = mapped-put_pair p (collapse cmp join ps) ∙ ap (put_pair cmp other (p.0, f p.1)) (recast-collapse ps)

-- the joint values of keys
module _ {K V : Type 0} (cmp : K → K → Ordering) (join : V → V → V) (assoc : IsAssociative join) where
  pub joint-append : (key : K) (ps qs : List (K × V)) → joint cmp join key (ps ++ qs) ≡ join_found join (joint cmp join key ps) (joint cmp join key qs)
  joint-append key [] qs = refl
  joint-append key (p ∷ ps) qs =
      ap (join_found join (value_under cmp key p)) (joint-append key ps qs)
      ∙ sym (join_found-IsAssociative join assoc (value_under cmp key p) (joint cmp join key ps) (joint cmp join key qs))

  pub joint-flat_map : {A : Type 0} (key : K) (f g : A → List (K × V)) → ((a : A) → joint cmp join key (f a) ≡ joint cmp join key (g a))
      → (parts : List A) → joint cmp join key (flat_map f parts) ≡ joint cmp join key (flat_map g parts)
  joint-flat_map key f g same [] = refl
  joint-flat_map key f g same (a ∷ parts) =
      joint-append key (f a) (flat_map f parts) ∙ ap₂ (join_found join) (same a) (joint-flat_map key f g same parts)
      ∙ sym (joint-append key (g a) (flat_map g parts))

  module _ (comm : IsCommutative join) where
    -- the first pair may change places with one behind it
    joint-first : (key : K) (d p : K × V) (ps : List (K × V)) (i : ℕ) → i < length ps
        → joint cmp join key (get_or ps i d ∷ set ps i p) ≡ joint cmp join key (p ∷ ps)
    joint-first key d p [] i within = absurd (omega (arith, within))
    joint-first key d p (q ∷ ps) zero within =
        join_found-exchanged join assoc comm (value_under cmp key q) (value_under cmp key p) (joint cmp join key ps)
    joint-first key d p (q ∷ ps) (suc i) within =
        join_found-exchanged join assoc comm (value_under cmp key (get_or ps i d)) (value_under cmp key q) (joint cmp join key (set ps i p))
        ∙ ap (join_found join (value_under cmp key q)) (joint-first key d p ps i (omega (arith, within)))
        ∙ join_found-exchanged join assoc comm (value_under cmp key q) (value_under cmp key p) (joint cmp join key ps)

    joint-set : (key : K) (d : K × V) (ps : List (K × V)) (i j : ℕ) → i < length ps → j < length ps
        → joint cmp join key (set (set ps i (get_or ps j d)) j (get_or ps i d)) ≡ joint cmp join key ps
    joint-set key d [] i j low high = absurd (omega (arith, low))
    joint-set key d (p ∷ ps) zero zero low high = refl
    joint-set key d (p ∷ ps) zero (suc j) low high = joint-first key d p ps j (omega (arith, high))
    joint-set key d (p ∷ ps) (suc i) zero low high = joint-first key d p ps i (omega (arith, low))
    joint-set key d (p ∷ ps) (suc i) (suc j) low high =
        ap (join_found join (value_under cmp key p)) (joint-set key d ps i j (omega (arith, low)) (omega (arith, high)))

    joint-swap : (key : K) (ps : List (K × V)) (i j : ℕ) → i < length ps → j < length ps → joint cmp join key (swap ps i j) ≡ joint cmp join key ps
    joint-swap key [] i j low high = absurd (omega (arith, low))
    joint-swap key (p ∷ ps) i j low high =
        ap (joint cmp join key) (sym (swap_is (p ∷ ps) i j p low high)) ∙ joint-set key p (p ∷ ps) i j low high

    pub joint-permuted : (key : K) (ps qs : List (K × V)) → IsPermutation ps qs → joint cmp join key qs ≡ joint cmp join key ps
    joint-permuted key ps qs =
        IsPermutation-keeps ps (λ l. joint cmp join key l ≡ joint cmp join key ps) refl (λ l i j low high h. joint-swap key l i j low high ∙ h) qs

-- what an order says of keys that a test takes for the same
module _ {K : Type 0} (cmp : K → K → Ordering) (total : IsTotalOrder cmp) (same : IsAntisymmetric cmp) where
  same_key : (a b : K) → is_eq (cmp a b) ≡ true → a ≡ b
  same_key a b e = same a b ((Equal-is (cmp a b)).0 e)

  -- no key stands before itself
  not_itself : (a b : K) → a ≡ b → cmp a b ≡ Less → ⊥
  not_itself a b e below =
      let tied : cmp a a ≡ Equal = tied_itself total a in
      let less : cmp a a ≡ Less = subst (λ (k : K). cmp a k ≡ Less) (sym e) below in
      let apart : Less ≡ Equal = sym less ∙ tied in
      cc

  above : (a b : K) → cmp a b ≡ Greater → cmp b a ≡ Less
  above a b e = total.antisymm b a ∙ ap ordering_reverse e

  apart_keys : (a b key : K) → cmp a b ≡ Greater → is_eq (cmp b key) ≡ true → is_eq (cmp a key) ≡ true → ⊥
  apart_keys a b key e h k = not_itself b a (same_key b key h ∙ sym (same_key a key k)) (above a b e)

  not_tied : (a b : K) → cmp a b ≡ Less → is_eq (cmp b a) ≡ false
  not_tied a b below = ap is_eq (total.antisymm b a ∙ ap ordering_reverse below)

-- pairs as one list of keys and joint values
module _ {K V : Type 0} (cmp : K → K → Ordering) (join : V → V → V) (total : IsTotalOrder cmp) (same : IsAntisymmetric cmp) (assoc : IsAssociative join) where
  -- a pair that is put among others counts as one in front of them
  pub joint-put_pair : (key : K) (p : K × V) (ps : List (K × V))
      → joint cmp join key (put_pair cmp join p ps) ≡ join_found join (value_under cmp key p) (joint cmp join key ps)
  joint-put_pair key p [] = refl
  joint-put_pair key p (f ∷ ps) =
      elim (cmp p.0 f.0) as (λ o. cmp p.0 f.0 ≡ o → joint cmp join key (by_order o (p ∷ (f ∷ ps)) ((f.0, join p.1 f.1) ∷ ps) (f ∷ put_pair cmp join p ps))
      ≡ join_found join (value_under cmp key p) (join_found join (value_under cmp key f) (joint cmp join key ps))) [
        | Less ↦ λ e. refl
        | Equal ↦ λ e.
            joined_or_two join assoc (is_eq (cmp f.0 key)) p.1 f.1 (joint cmp join key ps)
            ∙ ap (λ (k : K). join_found join (where_so (is_eq (cmp k key)) p.1) (join_found join (value_under cmp key f) (joint cmp join key ps))) (sym (same p.0 f.0 e))
        | Greater ↦ λ e.
            ap (join_found join (value_under cmp key f)) (joint-put_pair key p ps)
            ∙ exchanged_apart join (is_eq (cmp f.0 key)) (is_eq (cmp p.0 key)) f.1 p.1 (joint cmp join key ps)
            (λ h k. apart_keys cmp total same p.0 f.0 key e h k)
      ] refl

  -- collapsing keeps the joint value of each key
  pub joint-collapse : (key : K) (ps : List (K × V)) → joint cmp join key (collapse cmp join ps) ≡ joint cmp join key ps
  joint-collapse key [] = refl
  joint-collapse key (p ∷ ps) = joint-put_pair key p (collapse cmp join ps) ∙ ap (join_found join (value_under cmp key p)) (joint-collapse key ps)

  pub collapse-Rises : (ps : List (K × V)) → Rises cmp (pair_keys (collapse cmp join ps))
  collapse-Rises ps = subst (Rises cmp) (sym (pair_keys-collapse cmp join ps)) (members-Rises cmp total same (pair_keys ps))

  under_none : (b : Bool) (v : V) (t : Option V) → b ≡ false → t ≡ None → join_found join (where_so b v) t ≡ None
  under_none false v t e h = h
  under_none true v t e h = cc

  under_some : (b : Bool) (v : V) (t : Option V) → b ≡ true → t ≡ None → join_found join (where_so b v) t ≡ Some v
  under_some false v t e h = cc
  under_some true v t e h = ap (join_found join (Some v)) h

  -- pairs of keys that stand behind a key have none of its values
  pub joint-behind : (key : K) (ps : List (K × V)) → All (λ k. cmp key k ≡ Less) (pair_keys ps) → joint cmp join key ps ≡ None
  joint-behind key [] h = refl
  joint-behind key (p ∷ ps) h =
      under_none (is_eq (cmp p.0 key)) p.1 (joint cmp join key ps)
      (not_tied cmp total same key p.0 (All-head (λ k. cmp key k ≡ Less) p.0 (pair_keys ps) h))
      (joint-behind key ps (All-tail (λ k. cmp key k ≡ Less) p.0 (pair_keys ps) h))

  -- of pairs whose keys rise, the first one's value is that of its key
  pub joint-itself : (p : K × V) (ps : List (K × V)) → Rises cmp (pair_keys (p ∷ ps)) → joint cmp join p.0 (p ∷ ps) ≡ Some p.1
  joint-itself p ps h =
      under_some (is_eq (cmp p.0 p.0)) p.1 (joint cmp join p.0 ps) (ap is_eq (tied_itself total p.0)) (joint-behind p.0 ps h.0)

  behind_all : (a b : K) (ks : List K) → cmp a b ≡ Less → All (λ k. cmp b k ≡ Less) ks → All (λ k. cmp a k ≡ Less) (b ∷ ks)
  behind_all a b ks below h =
      All-cons (λ k. cmp a k ≡ Less) b ks below (All-weaker (λ k. cmp b k ≡ Less) (λ k. cmp a k ≡ Less) (λ k f. total.trans a b k below f) ks h)

  -- a key in front of all others has a joint value that the others lack
  not_in_front : (p q : K × V) (ps qs : List (K × V)) → Rises cmp (pair_keys (p ∷ ps)) → Rises cmp (pair_keys (q ∷ qs))
      → joint cmp join p.0 (p ∷ ps) ≡ joint cmp join p.0 (q ∷ qs) → cmp p.0 q.0 ≡ Less → ⊥
  not_in_front p q ps qs h k alike below =
      let there : joint cmp join p.0 (p ∷ ps) ≡ Some p.1 = joint-itself p ps h in
      let absent : joint cmp join p.0 (q ∷ qs) ≡ None = joint-behind p.0 (q ∷ qs) (behind_all p.0 q.0 (pair_keys qs) below k.0) in
      let apart : ◌≡◌ {A = Option V} (Some p.1) None = sym there ∙ alike ∙ absent in
      cc

  same_first : (p q : K × V) (ps qs : List (K × V)) → Rises cmp (pair_keys (p ∷ ps)) → Rises cmp (pair_keys (q ∷ qs))
      → ((key : K) → joint cmp join key (p ∷ ps) ≡ joint cmp join key (q ∷ qs)) → p.0 ≡ q.0
  same_first p q ps qs h k alike =
      elim (cmp p.0 q.0) as (λ o. cmp p.0 q.0 ≡ o → p.0 ≡ q.0) [
        | Less ↦ λ e. absurd (not_in_front p q ps qs h k (alike p.0) e)
        | Equal ↦ λ e. same p.0 q.0 e
        | Greater ↦ λ e. absurd (not_in_front q p qs ps k h (sym (alike q.0)) (above cmp total same p.0 q.0 e))
      ] refl

  some_same : (a b : V) → Some a ≡ Some b → a ≡ b
  some_same a b e = cc

  first_value : (p q : K × V) (ps qs : List (K × V)) → Rises cmp (pair_keys (p ∷ ps)) → Rises cmp (pair_keys (q ∷ qs))
      → ((key : K) → joint cmp join key (p ∷ ps) ≡ joint cmp join key (q ∷ qs)) → p.0 ≡ q.0 → p.1 ≡ q.1
  first_value p q ps qs h k alike e =
      some_same p.1 q.1 (sym (joint-itself p ps h) ∙ alike p.0 ∙ ap (λ (key : K). joint cmp join key (q ∷ qs)) e ∙ joint-itself q qs k)

  rest_under : (b : Bool) (v w : V) (s t : Option V) → (b ≡ true → s ≡ t) → join_found join (where_so b v) s ≡ join_found join (where_so b w) t → s ≡ t
  rest_under false v w s t h e = e
  rest_under true v w s t h e = h refl

  -- the joint values of the pairs behind the first ones
  rest_alike : (p q : K × V) (ps qs : List (K × V)) → Rises cmp (pair_keys (p ∷ ps)) → Rises cmp (pair_keys (q ∷ qs)) → p.0 ≡ q.0
      → ((key : K) → joint cmp join key (p ∷ ps) ≡ joint cmp join key (q ∷ qs)) → (key : K) → joint cmp join key ps ≡ joint cmp join key qs
  rest_alike p q ps qs h k e alike key =
      rest_under (is_eq (cmp p.0 key)) p.1 q.1 (joint cmp join key ps) (joint cmp join key qs)
      (λ so.
      let at : p.0 ≡ key = same_key cmp total same p.0 key so in
      let none : joint cmp join key ps ≡ None = subst (λ (x : K). joint cmp join x ps ≡ None) at (joint-behind p.0 ps h.0) in
      let other : joint cmp join key qs ≡ None = subst (λ (x : K). joint cmp join x qs ≡ None) (sym e ∙ at) (joint-behind q.0 qs k.0) in
      none ∙ sym other)
      (alike key ∙ ap (λ (x : K). join_found join (where_so (is_eq (cmp x key)) q.1) (joint cmp join key qs)) (sym e))

  -- pairs whose keys rise are known by the joint values of keys
  pub joint-unique : (ps qs : List (K × V)) → Rises cmp (pair_keys ps) → Rises cmp (pair_keys qs)
      → ((key : K) → joint cmp join key ps ≡ joint cmp join key qs) → ps ≡ qs
  joint-unique [] [] h k alike = refl
  joint-unique [] (q ∷ qs) h k alike = let apart : ◌≡◌ {A = Option V} None (Some q.1) = alike q.0 ∙ joint-itself q qs k in cc
  joint-unique (p ∷ ps) [] h k alike = let apart : ◌≡◌ {A = Option V} (Some p.1) None = sym (joint-itself p ps h) ∙ alike p.0 in cc
  joint-unique (p ∷ ps) (q ∷ qs) h k alike =
      let e : p.0 ≡ q.0 = same_first p q ps qs h k alike in
      let first : p ≡ q = ap₂ (λ (a : K) (b : V). (a, b)) e (first_value p q ps qs h k alike e) in
      ap₂ (λ (x : K × V) (xs : List (K × V)). x ∷ xs) first (joint-unique ps qs h.1 k.1 (rest_alike p q ps qs h k e alike))

  pub collapse-unique : (ps qs : List (K × V)) → Rises cmp (pair_keys qs) → ((key : K) → joint cmp join key qs ≡ joint cmp join key ps) → qs ≡ collapse cmp join ps
  collapse-unique ps qs h alike =
      joint-unique qs (collapse cmp join ps) h (collapse-Rises ps) (λ key. alike key ∙ sym (joint-collapse key ps))

  -- collapsing goes by the joint values alone
  pub collapse-alike : (ps qs : List (K × V)) → ((key : K) → joint cmp join key ps ≡ joint cmp join key qs) → collapse cmp join ps ≡ collapse cmp join qs
  collapse-alike ps qs alike = collapse-unique qs (collapse cmp join ps) (collapse-Rises ps) (λ key. joint-collapse key ps ∙ alike key)

  pub collapse-itself : (ps : List (K × V)) → Rises cmp (pair_keys ps) → collapse cmp join ps ≡ ps
  collapse-itself ps h = sym (collapse-unique ps ps h (λ key. refl))

  pub collapse-append : (ps qs : List (K × V)) → collapse cmp join (collapse cmp join ps ++ collapse cmp join qs) ≡ collapse cmp join (ps ++ qs)
  collapse-append ps qs =
      collapse-alike (collapse cmp join ps ++ collapse cmp join qs) (ps ++ qs) (λ key.
      joint-append cmp join assoc key (collapse cmp join ps) (collapse cmp join qs)
      ∙ ap₂ (join_found join) (joint-collapse key ps) (joint-collapse key qs)
      ∙ sym (joint-append cmp join assoc key ps qs))

  pub collapse-flat_map : {A : Type 0} (f : A → List (K × V)) (parts : List A)
      → collapse cmp join (flat_map (λ part. collapse cmp join (f part)) parts) ≡ collapse cmp join (flat_map f parts)
  collapse-flat_map {A} f parts =
      collapse-alike (flat_map (λ (part : A). collapse cmp join (f part)) parts) (flat_map f parts) (λ key.
      joint-flat_map cmp join assoc key (λ (part : A). collapse cmp join (f part)) f (λ part. joint-collapse key (f part)) parts)

  pub collapse-permuted : IsCommutative join → (ps qs : List (K × V)) → IsPermutation ps qs → collapse cmp join ps ≡ collapse cmp join qs
  collapse-permuted comm ps qs moved = collapse-alike ps qs (λ key. sym (joint-permuted cmp join assoc comm key ps qs moved))

-- other keys and other values: what is joined before goes on as what is joined after
module _ {K L V W : Type 0} (fine : K → K → Ordering) (cmp : L → L → Ordering) (join : V → V → V) (other : W → W → W) (g : K → L) (f : V → W)
    (fine_same : IsAntisymmetric fine) (assoc : IsAssociative other) (comm : IsCommutative other) (through : IsThrough join other f) where
  abbrev value_at : L → K × V → Option W
  value_at key p = where_so (is_eq (cmp (g p.0) key)) (f p.1)

  abbrev joint_at : L → List (K × V) → Option W
  joint_at key ps = joint cmp other key (recast g f ps)

  joint-recast-put_pair : (key : L) (p : K × V) (ps : List (K × V)) → joint_at key (put_pair fine join p ps) ≡ join_found other (value_at key p) (joint_at key ps)
  joint-recast-put_pair key p [] = refl
  joint-recast-put_pair key p (q ∷ ps) =
      elim (fine p.0 q.0) as (λ o. fine p.0 q.0 ≡ o → joint_at key (by_order o (p ∷ (q ∷ ps)) ((q.0, join p.1 q.1) ∷ ps) (q ∷ put_pair fine join p ps))
      ≡ join_found other (value_at key p) (join_found other (value_at key q) (joint_at key ps))) [
        | Less ↦ λ e. refl
        | Equal ↦ λ e.
            ap (λ (w : W). join_found other (where_so (is_eq (cmp (g q.0) key)) w) (joint_at key ps)) (through p.1 q.1)
            ∙ joined_or_two other assoc (is_eq (cmp (g q.0) key)) (f p.1) (f q.1) (joint_at key ps)
            ∙ ap (λ (k : K). join_found other (where_so (is_eq (cmp (g k) key)) (f p.1)) (join_found other (value_at key q) (joint_at key ps))) (sym (fine_same p.0 q.0 e))
        | Greater ↦ λ e.
            ap (join_found other (value_at key q)) (joint-recast-put_pair key p ps)
            ∙ join_found-exchanged other assoc comm (value_at key q) (value_at key p) (joint_at key ps)
      ] refl

  pub joint-recast-collapse : (key : L) (ps : List (K × V)) → joint cmp other key (recast g f (collapse fine join ps)) ≡ joint cmp other key (recast g f ps)
  joint-recast-collapse key [] = refl
  joint-recast-collapse key (p ∷ ps) = joint-recast-put_pair key p (collapse fine join ps) ∙ ap (join_found other (value_at key p)) (joint-recast-collapse key ps)

  pub collapse-recast : IsTotalOrder cmp → IsAntisymmetric cmp → (ps : List (K × V))
      → collapse cmp other (recast g f (collapse fine join ps)) ≡ collapse cmp other (recast g f ps)
  collapse-recast total same ps =
      collapse-alike cmp other total same assoc (recast g f (collapse fine join ps)) (recast g f ps) (λ key. joint-recast-collapse key ps)

-- what a test of items keeps still rises
Rises-filter : {K : Type 0} (cmp : K → K → Ordering) (keep : K → Bool) (ks : List K) → Rises cmp ks → Rises cmp (filter keep ks)
Rises-filter cmp keep [] h = tt
Rises-filter cmp keep (k ∷ ks) h =
    elim (keep k) as (λ b. Rises cmp (cond b (k ∷ filter keep ks) (filter keep ks))) [
      | true ↦ (All-filter keep (λ x. cmp k x ≡ Less) ks h.0, Rises-filter cmp keep ks h.1)
      | false ↦ Rises-filter cmp keep ks h.1
    ]

-- pairs whose keys pass a test
module _ {K V : Type 0} (cmp : K → K → Ordering) (join : V → V → V) (total : IsTotalOrder cmp) (same : IsAntisymmetric cmp) (keep : K → Bool) where
  pair_keys-kept : (ps : List (K × V)) → pair_keys (kept keep ps) ≡ filter keep (pair_keys ps)
  pair_keys-kept [] = refl
  pair_keys-kept (p ∷ ps) =
      elim (keep p.0) as (λ b. pair_keys (cond b (p ∷ kept keep ps) (kept keep ps)) ≡ cond b (p.0 ∷ filter keep (pair_keys ps)) (filter keep (pair_keys ps))) [
        | true ↦ ap (λ (ks : List K). p.0 ∷ ks) (pair_keys-kept ps)
        | false ↦ pair_keys-kept ps
      ]

  -- what a pair in front adds, where its key passes the test or not, as the key asked for does where they are the same
  kept_or_not : (b c so : Bool) (v : V) (t r : Option V) → (so ≡ true → b ≡ c) → r ≡ cond c t None
      → cond b (join_found join (where_so so v) r) r ≡ cond c (join_found join (where_so so v) t) None
  kept_or_not true true so v t r h e = ap (join_found join (where_so so v)) e
  kept_or_not true false true v t r h e = let apart : true ≡ false = h refl in cc
  kept_or_not true false false v t r h e = e
  kept_or_not false true true v t r h e = let apart : false ≡ true = h refl in cc
  kept_or_not false true false v t r h e = e
  kept_or_not false false so v t r h e = e

  pub joint-kept : (key : K) (ps : List (K × V)) → joint cmp join key (kept keep ps) ≡ cond (keep key) (joint cmp join key ps) None
  joint-kept key [] = elim (keep key) as (λ b. ◌≡◌ {A = Option V} None (cond b None None)) [ true ↦ refl | false ↦ refl ]
  joint-kept key (p ∷ ps) =
      elim (keep p.0) as (λ b. joint cmp join key (cond b (p ∷ kept keep ps) (kept keep ps))
      ≡ cond b (join_found join (value_under cmp key p) (joint cmp join key (kept keep ps))) (joint cmp join key (kept keep ps))) [ true ↦ refl | false ↦ refl ]
      ∙ kept_or_not (keep p.0) (keep key) (is_eq (cmp p.0 key)) p.1 (joint cmp join key ps) (joint cmp join key (kept keep ps))
      (λ so. ap keep (same_key cmp total same p.0 key so)) (joint-kept key ps)

  pub kept-collapse : IsAssociative join → (ps : List (K × V)) → kept keep (collapse cmp join ps) ≡ collapse cmp join (kept keep ps)
  kept-collapse assoc ps =
      collapse-unique cmp join total same assoc (kept keep ps) (kept keep (collapse cmp join ps))
      (subst (Rises cmp) (sym (pair_keys-kept (collapse cmp join ps))) (Rises-filter cmp keep (pair_keys (collapse cmp join ps)) (collapse-Rises cmp join total same assoc ps)))
      (λ key. joint-kept key (collapse cmp join ps) ∙ ap (λ (t : Option V). cond (keep key) t None) (joint-collapse cmp join total same assoc key ps) ∙ sym (joint-kept key ps))

-- what a function gives of a list that is not empty
abbrev some_first : {A W : Type 0} → (List A → W) → List A → Option W
some_first f [] = None
some_first f (item ∷ items) = Some (f (item ∷ items))

some_given : {A W : Type 0} (f : List A → W) (w : W) (items : List A) → some_first f items ≡ Some w → w ≡ f items
some_given f w [] e = cc
some_given f w (item ∷ items) e = cc

-- pairs whose keys rise, of which each value is given by its key
module _ {K W : Type 0} (cmp : K → K → Ordering) (join : W → W → W) (total : IsTotalOrder cmp) (same : IsAntisymmetric cmp) (assoc : IsAssociative join) (given : K → W) where
  none_or_some : (b : Bool) (v : W) (t : Option W) (w : W) → (b ≡ true → t ≡ None) → t ≡ Some w → join_found join (where_so b v) t ≡ Some w
  none_or_some false v t w h e = e
  none_or_some true v t w h e = let apart : ◌≡◌ {A = Option W} None (Some w) = sym (h refl) ∙ e in cc

  pairs_given : (rs : List (K × W)) → Rises cmp (pair_keys rs) → ((key : K) (w : W) → joint cmp join key rs ≡ Some w → w ≡ given key)
      → rs ≡ map (λ key. (key, given key)) (pair_keys rs)
  pairs_given [] h each = refl
  pairs_given (r ∷ rs) h each =
      ap₂ (λ (w : W) (more : List (K × W)). (r.0, w) ∷ more) (each r.0 r.1 (joint-itself cmp join total same assoc r rs h))
      (pairs_given rs h.1 (λ key w e. each key w
      (none_or_some (is_eq (cmp r.0 key)) r.1 (joint cmp join key rs) w
      (λ so. subst (λ (x : K). joint cmp join x rs ≡ None) (same_key cmp total same r.0 key so) (joint-behind cmp join total same assoc r.0 rs h.0)) e)))

-- items by their keys
module _ {A K W : Type 0} (cmp : K → K → Ordering) (join : W → W → W) (key : A → K) (f : List A → W) (stepwise : IsStepwise join f) where
  one_or_more : (b : Bool) (item : A) (items : List A) → join_found join (where_so b (f (item ∷ []))) (some_first f items) ≡ some_first f (cond b (item ∷ items) items)
  one_or_more false item items = refl
  one_or_more true item [] = refl
  one_or_more true item (next ∷ items) = ap Some (sym (stepwise item next items))

  joint-each_by_key : (k : K) (items : List A) → joint cmp join k (each_by_key key f items) ≡ some_first f (items_under cmp key k items)
  joint-each_by_key k [] = refl
  joint-each_by_key k (item ∷ items) =
      ap (join_found join (where_so (is_eq (cmp (key item) k)) (f (item ∷ [])))) (joint-each_by_key k items)
      ∙ one_or_more (is_eq (cmp (key item) k)) item (items_under cmp key k items)

  pair_keys-each_by_key : (items : List A) → pair_keys (each_by_key key f items) ≡ map key items
  pair_keys-each_by_key [] = refl
  pair_keys-each_by_key (item ∷ items) = ap (λ (ks : List K). key item ∷ ks) (pair_keys-each_by_key items)

  -- items that are grouped are their results one by one, collapsed
  pub collapse-each_by_key : IsTotalOrder cmp → IsAntisymmetric cmp → IsAssociative join
      → (items : List A) → collapse cmp join (each_by_key key f items) ≡ grouped_by cmp key f items
  collapse-each_by_key total same assoc items =
      pairs_given cmp join total same assoc (λ k. f (items_under cmp key k items)) (collapse cmp join (each_by_key key f items))
      (collapse-Rises cmp join total same assoc (each_by_key key f items))
      (λ k w e. some_given f w (items_under cmp key k items)
      (sym (joint-each_by_key k items) ∙ sym (joint-collapse cmp join total same assoc k (each_by_key key f items)) ∙ e))
      ∙ ap (λ (ks : List K). map (λ k. (k, f (items_under cmp key k items))) ks)
      (pair_keys-collapse cmp join (each_by_key key f items) ∙ ap (members cmp) (pair_keys-each_by_key items))

-- what is stepwise
module _ {A W : Type 0} (join : W → W → W) (unit : W) (g : A → W) (assoc : IsAssociative join) (comm : IsCommutative join) (alone : join unit unit ≡ unit) where
  fold-behind : (a b : W) (items : List A) → fold join (join a b) (map g items) ≡ join a (fold join b (map g items))
  fold-behind a b [] = refl
  fold-behind a b (item ∷ items) = ap (λ (w : W). fold join w (map g items)) (assoc a b (g item)) ∙ fold-behind a (join b (g item)) items

  -- a unit in front of both is one in front
  one_unit : (a b : W) → join (join unit a) (join unit b) ≡ join (join unit a) b
  one_unit a b =
      sym (assoc (join unit a) unit b)
      ∙ ap (λ (w : W). join w b) (assoc unit a unit ∙ ap (join unit) (comm a unit) ∙ sym (assoc unit unit a) ∙ ap (λ (w : W). join w a) alone)

  -- joining one after the other, behind a unit that joins with itself to itself
  pub fold-IsStepwise : IsStepwise join (λ (items : List A). fold join unit (map g items))
  fold-IsStepwise item next items =
      ap (λ (w : W). fold join w (map g items)) (sym (one_unit (g item) (g next))) ∙ fold-behind (join unit (g item)) (join unit (g next)) items

-- several stepwise results, place by place
pub map-IsStepwise : {A C W : Type 0} (join : W → W → W) (f : C → List A → W) → ((c : C) → IsStepwise join (f c))
    → (cs : List C) → IsStepwise (join_each join) (λ (items : List A). map (λ c. f c items) cs)
map-IsStepwise join f stepwise [] item next items = refl
map-IsStepwise {W = W} join f stepwise (c ∷ cs) item next items =
    ap₂ (λ (w : W) (ws : List W). w ∷ ws) (stepwise c item next items) (map-IsStepwise join f stepwise cs item next items)

zero_signed : signed_of (pos 0) ≡ pos 0
unfolding int_wrap
zero_signed = refl

-- the state of no values joined with itself is itself
unit_alone : (agg : AggName) (arg : Scalar) → join (unit_of agg arg) (unit_of agg arg) ≡ unit_of agg arg
unfolding join
unit_alone agg.Count arg = refl
unit_alone agg.Sum arg =
    elim (is_signed arg) as (λ b. join (if b then SumI (pos 0) else SumU 0) (if b then SumI (pos 0) else SumU 0) ≡ (if b then SumI (pos 0) else SumU 0)) [
      | true ↦ ap SumI zero_signed
      | false ↦ refl
    ]
unit_alone agg.Min arg = refl
unit_alone agg.Max arg = refl
unit_alone agg.UniqExact arg = refl

-- the state of arguments, whatever state each of them has
pub merged-IsStepwise : {A : Type 0} (agg : AggName) (arg : Scalar) (g : A → AnyAgg) → IsAssociative join → IsCommutative join
    → IsStepwise join (λ (items : List A). merged (unit_of agg arg) (map g items))
merged-IsStepwise agg arg g assoc comm = fold-IsStepwise join (unit_of agg arg) g assoc comm (unit_alone agg arg)
