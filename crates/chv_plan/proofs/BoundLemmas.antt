-- Views that are bound, by their numbers, and those to which paths lead.
use Rattle.std.proofs.Common.{◌≡◌, ◌∙◌, ◌<◌, ◌+◌, ◌≢◌, ℕ, zero, suc, true, List, [], ◌∷◌, length, get_or, map, set, take, Option, None, Some, is_some, slice_get, inl, inr, refl, sym, ap, subst, arith}
use Rattle.std.specs.List.{All}
use Rattle.std.proofs.lemmas.Bool.{cases_eq}
use Rattle.std.proofs.lemmas.List.{length-map, length-set}
use Rattle.std.proofs.lemmas.List.Elements.{All-cons, All-get_or, All-head, All-more, All-nil, All-tail, All-weaker}
use Rattle.std.proofs.lemmas.Option.{slice_get-get_or, slice_get_within}
use Rattle.chv_catalog.proofs.PathLemmas.{paths_from-are}
use Rattle.chv_catalog.specs.Paths.{MAX_PATH, link_of, links_of, paths_from, paths_within, target_of}
use Rattle.chv_catalog.specs.Schemas.{Catalog}
use Rattle.chv_catalog.specs.Walks.{IsPathWithin}
use Rattle.chv_catalog.specs.declared.link.Link.{Link}
use Rattle.chv_catalog.specs.declared.view_def.ViewDef.{ViewDef}
use Rattle.chv_query.proofs.GrowthLemmas.{All-at}
use Rattle.chv_plan.specs.Below.{paths_through}
use Rattle.chv_plan.specs.Bound.{AreBound, AreThere, BindsMore, IsBound, IsThere}
use Rattle.chv_plan.specs.declared.views.BoundView.{BoundView}

-- what stands at a place where another item is put there, or elsewhere
slice_get-set_same : {A : Type 0} (xs : List A) (i : ℕ) (x : A) → i < length xs → slice_get (set xs i x) i ≡ Some x
slice_get-set_same {A} [] i x within = absurd (omega arith)
slice_get-set_same {A} (y ∷ xs) zero x within = refl
slice_get-set_same {A} (y ∷ xs) (suc i) x within = slice_get-set_same xs i x (omega arith)

slice_get-set_other : {A : Type 0} (xs : List A) (i j : ℕ) (x : A) → j ≢ i → slice_get (set xs i x) j ≡ slice_get xs j
slice_get-set_other {A} [] i j x other = refl
slice_get-set_other {A} (y ∷ xs) zero zero x other = absurd (other refl)
slice_get-set_other {A} (y ∷ xs) zero (suc j) x other = refl
slice_get-set_other {A} (y ∷ xs) (suc i) zero x other = refl
slice_get-set_other {A} (y ∷ xs) (suc i) (suc j) x other = slice_get-set_other xs i j x (λ same. other (ap suc same))

-- the place of a view that is bound
pub there_within : (bound : List (Option BoundView)) (view : ℕ) → IsThere bound view → view < length bound
there_within bound view there = slice_get_within bound view (Some there.0) there.1

-- what stands there is some view
pub already_there : (bound : List (Option BoundView)) (view : ℕ) (other : Option BoundView) → view < length bound → is_some (get_or bound view other) ≡ true → IsThere bound view
already_there bound view other within some = by (get_or bound view other) refl some
  where
    by : (at : Option BoundView) → get_or bound view other ≡ at → is_some at ≡ true → IsThere bound view
    by None e some = absurd (cc some)
    by (Some one) e some = (one, slice_get-get_or bound view other within ∙ ap (λ (at : Option BoundView). Some at) e)

module _ (catalog : Catalog) where
  -- no view is bound yet
  pub none_bound : (bound : List (Option BoundView)) → length bound ≡ length catalog.views → All (λ view. view ≡ None) bound → AreBound catalog bound
  none_bound bound places none = record {
    places = places;
    are = λ view def one at there. absurd (cc (All-at (λ (b : Option BoundView). b ≡ None) bound view (Some one) none there));
  }

  -- the same are bound
  pub BindsMore-same : (bound : List (Option BoundView)) → AreBound catalog bound → BindsMore catalog bound bound
  BindsMore-same bound are = record { bound = are; kept = λ view there. there }

  pub BindsMore-then : (old mid new : List (Option BoundView)) → BindsMore catalog old mid → BindsMore catalog mid new → BindsMore catalog old new
  BindsMore-then old mid new first second = record { bound = second.bound; kept = λ view there. second.kept view (first.kept view there) }

  module _ (bound new : List (Option BoundView)) (view : ℕ) (one : BoundView) (within : view < length bound) (is : new ≡ set bound view (Some one)) where
    -- one more is bound
    stands : slice_get new view ≡ Some (Some one)
    stands = ap (λ (b : List (Option BoundView)). slice_get b view) is ∙ slice_get-set_same bound view (Some one) within

    pub bound_there : IsThere new view
    bound_there = (one, stands)

    stays : (other : ℕ) → other ≢ view → slice_get new other ≡ slice_get bound other
    stays other differs = ap (λ (b : List (Option BoundView)). slice_get b other) is ∙ slice_get-set_other bound view other (Some one) differs

    one_item : (a b : BoundView) → ◌≡◌ {A = Option (Option BoundView)} (Some (Some a)) (Some (Some b)) → a ≡ b
    one_item a b same = cc

    pub BindsMore-one : AreBound catalog bound → ((def : ViewDef) → slice_get catalog.views view ≡ Some def → IsBound catalog def one) → BindsMore catalog bound new
    BindsMore-one old binds = record {
      bound = record {
        places = ap length is ∙ length-set bound view (Some one) ∙ old.places;
        are = λ other def found at there.
            elim (cases_eq other view) as (λ _. IsBound catalog def found) [
              | inl same ↦
                  let it : one ≡ found = one_item one found (sym stands ∙ ap (λ (v : ℕ). slice_get new v) (sym same) ∙ there) in
                  subst (IsBound catalog def) it (binds def (ap (λ (v : ℕ). slice_get catalog.views v) (sym same) ∙ at))
              | inr differs ↦ old.are other def found at (sym (stays other differs) ∙ there)
            ];
      };
      kept = λ other there.
          elim (cases_eq other view) as (λ _. IsThere new other) [
            | inl same ↦ subst (IsThere new) (sym same) bound_there
            | inr differs ↦ (there.0, stays other differs ∙ there.1)
          ];
    }

-- what holds along paths by way of a view holds along those behind it
all_behind : (P : ℕ → Type 0) (view : ℕ) (paths : List (List ℕ)) → All (All P) (map (λ (path : List ℕ). view ∷ path) paths) → All (All P) paths
all_behind P view [] all = All-nil (All P)
all_behind P view (path ∷ paths) all =
    All-cons (All P) path paths (All-tail P view path (All-head (All P) (view ∷ path) (map (λ (path : List ℕ). view ∷ path) paths) all))
    (all_behind P view paths (All-tail (All P) (view ∷ path) (map (λ (path : List ℕ). view ∷ path) paths) all))

module _ (bound : List (Option BoundView)) (links : List Link) where
  -- of the paths that begin with a view, the first is that view alone
  pub there_first : (room view : ℕ) → AreThere bound (paths_through room links view) → IsThere bound view
  there_first room view all = All-head (IsThere bound) view [] (All-head (All (IsThere bound)) (view ∷ []) (map (λ (path : List ℕ). view ∷ path) (paths_within room links (target_of links view))) all)

  -- and the others go on from its target
  pub there_behind : (room view target : ℕ) → target_of links view ≡ target → AreThere bound (paths_through room links view) → AreThere bound (paths_within room links target)
  there_behind room view target fills all =
      subst (λ (t : ℕ). AreThere bound (paths_within room links t)) fills
      (all_behind (IsThere bound) view (paths_within room links (target_of links view))
      (All-tail (All (IsThere bound)) (view ∷ []) (map (λ (path : List ℕ). view ∷ path) (paths_within room links (target_of links view))) all))

  -- all paths are those of so many views at most
  pub there_from : (table : ℕ) → AreThere bound (paths_from links table) → AreThere bound (paths_within MAX_PATH links table)
  unfolding paths_from
  there_from table all = all

-- the views on a path from a table are those of the catalog
pub path_there : (catalog : Catalog) (table : ℕ) (paths : List (List ℕ)) (i : ℕ) (path other : List ℕ) → paths ≡ paths_from (links_of catalog.views) table → i < length paths → path ≡ get_or paths i other
    → All (λ view. view < length catalog.views) path
path_there catalog table paths i path other are within is =
    let links = links_of catalog.views in
    let P = IsPathWithin MAX_PATH links table in
    let one : P (get_or paths i other) = All-get_or P paths i other within (subst (All P) (sym are) (paths_from-are links table)) in
    subst (All (λ (view : ℕ). view < length catalog.views)) (sym is)
    (All-weaker (λ (view : ℕ). view < length links) (λ (view : ℕ). view < length catalog.views) (λ view before. omega (arith, before, length-map catalog.views link_of)) (get_or paths i other) one.there)

-- the views on one path more are bound
pub AreThere-more : (catalog : Catalog) (old new : List (Option BoundView)) (paths : List (List ℕ)) (i : ℕ) (path other : List ℕ) → BindsMore catalog old new → AreThere old (take i paths) → i < length paths
    → path ≡ get_or paths i other → All (IsThere new) path → AreThere new (take (i + 1) paths)
AreThere-more catalog old new paths i path other more there within is all =
    All-more (All (IsThere new)) paths i other within
    (All-weaker (All (IsThere old)) (All (IsThere new)) (λ p. All-weaker (IsThere old) (IsThere new) more.kept p) (take i paths) there)
    (subst (All (IsThere new)) is all)

-- one view more on a path is bound
pub there-more : (catalog : Catalog) (old new : List (Option BoundView)) (path : List ℕ) (i other : ℕ) → BindsMore catalog old new → All (IsThere old) (take i path) → i < length path → IsThere new (get_or path i other)
    → All (IsThere new) (take (i + 1) path)
there-more catalog old new path i other more there within one =
    All-more (IsThere new) path i other within (All-weaker (IsThere old) (IsThere new) more.kept (take i path) there) one
