-- Paths of a schema, and of one with more views.
use Rattle.std.proofs.Common.{◌≡◌, ◌∙◌, ◌<◌, ◌+◌, ℕ, suc, zero, Bool, true, false, nat_eq, List, [], ◌∷◌, ◌++◌, length, map, slice_get, Some, refl, ap, subst, arith, eqb-true, All, if◌then◌else◌}
use Rattle.std.proofs.lemmas.List.Elements.{All-nil, All-cons, All-tail, All-append, All-map, All-weaker}
use Rattle.std.proofs.lemmas.Option.{slice_get_within}
use Rattle.chv_catalog.specs.Paths.{IsPath, MAX_PATH, end_of, paths_from, paths_within, readers, readers_from, target_of}
use Rattle.chv_catalog.specs.Walks.{IsPathWithin, paths_by}
use Rattle.chv_catalog.specs.declared.link.Link.{Link}

-- a link keeps its number where more follow
pub slice_get-append : (links more : List Link) (view : ℕ) → view < length links → slice_get (links ++ more) view ≡ slice_get links view
slice_get-append [] more view h = absurd (omega arith)
slice_get-append (link ∷ links) more zero h = refl
slice_get-append (link ∷ links) more (suc view) h = slice_get-append links more view (omega arith)

-- a view fills the same table where more views follow
pub target_of-append : (links more : List Link) (view : ℕ) → view < length links → target_of (links ++ more) view ≡ target_of links view
target_of-append links more view h = rw (slice_get-append links more view h) refl

-- a path ends at the same table where more views follow
pub end_of-append : (links more : List Link) (table : ℕ) (path : List ℕ) → All (λ view. view < length links) path → end_of (links ++ more) table path ≡ end_of links table path
end_of-append links more table [] there = refl
end_of-append links more table (view ∷ path) there =
    ap (λ (target : ℕ). end_of (links ++ more) target path) (target_of-append links more view (there 0 view (omega arith)))
    ∙ end_of-append links more (target_of links view) path (All-tail (λ view. view < length links) view path there)

-- a path stays one where more views follow
pub IsPath-append : (links more : List Link) (table : ℕ) (path : List ℕ) → IsPath links table path → IsPath (links ++ more) table path
IsPath-append links more table [] path = tt
IsPath-append links more table (view ∷ path) (link, at, reads, behind) =
    (link, slice_get-append links more view (slice_get_within links view link at) ∙ at, reads, IsPath-append links more link.target path behind)

-- a view that reads a table
abbrev Reads : List Link → ℕ → ℕ → Type 0
Reads links table view = (link : Link) × (slice_get links view ≡ Some link) × (link.source ≡ table)

-- the readers of a table read it
readers_from-read : (links : List Link) (table view : ℕ) (rest : List Link) → ((k : ℕ) → slice_get links (view + k) ≡ slice_get rest k) → All (Reads links table) (readers_from view rest table)
readers_from-read links table view [] same = All-nil (Reads links table)
readers_from-read links table view (link ∷ rest) same =
    by (nat_eq link.source table) refl
    (readers_from-read links table (view + 1) rest (λ k. let next : view + 1 + k ≡ view + suc k = omega arith in ap (slice_get links) next ∙ same (suc k)))
  where
    by : (b : Bool) → nat_eq link.source table ≡ b → All (Reads links table) (readers_from (view + 1) rest table)
        → All (Reads links table) (if b then view ∷ readers_from (view + 1) rest table else readers_from (view + 1) rest table)
    by true e behind =
        let this : view ≡ view + 0 = omega arith in
        All-cons (Reads links table) view (readers_from (view + 1) rest table) (link, ap (slice_get links) this ∙ same 0, eqb-true link.source table e) behind
    by false e behind = behind

module _ (links : List Link) where
  -- a view that reads a table in front of a path from the table that it fills
  front : (room table view : ℕ) → Reads links table view → (path : List ℕ) → IsPathWithin room links (target_of links view) path → IsPathWithin (suc room) links table (view ∷ path)
  front room table view (link, at, reads) path is =
      let fills : target_of links view ≡ link.target = rw at refl in
      record {
        is_path = (link, at, reads, subst (λ (table : ℕ). IsPath links table path) fills is.is_path);
        some = omega arith;
        few = omega (arith, is.few);
        there = All-cons (λ view. view < length links) view path (slice_get_within links view link at) is.there;
      }

  -- a view that reads a table is a path from it
  alone : (room table view : ℕ) → Reads links table view → IsPathWithin (suc room) links table (view ∷ [])
  alone room table view (link, at, reads) = record {
    is_path = (link, at, reads, tt);
    some = omega arith;
    few = omega arith;
    there = All-cons (λ view. view < length links) view [] (slice_get_within links view link at) (All-nil (λ view. view < length links));
  }

  by_each : (room table : ℕ) → ((target : ℕ) → All (IsPathWithin room links target) (paths_within room links target)) → (views : List ℕ) → All (Reads links table) views
      → All (IsPathWithin (suc room) links table) (paths_by room links views)
  by_each room table shorter [] reads = All-nil (IsPathWithin (suc room) links table)
  by_each room table shorter (view ∷ views) reads =
      let first = reads 0 view (omega arith) in
      let behind = paths_within room links (target_of links view) in
      All-append (IsPathWithin (suc room) links table) ((view ∷ []) ∷ map (λ path. view ∷ path) behind) (paths_by room links views)
      (All-cons (IsPathWithin (suc room) links table) (view ∷ []) (map (λ path. view ∷ path) behind) (alone room table view first)
      (All-map (IsPathWithin (suc room) links table) (λ path. view ∷ path) behind
      (All-weaker (IsPathWithin room links (target_of links view)) (λ path. IsPathWithin (suc room) links table (view ∷ path)) (front room table view first) behind (shorter (target_of links view)))))
      (by_each room table shorter views (All-tail (Reads links table) view views reads))

  -- the paths of so many views at most are such paths
  pub paths_within-are : (room table : ℕ) → All (IsPathWithin room links table) (paths_within room links table)
  paths_within-are zero table = All-nil (IsPathWithin zero links table)
  paths_within-are (suc room) table = by_each room table (paths_within-are room) (readers links table) (readers_from-read links table 0 links (λ k. let same : 0 + k ≡ k = omega arith in ap (slice_get links) same))

  -- the paths from a table are paths from it, of views that there are, one at least and as many as may be at most
  pub paths_from-are : (table : ℕ) → All (IsPathWithin MAX_PATH links table) (paths_from links table)
  unfolding paths_from
  paths_from-are table = paths_within-are MAX_PATH table
