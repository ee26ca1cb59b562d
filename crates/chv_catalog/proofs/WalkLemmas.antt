-- How paths are found, view by view.
use Rattle.std.proofs.Common.{◌≡◌, ◌≢◌, ◌∙◌, ◌||◌, ◌<◌, ◌≤◌, ◌+◌, ◌-◌, ℕ, suc, Bool, true, false, nat_eq, nat_lt, if◌then◌else◌, List, [], ◌∷◌, ◌++◌, length, map, take, drop, set, get_or, slice_get, Option, Some, None, is_none, is_some, not, take_all, refl, sym, ap, ap₂, arith, add-one, drop-cons, append_assoc}
use Rattle.std.proofs.Common.{option_and_then, eq-eqb, ne_eqb, ltb-true, lt-ltb, ltb-false, le-ltb, length-append}
use Prim.Native.Nat.compare
use Rattle.std.specs.List.{list_any, range_with_len}
use Rattle.std.proofs.lemmas.List.{drop_all, map-append, take_more, take_more_set}
use Rattle.std.proofs.lemmas.List.Folds.{list_any-append}
use Rattle.std.proofs.lemmas.Option.{same_Some, slice_get-get_or, slice_get_within}
use Rattle.chv_catalog.proofs.ListLemmas.{list_any-map}
use Rattle.chv_catalog.specs.Paths.{MAX_PATH, MAX_PATHS, end_of, has_too_many, links_of, passes_limits, paths_within, readers, readers_from, target_of}
use Rattle.chv_catalog.specs.Walks.{leads, left_behind, paths_by}
use Rattle.chv_catalog.specs.declared.link.Link.{Link}
use Rattle.chv_catalog.specs.declared.view_def.ViewDef.{ViewDef}

-- the links from a place on
drop-at : (i : ℕ) (links : List Link) (d : Link) → i < length links → drop i links ≡ get_or links i d ∷ drop (i + 1) links
drop-at i links d h = rw add-one (drop-cons links i d h)

-- the next view reads the table
pub readers-some : (i : ℕ) (links : List Link) (table : ℕ) (d : Link) → i < length links → (get_or links i d).source ≡ table
    → readers_from i (drop i links) table ≡ i ∷ readers_from (i + 1) (drop (i + 1) links) table
readers-some i links table d h reads =
    let test : nat_eq (get_or links i d).source table ≡ true = eq-eqb (get_or links i d).source table reads in
    rw (drop-at i links d h, test) refl

-- the next view does not
pub readers-none : (i : ℕ) (links : List Link) (table : ℕ) (d : Link) → i < length links → (get_or links i d).source ≢ table
    → readers_from i (drop i links) table ≡ readers_from (i + 1) (drop (i + 1) links) table
readers-none i links table d h other =
    let test : nat_eq (get_or links i d).source table ≡ false = ne_eqb (get_or links i d).source table other in
    rw (drop-at i links d h, test) refl

-- behind the last view there is none
pub readers-end : (i : ℕ) (links : List Link) (table : ℕ) → length links ≤ i → readers_from i (drop i links) table ≡ []
readers-end i links table h = rw (drop_all i links h) refl

-- a view fills what its link says
pub target_of-at : (i : ℕ) (links : List Link) (d : Link) → i < length links → target_of links i ≡ (get_or links i d).target
target_of-at i links d h = rw (slice_get-get_or links i d h) refl

module _ (room : ℕ) (links : List Link) (from to : ℕ) where
  -- a path that begins with one of these views ends there where one behind these does
  list_any-paths_by : (views : List ℕ) → list_any (λ path. nat_eq (end_of links from path) to) (paths_by room links views)
      ≡ list_any (λ view. leads room links (target_of links view) to) views
  list_any-paths_by [] = refl
  list_any-paths_by (view ∷ views) =
      list_any-append (λ (path : List ℕ). nat_eq (end_of links from path) to) ((view ∷ []) ∷ map (λ path. view ∷ path) (paths_within room links (target_of links view))) (paths_by room links views)
      ∙ ap₂ (λ (a b : Bool). (nat_eq (target_of links view) to || a) || b)
      (sym (list_any-map (λ (path : List ℕ). view ∷ path) (λ (path : List ℕ). nat_eq (end_of links from path) to) (paths_within room links (target_of links view))))
      (list_any-paths_by views)

  -- a table leads to another where one that it is read into does
  pub leads-suc : nat_eq from to ≡ false → list_any (λ (view : ℕ). leads room links (target_of links view) to) (readers links from) ≡ leads (suc room) links from to
  leads-suc apart = sym (ap (λ (b : Bool). b || list_any (λ path. nat_eq (end_of links from path) to) (paths_within (suc room) links from)) apart ∙ list_any-paths_by (readers links from))

-- the same, by numbers of which one is the next
pub leads-first : (room less : ℕ) (links : List Link) (from to : ℕ) → room ≡ suc less → from ≢ to
    → list_any (λ (view : ℕ). leads less links (target_of links view) to) (readers links from) ≡ leads room links from to
leads-first room less links from to e apart = rw e (leads-suc less links from to (ne_eqb from to apart))

-- the next view reads the table, and leads on or not
pub leads-some : (room i : ℕ) (links : List Link) (from to : ℕ) (d : Link) (found : Bool) → i < length links → (get_or links i d).source ≡ from
    → found ≡ leads room links (get_or links i d).target to
    → list_any (λ (view : ℕ). leads room links (target_of links view) to) (readers_from i (drop i links) from)
    ≡ (found || list_any (λ (view : ℕ). leads room links (target_of links view) to) (readers_from (i + 1) (drop (i + 1) links) from))
leads-some room i links from to d found h reads is =
    ap (list_any (λ (view : ℕ). leads room links (target_of links view) to)) (readers-some i links from d h reads)
    ∙ ap (λ (b : Bool). b || list_any (λ (view : ℕ). leads room links (target_of links view) to) (readers_from (i + 1) (drop (i + 1) links) from))
    (ap (λ (table : ℕ). leads room links table to) (target_of-at i links d h) ∙ sym is)

-- what is left behind some paths is left behind the first, and then behind the others
pub left_behind-append : (most left : ℕ) (xs ys : List (List ℕ)) → left_behind most left (xs ++ ys) ≡ option_and_then (λ (rest : ℕ). left_behind most rest ys) (left_behind most left xs)
left_behind-append most left xs ys =
    rw (length-append xs ys, list_any-append (λ (path : List ℕ). nat_lt most (length path)) xs ys)
    (by (nat_lt left (length xs)) refl (list_any (λ (path : List ℕ). nat_lt most (length path)) xs))
  where
    n : ℕ
    n = length ys

    q : Bool
    q = list_any (λ (path : List ℕ). nat_lt most (length path)) ys

    Behind : Bool → Bool → Type 0
    Behind b p = (if nat_lt left (length xs + n) || (p || q) then None else Some (left - (length xs + n)))
        ≡ option_and_then (λ (rest : ℕ). if nat_lt rest n || q then None else Some (rest - n)) (if b || p then None else Some (left - length xs))

    or_true : (b : Bool) → (b || true) ≡ true
    or_true true = refl
    or_true false = refl

    by : (b : Bool) → nat_lt left (length xs) ≡ b → (p : Bool) → Behind b p
    by true e p =
        let more : nat_lt left (length xs + n) ≡ true = lt-ltb left (length xs + n) (omega (arith, ltb-true left (length xs) e)) in
        rw more refl
    by false e true = rw (or_true (nat_lt left (length xs + n))) refl
    by false e false =
        let enough : length xs ≤ left = omega (arith, ltb-false left (length xs) e) in
        let same : nat_lt left (length xs + n) ≡ nat_lt (left - length xs) n = moved (nat_lt (left - length xs) n) refl enough in
        let less : left - (length xs + n) ≡ left - length xs - n = omega arith in
        rw (same, less) refl
      where
        moved : (b : Bool) → nat_lt (left - length xs) n ≡ b → length xs ≤ left → nat_lt left (length xs + n) ≡ b
        moved true e enough = lt-ltb left (length xs + n) (omega (arith, ltb-true (left - length xs) n e))
        moved false e enough = le-ltb left (length xs + n) (omega (arith, ltb-false (left - length xs) n e))

-- one view is a path, and so is each with it in front of a path: these are as those, of one view less and after one path
pub left_behind-view : (less few view : ℕ) (paths : List (List ℕ)) → left_behind (suc less) (suc few) ((view ∷ []) ∷ map (λ path. view ∷ path) paths) ≡ left_behind less few paths
left_behind-view less few view paths =
    let short : nat_lt (suc less) 1 ≡ false = le-ltb (suc less) 1 (omega arith) in
    rw (long paths, deep paths, short, compare.suc-suc) (by (nat_lt few (length paths) || list_any (λ (path : List ℕ). nat_lt less (length path)) paths))
  where
    long : (paths : List (List ℕ)) → length (map (λ (path : List ℕ). view ∷ path) paths) ≡ length paths
    long [] = refl
    long (path ∷ paths) = ap suc (long paths)

    deep : (paths : List (List ℕ)) → list_any (λ (path : List ℕ). nat_lt (suc less) (length path)) (map (λ (path : List ℕ). view ∷ path) paths) ≡ list_any (λ (path : List ℕ). nat_lt less (length path)) paths
    deep [] = refl
    deep (path ∷ paths) = rw (deep paths, compare.suc-suc) refl

    by : (b : Bool) → (if b then None else Some (suc few - suc (length paths))) ≡ (if b then None else Some (few - length paths))
    by true = refl
    by false = let same : suc few - suc (length paths) ≡ few - length paths = omega arith in ap Some same

module _ (links : List Link) (table most left i : ℕ) (d : Link) (h : i < length links) (reads : (get_or links i d).source ≡ table) (less few : ℕ) (m : most ≡ suc less) (l : left ≡ suc few) where
  -- what there is behind the paths by the next view, which reads the table, is what there is of one view less and after one path
  pub behind-some : left_behind most left (paths_by most links (readers_from i (drop i links) table))
      ≡ option_and_then (λ (rest : ℕ). left_behind most rest (paths_by most links (readers_from (i + 1) (drop (i + 1) links) table))) (left_behind less few (paths_within (suc less) links (get_or links i d).target))
  behind-some =
      let by : ℕ → ℕ → List (List ℕ) = λ room target. (i ∷ []) ∷ map (λ path. i ∷ path) (paths_within room links target) in
      let behind : List (List ℕ) = paths_by most links (readers_from (i + 1) (drop (i + 1) links) table) in
      let one : left_behind most left (by most (target_of links i)) ≡ left_behind less few (paths_within (suc less) links (get_or links i d).target) =
      ap₂ (λ (room target : ℕ). left_behind room left (by room target)) m (target_of-at i links d h)
      ∙ ap (λ (n : ℕ). left_behind (suc less) n (by (suc less) (get_or links i d).target)) l
      ∙ left_behind-view less few i (paths_within (suc less) links (get_or links i d).target) in
      ap (λ (views : List ℕ). left_behind most left (paths_by most links views)) (readers-some i links table d h reads)
      ∙ left_behind-append most left (by most (target_of links i)) behind
      ∙ ap (option_and_then (λ (rest : ℕ). left_behind most rest behind)) one

  -- these are too many
  pub behind-None : (answer : Option ℕ) → answer ≡ left_behind less few (paths_within (suc less) links (get_or links i d).target) → answer ≡ None
      → left_behind most left (paths_by most links (readers_from i (drop i links) table)) ≡ None
  behind-None answer is none = behind-some ∙ ap (option_and_then (λ (rest : ℕ). left_behind most rest (paths_by most links (readers_from (i + 1) (drop (i + 1) links) table)))) (sym is ∙ none)

  -- these are not
  pub behind-Some : (answer : Option ℕ) (rest : ℕ) → answer ≡ left_behind less few (paths_within (suc less) links (get_or links i d).target) → answer ≡ Some rest
      → left_behind most left (paths_by most links (readers_from i (drop i links) table)) ≡ left_behind most rest (paths_by most links (readers_from (i + 1) (drop (i + 1) links) table))
  behind-Some answer rest is some = behind-some ∙ ap (option_and_then (λ (rest : ℕ). left_behind most rest (paths_by most links (readers_from (i + 1) (drop (i + 1) links) table)))) (sym is ∙ some)

-- nothing is left where there are too many paths, or one has too many views
pub is_none-left_behind : (most left : ℕ) (paths : List (List ℕ)) → is_none (left_behind most left paths) ≡ (nat_lt left (length paths) || list_any (λ (path : List ℕ). nat_lt most (length path)) paths)
is_none-left_behind most left paths = by (nat_lt left (length paths) || list_any (λ (path : List ℕ). nat_lt most (length path)) paths)
  where
    by : (b : Bool) → is_none (if b then None else Some (left - length paths)) ≡ b
    by true = refl
    by false = refl

module _ (front : List ℕ) where
  -- a front and a view more
  pub map-front : (view : ℕ) (paths : List (List ℕ)) → map (λ (path : List ℕ). front ++ path) (map (λ path. view ∷ path) paths) ≡ map (λ (path : List ℕ). (front ++ view ∷ []) ++ path) paths
  map-front view [] = refl
  map-front view (path ∷ paths) = ap₂ (λ (p : List ℕ) (ps : List (List ℕ)). p ∷ ps) (sym (append_assoc front (view ∷ []) path)) (map-front view paths)

  -- a path is put behind others, with those that go on from it: what is left are those by the other views
  pub paths_by-put : (before : List (List ℕ)) (room : ℕ) (links : List Link) (view table : ℕ) (views : List ℕ) → target_of links view ≡ table
      → ((before ++ (front ++ view ∷ []) ∷ []) ++ map (λ (path : List ℕ). (front ++ view ∷ []) ++ path) (paths_within room links table)) ++ map (λ (path : List ℕ). front ++ path) (paths_by room links views)
      ≡ before ++ map (λ (path : List ℕ). front ++ path) (paths_by room links (view ∷ views))
  paths_by-put before room links view table views target =
      let behind = paths_within room links table in
      let rest = map (λ (path : List ℕ). front ++ path) (paths_by room links views) in
      let fronts : List (List ℕ) = map (λ (path : List ℕ). (front ++ view ∷ []) ++ path) behind in
      let parts : map (λ (path : List ℕ). front ++ path) (map (λ path. view ∷ path) behind ++ paths_by room links views) ≡ fronts ++ rest =
      map-append (λ (path : List ℕ). front ++ path) (map (λ path. view ∷ path) behind) (paths_by room links views) ∙ ap (λ (ps : List (List ℕ)). ps ++ rest) (map-front view behind) in
      rw (target, parts, append_assoc, append_assoc) refl

-- the next view reads the table: once the path by it is put behind others, and those that go on, the paths by the other views are left
pub put-some : (links : List Link) (table room i : ℕ) (d : Link) → i < length links → (get_or links i d).source ≡ table → (front : List ℕ) (before after : List (List ℕ))
    → after ≡ (before ++ (front ++ i ∷ []) ∷ []) ++ map (λ (path : List ℕ). (front ++ i ∷ []) ++ path) (paths_within room links (get_or links i d).target)
    → before ++ map (λ (path : List ℕ). front ++ path) (paths_by room links (readers_from i (drop i links) table))
    ≡ after ++ map (λ (path : List ℕ). front ++ path) (paths_by room links (readers_from (i + 1) (drop (i + 1) links) table))
put-some links table room i d h reads front before after put =
    let views : List ℕ = readers_from (i + 1) (drop (i + 1) links) table in
    ap (λ (views : List ℕ). before ++ map (λ (path : List ℕ). front ++ path) (paths_by room links views)) (readers-some i links table d h reads)
    ∙ sym (paths_by-put front before room links i (get_or links i d).target views (target_of-at i links d h))
    ∙ ap (λ (paths : List (List ℕ)). paths ++ map (λ (path : List ℕ). front ++ path) (paths_by room links views)) (sym put)

-- the tables from the first on
pub limits-first : (tables : ℕ) (links : List Link) → list_any (has_too_many links) (range_with_len 1 (tables - 0)) ≡ passes_limits tables links
unfolding passes_limits
limits-first tables links = let all : tables - 0 ≡ tables = omega arith in ap (λ (n : ℕ). list_any (has_too_many links) (range_with_len 1 n)) all

-- the next table passes the limits, or those behind it do
pub limits-next : (tables place : ℕ) (links : List Link) (left : Option ℕ) (found : Bool) → place < tables
    → left ≡ left_behind MAX_PATH MAX_PATHS (paths_within (suc MAX_PATH) links (place + 1)) → found ≡ is_none left
    → list_any (has_too_many links) (range_with_len (1 + place) (tables - place)) ≡ (found || list_any (has_too_many links) (range_with_len (1 + (place + 1)) (tables - (place + 1))))
limits-next tables place links left found h is none =
    let more : tables - place ≡ suc (tables - (place + 1)) = omega arith in
    let this : 1 + place ≡ place + 1 = omega arith in
    let next : place + 1 + 1 ≡ 1 + (place + 1) = omega arith in
    ap₂ (λ (table n : ℕ). list_any (has_too_many links) (range_with_len table n)) this more
    ∙ ap₂ (λ (b : Bool) (table : ℕ). b || list_any (has_too_many links) (range_with_len table (tables - (place + 1))))
    (sym (none ∙ ap is_none is ∙ is_none-left_behind MAX_PATH MAX_PATHS (paths_within (suc MAX_PATH) links (place + 1)))) next

-- the links so far, and one more
pub links-more : (links all : List Link) (i : ℕ) (link : Link) → i < length links → slice_get all i ≡ Some link → take i links ≡ take i all → take (i + 1) (set links i link) ≡ take (i + 1) all
links-more links all i link within at same =
    let there : i < length all = slice_get_within all i link at in
    let is : get_or all i link ≡ link = same_Some (get_or all i link) link (sym (slice_get-get_or all i link there) ∙ at) in
    take_more_set links i link within ∙ ap (λ (front : List Link). front ++ link ∷ []) same ∙ sym (take_more all i link there ∙ ap (λ (other : Link). take i all ++ other ∷ []) is)

length-links_of : (views : List ViewDef) → length (links_of views) ≡ length views
length-links_of [] = refl
length-links_of (view ∷ views) = ap suc (length-links_of views)

-- the links of all views
pub links-all : (links : List Link) (views : List ViewDef) (i count : ℕ) → i ≡ count → count ≡ length views → take i links ≡ take i (links_of views) → take count links ≡ links_of views
links-all links views i count e all same =
    ap (λ (n : ℕ). take n links) (sym e) ∙ same ∙ take_all i (links_of views) (omega (arith, length-links_of views))

-- none is what is not some
pub is_none-is : {A : Type 0} (option : Option A) (none : Bool) → is_some option ≡ not none → none ≡ is_none option
is_none-is None true is = refl
is_none-is None false is = absurd cc
is_none-is (Some a) true is = absurd cc
is_none-is (Some a) false is = refl
