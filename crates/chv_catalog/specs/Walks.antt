-- How paths are found: view by view, each with what comes behind it.
use Rattle.std.specs.Prelude.{ℕ, ◌≤◌, ◌<◌, ◌-◌, Bool, ◌||◌, nat_eq, nat_lt, List, [], ◌∷◌, length, map, if◌then◌else◌, Option, None, Some}
use Rattle.std.specs.List.{All, flat_map, list_any}
use Rattle.chv_catalog.specs.Paths.{IsPath, end_of, paths_within, target_of}
use Rattle.chv_catalog.specs.declared.link.Link.{Link}

-- the paths that begin with one of these views and have so many at most behind it, in preorder
abbrev pub paths_by : ℕ → List Link → List ℕ → List (List ℕ)
paths_by room links views = flat_map (λ view. (view ∷ []) ∷ map (λ path. view ∷ path) (paths_within room links (target_of links view))) views

-- two tables are the same, or a path of so many views at most leads from the first to the second
abbrev pub leads : ℕ → List Link → ℕ → ℕ → Bool
leads room links from to = nat_eq from to || list_any (λ path. nat_eq (end_of links from path) to) (paths_within room links from)

-- how many paths more there may be behind these; None where these are too many, or one of them has too many views
abbrev pub left_behind : ℕ → ℕ → List (List ℕ) → Option ℕ
left_behind most left paths = if nat_lt left (length paths) || list_any (λ path. nat_lt most (length path)) paths then None else Some (left - length paths)

-- a path of one view or more from a table, and of so many at most, each of which there is
pub record IsPathWithin (most : ℕ) (links : List Link) (table : ℕ) (path : List ℕ) : Type 0 where
  pub is_path : IsPath links table path
  pub some : 1 ≤ length path
  pub few : length path ≤ most
  pub there : All (λ view. view < length links) path
