-- Paths along views: docs/SQL.md, "Paths".
use Rattle.std.specs.Prelude.{ℕ, ◌≡◌, ◌+◌, Bool, ◌||◌, nat_eq, nat_lt, zero, suc, List, [], ◌∷◌, length, map, if◌then◌else◌, Some, slice_get}
use Rattle.std.specs.List.{flat_map, list_any, range_with_len}
use Rattle.std.specs.Option.{option_map, unwrap_or}
use Rattle.chv_catalog.specs.declared.link.Link.{Link}
use Rattle.chv_catalog.specs.declared.view_def.ViewDef.{ViewDef}

-- the most views on a path
abbrev pub MAX_PATH : ℕ
MAX_PATH = 8

-- the most paths from a table
abbrev pub MAX_PATHS : ℕ
MAX_PATHS = 256

-- the tables that a view links
abbrev pub link_of : ViewDef → Link
link_of view = record { source = view.source; target = view.target }

abbrev pub links_of : List ViewDef → List Link
links_of views = map link_of views

-- the numbers of the views that read a table, in order of creation, these being numbered from this number on
abbrev pub readers_from : ℕ → List Link → ℕ → List ℕ
readers_from view [] table = []
readers_from view (link ∷ links) table =
    if nat_eq link.source table then view ∷ readers_from (view + 1) links table else readers_from (view + 1) links table

-- the numbers of the views that read a table, in order of creation
abbrev pub readers : List Link → ℕ → List ℕ
readers links table = readers_from 0 links table

-- the table that a view fills, by its number; that of none is 0
abbrev pub target_of : List Link → ℕ → ℕ
target_of links view = unwrap_or (option_map (λ (link : Link). link.target) (slice_get links view)) 0

-- the paths of one view or more, and of so many at most, from a table, in preorder
abbrev pub paths_within : ℕ → List Link → ℕ → List (List ℕ)
paths_within zero links table = []
paths_within (suc room) links table =
    flat_map (λ view. (view ∷ []) ∷ map (λ path. view ∷ path) (paths_within room links (target_of links view))) (readers links table)

-- all paths of one view or more from a table, in preorder
unfoldable pub paths_from : List Link → ℕ → List (List ℕ)
paths_from links table = paths_within MAX_PATH links table

-- the table at which a path from a table ends
abbrev pub end_of : List Link → ℕ → List ℕ → ℕ
end_of links table [] = table
end_of links table (view ∷ path) = end_of links (target_of links view) path

-- a path from a table: its first view reads the table, and each other the one that the view before fills
abbrev pub IsPath : List Link → ℕ → List ℕ → Type 0
IsPath links table [] = Unit {0}
IsPath links table (view ∷ path) = (link : Link) × (slice_get links view ≡ Some link) × (link.source ≡ table) × IsPath links link.target path

-- two tables are the same, or a path leads from the first to the second
unfoldable pub reaches : List Link → ℕ → ℕ → Bool
reaches links from to = nat_eq from to || list_any (λ path. nat_eq (end_of links from path) to) (paths_from links from)

-- from a table there are more paths than there may be, or one of too many views
abbrev pub has_too_many : List Link → ℕ → Bool
has_too_many links table =
    let paths = paths_within (suc MAX_PATH) links table in
    nat_lt MAX_PATHS (length paths) || list_any (λ path. nat_lt MAX_PATH (length path)) paths

-- so it is with one of the tables from 1 to this number
unfoldable pub passes_limits : ℕ → List Link → Bool
passes_limits tables links = list_any (has_too_many links) (range_with_len 1 tables)
