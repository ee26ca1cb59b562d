-- Blocks that arrive in tables, where they came from, and along which views.
use Rattle.std.specs.Prelude.{ℕ, ◌≡◌, ◌≤◌, false, List, [], ◌∷◌, length, Some, slice_get}
use Rattle.std.specs.List.{All, filter_map}
use Rattle.std.specs.Option.{option_map}
use Rattle.chv_block.specs.Spellings.{AllAreOf, IsSmall}
use Rattle.chv_catalog.specs.Paths.{IsPath, end_of, links_of}
use Rattle.chv_catalog.specs.Schemas.{Catalog, kinds_of}
use Rattle.chv_catalog.specs.declared.table_def.TableDef.{TableDef}
use Rattle.chv_catalog.specs.declared.view_def.ViewDef.{ViewDef}
use Rattle.chv_part.specs.Books.{Entry, MAX_ROWS, normal_rows}
use Rattle.chv_part.specs.Naming.{Names}
use Rattle.chv_sip.specs.BlockIds.{SourceKey, path_id, source_id}
use Rattle.chv_sip.specs.declared.block_id.BlockId.{BlockId}
use Rattle.chv_types.specs.declared.value.Value.{Value}
use Rattle.chv_query.specs.Derived.{def_at, derived, divides_along, form_at}

-- what a block that arrives goes by: the number of the table into which it was inserted, what names it there, and the views
-- along which it came
pub record Contribution : Type 0 where
  pub origin : ℕ
  pub source : SourceKey
  pub path : List ℕ

-- what arrives in a table: what it goes by and the block that was inserted, with the id and the rows of its entry
pub record Arrival : Type 0 where
  pub contribution : Contribution
  pub block : List (List Value)
  pub id : BlockId
  pub rows : List (List Value)

-- the entry of an arrival
abbrev pub entry_in : Arrival → Entry
entry_in arrival = record { id = arrival.id; rows = arrival.rows }

-- the table at which a path ends
abbrev pub end_at : Catalog → ℕ → List ℕ → ℕ
end_at catalog origin path = end_of (links_of catalog.views) origin path

-- the names of the views of a path
abbrev pub names_along : Catalog → List ℕ → List (List ℕ)
names_along catalog path = filter_map (λ view. option_map (λ (def : ViewDef). def.name) (slice_get catalog.views view)) path

-- the id of a block along a path: that of what names it where it was inserted; behind views also by their names
abbrev pub contribution_id : Catalog → SourceKey → List ℕ → BlockId
contribution_id catalog source [] = source_id source
contribution_id catalog source (view ∷ path) = path_id (source_id source) (names_along catalog (view ∷ path))

-- a block as it arrives in the table at which its path ends
abbrev pub arrival_in : Catalog → Contribution → List (List Value) → Arrival
arrival_in catalog contribution block = record {
  contribution = contribution;
  block = block;
  id = contribution_id catalog contribution.source contribution.path;
  rows = normal_rows (form_at catalog (end_at catalog contribution.origin contribution.path)) (derived catalog block contribution.path);
}

-- an arrival in the table of a number: a block of one row or more of the columns of the table into which it was inserted, each
-- value of 1,048,576 bytes at most; its path leads here from there; no view on it divides by zero, and a row is derived; its id is that of what it goes by, and its
-- rows are those that are derived, in normal form
pub record IsArrival (catalog : Catalog) (table : ℕ) (arrival : Arrival) : Type 0 where
  pub origin : TableDef
  pub numbered : 1 ≤ arrival.contribution.origin
  pub stands : def_at catalog arrival.contribution.origin ≡ Some origin
  pub leads : IsPath (links_of catalog.views) arrival.contribution.origin arrival.contribution.path
  pub ends : end_at catalog arrival.contribution.origin arrival.contribution.path ≡ table
  pub kinds_fit : AllAreOf (kinds_of origin) arrival.block
  pub some : 1 ≤ length arrival.block
  pub most : length arrival.block ≤ MAX_ROWS
  pub small : All (All IsSmall) arrival.block
  pub named : Names (kinds_of origin) arrival.block arrival.contribution.source
  pub sound : divides_along catalog arrival.block arrival.contribution.path ≡ false
  pub reaches : 1 ≤ length (derived catalog arrival.block arrival.contribution.path)
  pub is : arrival ≡ arrival_in catalog arrival.contribution arrival.block
