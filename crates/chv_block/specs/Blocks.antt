-- How the rows of an insert become blocks: docs/SQL.md, "Blocks".
use Rattle.std.specs.Prelude.{ℕ, zero, suc, ◌≡◌, ◌+◌, ◌-◌, ◌<◌, ◌≤◌, ◌^◌, Bool, true, false, not, ◌&&◌, ◌||◌, nat_eq, nat_lt, min, List, [], ◌∷◌, ◌++◌, length, map, take, drop, if◌then◌else◌, Option, None, Some}
use Rattle.std.specs.List.{flat_map}
use Rattle.chv_types.specs.declared.value.Value.{Value}
use Rattle.chv_block.specs.declared.squasher.Sizes.{Sizes}
use Rattle.chv_block.specs.declared.squasher.Squasher.{Squasher}

-- a row, and how many bytes it has
pub record Sized : Type 0 where
  pub row : List Value
  pub bytes : ℕ

-- how many bytes rows have
abbrev pub bytes_in : List Sized → ℕ
bytes_in [] = 0
bytes_in (sized ∷ rows) = sized.bytes + bytes_in rows

-- a list cut into so many pieces at most, each of so many items and the last of the rest
abbrev pub cut_into : {A : Type 0} → ℕ → ℕ → List A → List (List A)
cut_into zero size items = []
cut_into (suc count) size [] = []
cut_into (suc count) size (item ∷ items) = take size (item ∷ items) ∷ cut_into count size (drop size (item ∷ items))

-- a list cut into pieces of so many items, the last of the rest
abbrev pub pieces_of : {A : Type 0} → ℕ → List A → List (List A)
pieces_of size items = cut_into (length items) size items

-- a group of pieces is closed where it reaches a minimum that is above 0, or where both are 0
abbrev pub is_closed : Sizes → List Sized → Bool
is_closed sizes group =
    (nat_eq sizes.min_rows 0 && nat_eq sizes.min_bytes 0)
    || ((nat_lt 0 sizes.min_rows && not (nat_lt (length group) sizes.min_rows))
    || (nat_lt 0 sizes.min_bytes && not (nat_lt (bytes_in group) sizes.min_bytes)))

-- pieces joined into groups, the first of which goes on with an open one; the end closes the last
abbrev pub groups_of : Sizes → List Sized → List (List Sized) → List (List Sized)
groups_of sizes [] [] = []
groups_of sizes (sized ∷ group) [] = (sized ∷ group) ∷ []
groups_of sizes group (piece ∷ pieces) =
    if is_closed sizes (group ++ piece) then (group ++ piece) ∷ groups_of sizes [] pieces else groups_of sizes (group ++ piece) pieces

-- the rows alone
abbrev pub rows_of : List Sized → List (List Value)
rows_of = map (λ (sized : Sized). sized.row)

-- the blocks of an insert: its rows are cut into pieces of the greatest size, which are joined into groups
abbrev pub blocks_of : Sizes → List Sized → List (List (List Value))
blocks_of sizes rows = map rows_of (groups_of sizes [] (pieces_of sizes.max_rows rows))

-- lists one behind the other, as one
abbrev pub joined : {A : Type 0} → List (List A) → List A
joined = flat_map (λ list. list)

-- no pieces in front of the last of a group close it
abbrev pub IsOpenBefore : Sizes → List (List Sized) → Type 0
IsOpenBefore sizes group =
    (front behind : List (List Sized)) → group ≡ front ++ behind → 1 ≤ length front → 1 ≤ length behind → is_closed sizes (joined front) ≡ false

-- groups of pieces, of which each has one at least and is open before its last, and each but the last group is closed
abbrev pub AreCut : Sizes → List (List (List Sized)) → Type 0
AreCut sizes [] = Unit {0}
AreCut sizes (group ∷ []) = (1 ≤ length group) × IsOpenBefore sizes group
AreCut sizes (group ∷ (next ∷ groups)) =
    (1 ≤ length group) × IsOpenBefore sizes group × (is_closed sizes (joined group) ≡ true) × AreCut sizes (next ∷ groups)

-- how rows were cut into blocks: the pieces of the rows stand in groups, each of which is a block
pub record IsCut (sizes : Sizes) (rows : List Sized) (blocks : List (List (List Value))) : Type 0 where
  pub groups : List (List (List Sized))
  pub pieces : joined groups ≡ pieces_of sizes.max_rows rows
  pub are : blocks ≡ map (λ group. rows_of (joined group)) groups
  pub cut : AreCut sizes groups

-- what is left to come of an open group and an open piece, with the rows that follow them
abbrev pub blocks_behind : Sizes → List Sized → List Sized → List Sized → List (List (List Value))
blocks_behind sizes group piece more = map rows_of (groups_of sizes group (pieces_of sizes.max_rows (piece ++ more)))

-- these rows were fed, and these blocks were given: what is held is an open group and an open piece, and whatever follows, the
-- blocks of all rows are those that were given and those to come
pub record IsFed (sizes : Sizes) (fed : List Sized) (given : List (List (List Value))) (squasher : Squasher) : Type 0 where
  pub sizes_are : squasher.sizes ≡ sizes
  pub group : List Sized
  pub piece : List Sized
  pub short : length piece < sizes.max_rows
  pub in_piece : squasher.in_piece ≡ length piece
  pub rows : squasher.rows ≡ rows_of (group ++ piece)
  pub bytes : squasher.bytes ≡ min (bytes_in (group ++ piece)) (2 ^ 64 - 1)
  pub goes_on : (more : List Sized) → blocks_of sizes (fed ++ more) ≡ given ++ blocks_behind sizes group piece more

-- a block more, where there is one
abbrev pub and_block : List (List (List Value)) → Option (List (List Value)) → List (List (List Value))
and_block blocks None = blocks
and_block blocks (Some block) = blocks ++ block ∷ []
