-- The blocks of an insert hold its rows.
use Rattle.std.proofs.Common.{◌≡◌, ℕ, suc, zero, ◌≤◌, Bool, true, false, List, [], ◌∷◌, ◌++◌, length, map, take, drop, refl, sym, ap, ◌∙◌, arith, append_assoc, length-append, length-drop}
use Rattle.std.specs.List.{All}
use Rattle.std.proofs.lemmas.List.{map-append, length-map, length-take, take-append-drop}
use Rattle.std.proofs.lemmas.List.Elements.{All-nil, All-cons, All-head, All-tail, All-same, All-map, All-weaker}
use Rattle.chv_types.specs.declared.value.Value.{Value}
use Rattle.chv_block.specs.Blocks.{Sized, cut_into, pieces_of, is_closed, groups_of, rows_of, blocks_of, joined}
use Rattle.chv_block.specs.declared.squasher.Sizes.{Sizes}
use Rattle.chv_block.proofs.PieceLemmas.{groups_of-closed, groups_of-unclosed}

-- pieces hold the rows that were cut
cut_into-joined : (count size : ℕ) (rows : List Sized) → 1 ≤ size → length rows ≤ count → joined (cut_into count size rows) ≡ rows
cut_into-joined zero size [] some room = refl
cut_into-joined zero size (row ∷ rows) some room = absurd (omega (arith, room))
cut_into-joined (suc count) size [] some room = refl
cut_into-joined (suc count) size (row ∷ rows) some room =
    ap (λ (l : List Sized). take size (row ∷ rows) ++ l) (cut_into-joined count size (drop size (row ∷ rows)) some (omega (arith, room, some, length-drop size (row ∷ rows))))
    ∙ take-append-drop size (row ∷ rows)

-- groups hold the rows of an open group and of the pieces behind it
closed_or_not : (sizes : Sizes) (group piece : List Sized) (pieces : List (List Sized)) (closed : Bool) → is_closed sizes (group ++ piece) ≡ closed
    → joined (groups_of sizes [] pieces) ≡ joined pieces → joined (groups_of sizes (group ++ piece) pieces) ≡ (group ++ piece) ++ joined pieces
    → joined (groups_of sizes group (piece ∷ pieces)) ≡ group ++ (piece ++ joined pieces)
closed_or_not sizes group piece pieces true closed afresh on =
    ap joined (groups_of-closed sizes group piece pieces closed) ∙ ap (λ (l : List Sized). (group ++ piece) ++ l) afresh ∙ append_assoc group piece (joined pieces)
closed_or_not sizes group piece pieces false unclosed afresh on =
    ap joined (groups_of-unclosed sizes group piece pieces unclosed) ∙ on ∙ append_assoc group piece (joined pieces)

groups_of-joined : (sizes : Sizes) (group : List Sized) (pieces : List (List Sized)) → joined (groups_of sizes group pieces) ≡ group ++ joined pieces
groups_of-joined sizes [] [] = refl
groups_of-joined sizes (row ∷ group) [] = refl
groups_of-joined sizes group (piece ∷ pieces) =
    closed_or_not sizes group piece pieces (is_closed sizes (group ++ piece)) refl (groups_of-joined sizes [] pieces) (groups_of-joined sizes (group ++ piece) pieces)

-- the rows of groups are the rows of what they hold
rows_of-joined : (groups : List (List Sized)) → joined (map rows_of groups) ≡ rows_of (joined groups)
rows_of-joined [] = refl
rows_of-joined (group ∷ groups) =
    ap (λ (l : List (List Value)). rows_of group ++ l) (rows_of-joined groups) ∙ sym (map-append (λ (sized : Sized). sized.row) group (joined groups))

-- the blocks of an insert, one behind the other, are its rows
pub joined-blocks_of : (sizes : Sizes) (rows : List Sized) → 1 ≤ sizes.max_rows → joined (blocks_of sizes rows) ≡ rows_of rows
joined-blocks_of sizes rows some =
    rows_of-joined (groups_of sizes [] (pieces_of sizes.max_rows rows))
    ∙ ap rows_of (groups_of-joined sizes [] (pieces_of sizes.max_rows rows) ∙ cut_into-joined (length rows) sizes.max_rows rows some (omega arith))

-- it has rows
abbrev pub HasRows : List Sized → Type 0
HasRows rows = 1 ≤ length rows

-- no piece is without rows
pub cut_into-some : (count size : ℕ) (rows : List Sized) → 1 ≤ size → All HasRows (cut_into count size rows)
cut_into-some zero size rows some = All-nil HasRows
cut_into-some (suc count) size [] some = All-nil HasRows
cut_into-some (suc count) size (row ∷ rows) some =
    All-cons HasRows (take size (row ∷ rows)) (cut_into count size (drop size (row ∷ rows))) (omega (arith, some, length-take size (row ∷ rows)))
    (cut_into-some count size (drop size (row ∷ rows)) some)

-- so no group is
groups_of-some_or : (sizes : Sizes) (group piece : List Sized) (pieces : List (List Sized)) (closed : Bool) → is_closed sizes (group ++ piece) ≡ closed
    → 1 ≤ length piece → All HasRows (groups_of sizes [] pieces) → All HasRows (groups_of sizes (group ++ piece) pieces) → All HasRows (groups_of sizes group (piece ∷ pieces))
groups_of-some_or sizes group piece pieces true closed some afresh on =
    All-same HasRows _ _ (groups_of-closed sizes group piece pieces closed)
    (All-cons HasRows (group ++ piece) (groups_of sizes [] pieces) (omega (arith, some, length-append group piece)) afresh)
groups_of-some_or sizes group piece pieces false unclosed some afresh on = All-same HasRows _ _ (groups_of-unclosed sizes group piece pieces unclosed) on

groups_of-some : (sizes : Sizes) (group : List Sized) (pieces : List (List Sized)) → All HasRows pieces → All HasRows (groups_of sizes group pieces)
groups_of-some sizes [] [] each = All-nil HasRows
groups_of-some sizes (row ∷ group) [] each = All-cons HasRows (row ∷ group) [] (omega arith) (All-nil HasRows)
groups_of-some sizes group (piece ∷ pieces) each =
    let rest = All-tail HasRows piece pieces each in
    groups_of-some_or sizes group piece pieces (is_closed sizes (group ++ piece)) refl (All-head HasRows piece pieces each) (groups_of-some sizes [] pieces rest)
    (groups_of-some sizes (group ++ piece) pieces rest)

-- no block is without rows
pub blocks_of-some : (sizes : Sizes) (rows : List Sized) → 1 ≤ sizes.max_rows → All (λ (block : List (List Value)). 1 ≤ length block) (blocks_of sizes rows)
blocks_of-some sizes rows some =
    let groups : List (List Sized) = groups_of sizes [] (pieces_of sizes.max_rows rows) in
    let each : All HasRows groups = groups_of-some sizes [] (pieces_of sizes.max_rows rows) (cut_into-some (length rows) sizes.max_rows rows some) in
    All-map (λ (block : List (List Value)). 1 ≤ length block) rows_of groups
    (All-weaker HasRows (λ (group : List Sized). 1 ≤ length (rows_of group)) (λ (group : List Sized) (has : HasRows group). omega (arith, has, length-map group (λ (sized : Sized). sized.row))) groups each)
