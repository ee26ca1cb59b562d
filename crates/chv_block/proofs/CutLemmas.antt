-- The groups of an insert as groups of its pieces: each but the last is closed, and none before its last piece.
use Rattle.std.proofs.Common.{◌≡◌, ◌≤◌, Bool, true, false, if◌then◌else◌, List, [], ◌∷◌, ◌++◌, length, map, refl, sym, ap, ap₂, subst, ◌∙◌, arith, append_assoc, append-nil, length-append}
use Rattle.std.proofs.lemmas.Grind.{flat_map-append}
use Rattle.std.proofs.lemmas.List.Elements.{All-nil, All-head, All-tail, All-push}
use Rattle.std.specs.List.{All}
use Rattle.chv_types.specs.declared.value.Value.{Value}
use Rattle.chv_block.specs.Blocks.{Sized, pieces_of, is_closed, groups_of, rows_of, blocks_of, joined, IsOpenBefore, AreCut, IsCut}
use Rattle.chv_block.specs.declared.squasher.Sizes.{Sizes}
use Rattle.chv_block.proofs.JoinedLemmas.{HasRows, cut_into-some}
use Rattle.chv_block.proofs.PieceLemmas.{groups_of-closed, groups_of-unclosed}

-- pieces in groups, the first of which goes on with open pieces
abbrev grouped : Sizes → List (List Sized) → List (List Sized) → List (List (List Sized))
grouped sizes [] [] = []
grouped sizes (first ∷ held) [] = (first ∷ held) ∷ []
grouped sizes held (piece ∷ pieces) =
    if is_closed sizes (joined held ++ piece) then (held ++ piece ∷ []) ∷ grouped sizes [] pieces else grouped sizes (held ++ piece ∷ []) pieces

grouped-closed : (sizes : Sizes) (held : List (List Sized)) (piece : List Sized) (pieces : List (List Sized)) → is_closed sizes (joined held ++ piece) ≡ true
    → grouped sizes held (piece ∷ pieces) ≡ (held ++ piece ∷ []) ∷ grouped sizes [] pieces
grouped-closed sizes [] piece pieces closed = rw closed refl
grouped-closed sizes (first ∷ held) piece pieces closed = rw closed refl

grouped-unclosed : (sizes : Sizes) (held : List (List Sized)) (piece : List Sized) (pieces : List (List Sized)) → is_closed sizes (joined held ++ piece) ≡ false
    → grouped sizes held (piece ∷ pieces) ≡ grouped sizes (held ++ piece ∷ []) pieces
grouped-unclosed sizes [] piece pieces unclosed = rw unclosed refl
grouped-unclosed sizes (first ∷ held) piece pieces unclosed = rw unclosed refl

joined-more : (held : List (List Sized)) (piece : List Sized) → joined (held ++ piece ∷ []) ≡ joined held ++ piece
joined-more held piece =
    flat_map-append (λ (list : List Sized). list) held (piece ∷ []) ∙ ap (λ (l : List Sized). joined held ++ l) (append-nil piece)

-- the groups hold the pieces
joined-grouped_or : (sizes : Sizes) (held : List (List Sized)) (piece : List Sized) (pieces : List (List Sized)) (closed : Bool) → is_closed sizes (joined held ++ piece) ≡ closed
    → joined (grouped sizes [] pieces) ≡ pieces → joined (grouped sizes (held ++ piece ∷ []) pieces) ≡ (held ++ piece ∷ []) ++ pieces
    → joined (grouped sizes held (piece ∷ pieces)) ≡ held ++ piece ∷ pieces
joined-grouped_or sizes held piece pieces true closed afresh on =
    ap joined (grouped-closed sizes held piece pieces closed) ∙ ap (λ (l : List (List Sized)). (held ++ piece ∷ []) ++ l) afresh ∙ append_assoc held (piece ∷ []) pieces
joined-grouped_or sizes held piece pieces false unclosed afresh on =
    ap joined (grouped-unclosed sizes held piece pieces unclosed) ∙ on ∙ append_assoc held (piece ∷ []) pieces

joined-grouped : (sizes : Sizes) (held pieces : List (List Sized)) → joined (grouped sizes held pieces) ≡ held ++ pieces
joined-grouped sizes [] [] = refl
joined-grouped sizes (first ∷ held) [] = refl
joined-grouped sizes held (piece ∷ pieces) =
    joined-grouped_or sizes held piece pieces (is_closed sizes (joined held ++ piece)) refl (joined-grouped sizes [] pieces) (joined-grouped sizes (held ++ piece ∷ []) pieces)

-- the groups of rows are the groups of their pieces
groups_of-grouped_or : (sizes : Sizes) (held : List (List Sized)) (piece : List Sized) (pieces : List (List Sized)) (closed : Bool) → is_closed sizes (joined held ++ piece) ≡ closed
    → groups_of sizes [] pieces ≡ map joined (grouped sizes [] pieces)
    → groups_of sizes (joined (held ++ piece ∷ [])) pieces ≡ map joined (grouped sizes (held ++ piece ∷ []) pieces)
    → groups_of sizes (joined held) (piece ∷ pieces) ≡ map joined (grouped sizes held (piece ∷ pieces))
groups_of-grouped_or sizes held piece pieces true closed afresh on =
    groups_of-closed sizes (joined held) piece pieces closed
    ∙ ap₂ (λ (group : List Sized) (groups : List (List Sized)). group ∷ groups) (sym (joined-more held piece)) afresh
    ∙ ap (map joined) (sym (grouped-closed sizes held piece pieces closed))
groups_of-grouped_or sizes held piece pieces false unclosed afresh on =
    groups_of-unclosed sizes (joined held) piece pieces unclosed
    ∙ ap (λ (group : List Sized). groups_of sizes group pieces) (sym (joined-more held piece)) ∙ on
    ∙ ap (map joined) (sym (grouped-unclosed sizes held piece pieces unclosed))

groups_of-grouped : (sizes : Sizes) (held pieces : List (List Sized)) → All HasRows held → All HasRows pieces
    → groups_of sizes (joined held) pieces ≡ map joined (grouped sizes held pieces)
groups_of-grouped sizes [] [] some each = refl
groups_of-grouped sizes ([] ∷ held) [] some each = absurd (omega (arith, All-head HasRows [] held some))
groups_of-grouped sizes ((row ∷ rows) ∷ held) [] some each = refl
groups_of-grouped sizes held (piece ∷ pieces) some each =
    let rest : All HasRows pieces = All-tail HasRows piece pieces each in
    groups_of-grouped_or sizes held piece pieces (is_closed sizes (joined held ++ piece)) refl (groups_of-grouped sizes [] pieces (All-nil HasRows) rest)
    (groups_of-grouped sizes (held ++ piece ∷ []) pieces (All-push HasRows held piece some (All-head HasRows piece pieces each)) rest)

-- no pieces that are open so far are closed by a front of them
abbrev IsOpen : Sizes → List (List Sized) → Type 0
IsOpen sizes held = (front behind : List (List Sized)) → held ≡ front ++ behind → 1 ≤ length front → is_closed sizes (joined front) ≡ false

nothing-IsOpen : (sizes : Sizes) → IsOpen sizes []
nothing-IsOpen sizes front behind e some = absurd (omega (arith, some, ap length e, length-append front behind))

-- a front of a list that is not all of it is one of the list without its last item
front_before : (held : List (List Sized)) (piece : List Sized) (front behind : List (List Sized)) → held ++ piece ∷ [] ≡ front ++ behind → 1 ≤ length behind
    → (rest : List (List Sized)) × (held ≡ front ++ rest)
front_before held piece [] behind e some = (held, refl)
front_before [] piece (first ∷ front) behind e some =
    absurd (omega (arith, some, ap length e, length-append front behind))
front_before (one ∷ held) piece (first ∷ front) behind e some =
    let same : one ≡ first = cc in
    let others : held ++ piece ∷ [] ≡ front ++ behind = cc in
    let (rest, is) = front_before held piece front behind others some in
    (rest, ap₂ (λ (x : List Sized) (xs : List (List Sized)). x ∷ xs) same is)

more-IsOpenBefore : (sizes : Sizes) (held : List (List Sized)) (piece : List Sized) → IsOpen sizes held → IsOpenBefore sizes (held ++ piece ∷ [])
more-IsOpenBefore sizes held piece are front behind e some other =
    let (rest, is) = front_before held piece front behind e other in
    are front rest is some

more-IsOpen : (sizes : Sizes) (held : List (List Sized)) (piece : List Sized) → IsOpen sizes held → is_closed sizes (joined held ++ piece) ≡ false → IsOpen sizes (held ++ piece ∷ [])
more-IsOpen sizes held piece are unclosed front [] e some =
    let all : front ≡ held ++ piece ∷ [] = sym (append-nil front) ∙ sym e in
    ap (λ (l : List (List Sized)). is_closed sizes (joined l)) all ∙ ap (is_closed sizes) (joined-more held piece) ∙ unclosed
more-IsOpen sizes held piece are unclosed front (next ∷ behind) e some =
    more-IsOpenBefore sizes held piece are front (next ∷ behind) e some (omega arith)

AreCut-cons : (sizes : Sizes) (group : List (List Sized)) (groups : List (List (List Sized))) → 1 ≤ length group → IsOpenBefore sizes group → is_closed sizes (joined group) ≡ true
    → AreCut sizes groups → AreCut sizes (group ∷ groups)
AreCut-cons sizes group [] some held closed cut = (some, held)
AreCut-cons sizes group (next ∷ groups) some held closed cut = (some, held, closed, cut)

grouped-AreCut_or : (sizes : Sizes) (held : List (List Sized)) (piece : List Sized) (pieces : List (List Sized)) (closed : Bool) → is_closed sizes (joined held ++ piece) ≡ closed
    → IsOpen sizes held → AreCut sizes (grouped sizes [] pieces) → (IsOpen sizes (held ++ piece ∷ []) → AreCut sizes (grouped sizes (held ++ piece ∷ []) pieces))
    → AreCut sizes (grouped sizes held (piece ∷ pieces))
grouped-AreCut_or sizes held piece pieces true closed are afresh on =
    subst (AreCut sizes) (sym (grouped-closed sizes held piece pieces closed))
    (AreCut-cons sizes (held ++ piece ∷ []) (grouped sizes [] pieces) (omega (arith, length-append held (piece ∷ []))) (more-IsOpenBefore sizes held piece are)
    (ap (is_closed sizes) (joined-more held piece) ∙ closed) afresh)
grouped-AreCut_or sizes held piece pieces false unclosed are afresh on =
    subst (AreCut sizes) (sym (grouped-unclosed sizes held piece pieces unclosed)) (on (more-IsOpen sizes held piece are unclosed))

grouped-AreCut : (sizes : Sizes) (held pieces : List (List Sized)) → IsOpen sizes held → AreCut sizes (grouped sizes held pieces)
grouped-AreCut sizes [] [] are = tt
grouped-AreCut sizes (first ∷ held) [] are = (omega arith, λ front behind e some other. are front behind e some)
grouped-AreCut sizes held (piece ∷ pieces) are =
    grouped-AreCut_or sizes held piece pieces (is_closed sizes (joined held ++ piece)) refl are (grouped-AreCut sizes [] pieces (nothing-IsOpen sizes))
    (grouped-AreCut sizes (held ++ piece ∷ []) pieces)

rows_of-map : (groups : List (List (List Sized))) → map rows_of (map joined groups) ≡ map (λ (group : List (List Sized)). rows_of (joined group)) groups
rows_of-map [] = refl
rows_of-map (group ∷ groups) = ap (λ (l : List (List (List Value))). rows_of (joined group) ∷ l) (rows_of-map groups)

-- the blocks of an insert are groups of its pieces
pub blocks_of-IsCut : (sizes : Sizes) (rows : List Sized) → 1 ≤ sizes.max_rows → IsCut sizes rows (blocks_of sizes rows)
blocks_of-IsCut sizes rows some =
    let pieces : List (List Sized) = pieces_of sizes.max_rows rows in
    record {
      groups = grouped sizes [] pieces;
      pieces = joined-grouped sizes [] pieces;
      are = ap (map rows_of) (groups_of-grouped sizes [] pieces (All-nil HasRows) (cut_into-some (length rows) sizes.max_rows rows some)) ∙ rows_of-map (grouped sizes [] pieces);
      cut = grouped-AreCut sizes [] pieces (nothing-IsOpen sizes);
    }
