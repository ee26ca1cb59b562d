-- Rows cut into pieces, pieces joined into groups, and what a squasher holds of them.
use Rattle.std.proofs.Common.{◌≡◌, ℕ, suc, zero, ◌+◌, ◌-◌, ◌<◌, ◌≤◌, ◌^◌, min, Bool, true, false, if◌then◌else◌, List, [], ◌∷◌, ◌++◌, length, map, take, drop, refl, sym, ap, ap₂, ◌∙◌, arith, append_assoc, append-nil, length-append, length-drop}
use Rattle.std.proofs.lemmas.List.{take_at, drop_at, take_all, drop_all, map-append, length-map}
use Rattle.chv_types.specs.declared.value.Value.{Value}
use Rattle.chv_block.specs.Blocks.{Sized, cut_into, pieces_of, is_closed, groups_of, rows_of, bytes_in, blocks_of, blocks_behind, IsFed}
use Rattle.chv_block.specs.declared.squasher.Sizes.{Sizes}
use Rattle.chv_block.specs.declared.squasher.Squasher.{Squasher}

-- rows are cut the same way wherever there may be as many pieces as rows
cut_into-enough : (m n size : ℕ) (rows : List Sized) → 1 ≤ size → length rows ≤ m → length rows ≤ n → cut_into m size rows ≡ cut_into n size rows
cut_into-enough zero zero size rows some h k = refl
cut_into-enough zero (suc n) size [] some h k = refl
cut_into-enough zero (suc n) size (row ∷ rows) some h k = absurd (omega (arith, h))
cut_into-enough (suc m) zero size [] some h k = refl
cut_into-enough (suc m) zero size (row ∷ rows) some h k = absurd (omega (arith, k))
cut_into-enough (suc m) (suc n) size [] some h k = refl
cut_into-enough (suc m) (suc n) size (row ∷ rows) some h k =
    let left = length-drop size (row ∷ rows) in
    ap (λ (l : List (List Sized)). take size (row ∷ rows) ∷ l) (cut_into-enough m n size (drop size (row ∷ rows)) some (omega (arith, h, left)) (omega (arith, k, left)))

-- a whole piece in front is the first piece
pieces_of-whole : (size : ℕ) (piece more : List Sized) → 1 ≤ size → length piece ≡ size → pieces_of size (piece ++ more) ≡ piece ∷ pieces_of size more
pieces_of-whole size [] more some whole = absurd (omega (arith, some, whole))
pieces_of-whole size (row ∷ rows) more some whole =
    ap₂ (λ (first : List Sized) (rest : List (List Sized)). first ∷ rest) (take_at (row ∷ rows) more size whole)
    (ap (cut_into (length (rows ++ more)) size) (drop_at (row ∷ rows) more size whole)
    ∙ cut_into-enough (length (rows ++ more)) (length more) size more some (omega (arith, length-append rows more)) (omega arith))

-- no rows are cut into no pieces
cut_into-none : (count size : ℕ) (rows : List Sized) → rows ≡ [] → cut_into count size rows ≡ []
cut_into-none zero size rows none = refl
cut_into-none (suc count) size rows none = rw none refl

-- rows that are not more than a piece has are one piece
pieces_of-short : (size : ℕ) (row : Sized) (rows : List Sized) → length (row ∷ rows) ≤ size → pieces_of size (row ∷ rows) ≡ (row ∷ rows) ∷ []
pieces_of-short size row rows short =
    ap₂ (λ (first : List Sized) (rest : List (List Sized)). first ∷ rest) (take_all size (row ∷ rows) short)
    (cut_into-none (length rows) size (drop size (row ∷ rows)) (drop_all size (row ∷ rows) short))

-- a group that a piece closes
pub groups_of-closed : (sizes : Sizes) (group piece : List Sized) (pieces : List (List Sized)) → is_closed sizes (group ++ piece) ≡ true
    → groups_of sizes group (piece ∷ pieces) ≡ (group ++ piece) ∷ groups_of sizes [] pieces
groups_of-closed sizes [] piece pieces closed = rw closed refl
groups_of-closed sizes (row ∷ group) piece pieces closed = rw closed refl

-- a group that a piece leaves open
pub groups_of-unclosed : (sizes : Sizes) (group piece : List Sized) (pieces : List (List Sized)) → is_closed sizes (group ++ piece) ≡ false
    → groups_of sizes group (piece ∷ pieces) ≡ groups_of sizes (group ++ piece) pieces
groups_of-unclosed sizes [] piece pieces unclosed = rw unclosed refl
groups_of-unclosed sizes (row ∷ group) piece pieces unclosed = rw unclosed refl

either : {A : Type 0} (b : Bool) (x : A) → (if b then x else x) ≡ x
either true x = refl
either false x = refl

-- the last piece ends the last group, whether it closes the group or not
groups_of-last : (sizes : Sizes) (group piece : List Sized) (row : Sized) → groups_of sizes group ((row ∷ piece) ∷ []) ≡ (group ++ (row ∷ piece)) ∷ []
groups_of-last sizes [] piece row = either (is_closed sizes (row ∷ piece)) ((row ∷ piece) ∷ [])
groups_of-last sizes (first ∷ group) piece row = either (is_closed sizes (first ∷ (group ++ row ∷ piece))) ((first ∷ (group ++ row ∷ piece)) ∷ [])

-- what is to come behind a whole piece that closes its group
pub blocks_behind-closed : (sizes : Sizes) (group piece more : List Sized) → 1 ≤ sizes.max_rows → length piece ≡ sizes.max_rows → is_closed sizes (group ++ piece) ≡ true
    → blocks_behind sizes group piece more ≡ rows_of (group ++ piece) ∷ blocks_behind sizes [] [] more
blocks_behind-closed sizes group piece more some whole closed =
    ap (λ (pieces : List (List Sized)). map rows_of (groups_of sizes group pieces)) (pieces_of-whole sizes.max_rows piece more some whole)
    ∙ ap (map rows_of) (groups_of-closed sizes group piece (pieces_of sizes.max_rows more) closed)

-- and behind one that leaves its group open
pub blocks_behind-unclosed : (sizes : Sizes) (group piece more : List Sized) → 1 ≤ sizes.max_rows → length piece ≡ sizes.max_rows → is_closed sizes (group ++ piece) ≡ false
    → blocks_behind sizes group piece more ≡ blocks_behind sizes (group ++ piece) [] more
blocks_behind-unclosed sizes group piece more some whole unclosed =
    ap (λ (pieces : List (List Sized)). map rows_of (groups_of sizes group pieces)) (pieces_of-whole sizes.max_rows piece more some whole)
    ∙ ap (map rows_of) (groups_of-unclosed sizes group piece (pieces_of sizes.max_rows more) unclosed)

-- what is to come where no row follows: a block of the rows that are left
pub blocks_behind-rest : (sizes : Sizes) (group piece : List Sized) → length piece ≤ sizes.max_rows → 0 < length (group ++ piece)
    → blocks_behind sizes group piece [] ≡ rows_of (group ++ piece) ∷ []
blocks_behind-rest sizes [] [] short some = absurd (omega (arith, some))
blocks_behind-rest sizes (row ∷ group) [] short some = ap (λ (l : List Sized). rows_of l ∷ []) (sym (append-nil (row ∷ group)))
blocks_behind-rest sizes group (row ∷ piece) short some =
    ap (λ (rows : List Sized). map rows_of (groups_of sizes group (pieces_of sizes.max_rows rows))) (append-nil (row ∷ piece))
    ∙ ap (λ (pieces : List (List Sized)). map rows_of (groups_of sizes group pieces)) (pieces_of-short sizes.max_rows row piece short)
    ∙ ap (map rows_of) (groups_of-last sizes group piece row)

-- and nothing where none are left
pub blocks_behind-none : (sizes : Sizes) (group piece : List Sized) → length (group ++ piece) ≡ 0 → blocks_behind sizes group piece [] ≡ []
blocks_behind-none sizes [] [] none = refl
blocks_behind-none sizes [] (row ∷ piece) none = absurd (omega (arith, none))
blocks_behind-none sizes (row ∷ group) piece none = absurd (omega (arith, none))

-- the bytes of rows with one more behind them
bytes_in-more : (rows : List Sized) (row : Sized) → bytes_in (rows ++ row ∷ []) ≡ bytes_in rows + row.bytes
bytes_in-more [] row = omega arith
bytes_in-more (first ∷ rows) row = omega (arith, bytes_in-more rows row)

-- what is held of rows that were fed, of which the last ones are an open group and a piece behind it
pub record Holds (sizes : Sizes) (fed : List Sized) (given : List (List (List Value))) (group piece : List Sized) (rows : List (List Value)) (bytes : ℕ) : Type 0 where
  pub rows_are : rows ≡ rows_of (group ++ piece)
  pub bytes_are : bytes ≡ min (bytes_in (group ++ piece)) (2 ^ 64 - 1)
  pub goes_on : (more : List Sized) → blocks_of sizes (fed ++ more) ≡ given ++ blocks_behind sizes group piece more

-- a row more, in the piece
pub row_more : (sizes : Sizes) (fed : List Sized) (given : List (List (List Value))) (old : Squasher) (row : Sized) (rows : List (List Value)) (bytes : ℕ) (held : IsFed sizes fed given old)
    → rows ≡ old.rows ++ row.row ∷ [] → bytes ≡ min (old.bytes + row.bytes) (2 ^ 64 - 1) → Holds sizes (fed ++ row ∷ []) given held.group (held.piece ++ row ∷ []) rows bytes
row_more sizes fed given old row rows bytes held rows_are bytes_are =
    let behind : held.group ++ (held.piece ++ row ∷ []) ≡ (held.group ++ held.piece) ++ row ∷ [] = sym (append_assoc held.group held.piece (row ∷ [])) in
    record {
      rows_are = rows_are ∙ ap (λ (l : List (List Value)). l ++ row.row ∷ []) held.rows ∙ sym (ap rows_of behind ∙ map-append (λ (s : Sized). s.row) (held.group ++ held.piece) (row ∷ []));
      bytes_are = omega (arith, bytes_are, held.bytes, ap bytes_in behind, bytes_in-more (held.group ++ held.piece) row);
      goes_on = λ more.
          ap (blocks_of sizes) (append_assoc fed (row ∷ []) more) ∙ held.goes_on (row ∷ more)
          ∙ ap (λ (l : List Sized). given ++ map rows_of (groups_of sizes held.group (pieces_of sizes.max_rows l))) (sym (append_assoc held.piece (row ∷ []) more));
    }

-- the row leaves the piece short
pub IsFed-short : (sizes : Sizes) (fed : List Sized) (given : List (List (List Value))) (old new : Squasher) (row : Sized) → IsFed sizes fed given old
    → new.sizes ≡ old.sizes → new.rows ≡ old.rows ++ row.row ∷ [] → new.bytes ≡ min (old.bytes + row.bytes) (2 ^ 64 - 1) → new.in_piece ≡ old.in_piece + 1
    → new.in_piece < old.sizes.max_rows → IsFed sizes (fed ++ row ∷ []) given new
IsFed-short sizes fed given old new row held same rows bytes in_piece short =
    let more = row_more sizes fed given old row new.rows new.bytes held rows bytes in
    let long = length-append held.piece (row ∷ []) in
    record {
      sizes_are = same ∙ held.sizes_are;
      group = held.group;
      piece = held.piece ++ row ∷ [];
      short = omega (arith, long, held.in_piece, in_piece, short, ap (λ (s : Sizes). s.max_rows) held.sizes_are);
      in_piece = omega (arith, long, held.in_piece, in_piece);
      rows = more.rows_are;
      bytes = more.bytes_are;
      goes_on = more.goes_on;
    }

-- the row makes the piece whole
whole_with : (sizes : Sizes) (fed : List Sized) (given : List (List (List Value))) (old : Squasher) (row : Sized) (held : IsFed sizes fed given old)
    → old.sizes.max_rows ≤ old.in_piece + 1 → (1 ≤ sizes.max_rows) × (length (held.piece ++ row ∷ []) ≡ sizes.max_rows)
whole_with sizes fed given old row held whole =
    let long = length-append held.piece (row ∷ []) in
    let max = ap (λ (s : Sizes). s.max_rows) held.sizes_are in
    (omega (arith, held.short), omega (arith, long, held.short, held.in_piece, whole, max))

-- the row makes the piece whole, and the group stays open
pub IsFed-unclosed : (sizes : Sizes) (fed : List Sized) (given : List (List (List Value))) (old new : Squasher) (row : Sized) (closed : Bool) → IsFed sizes fed given old
    → new.sizes ≡ old.sizes → new.rows ≡ old.rows ++ row.row ∷ [] → new.bytes ≡ min (old.bytes + row.bytes) (2 ^ 64 - 1) → new.in_piece ≡ 0
    → old.sizes.max_rows ≤ old.in_piece + 1
    → ((group : List Sized) → new.rows ≡ rows_of group → new.bytes ≡ min (bytes_in group) (2 ^ 64 - 1) → closed ≡ is_closed old.sizes group) → closed ≡ false
    → IsFed sizes (fed ++ row ∷ []) given new
IsFed-unclosed sizes fed given old new row closed held same rows bytes in_piece whole decides unclosed =
    let more = row_more sizes fed given old row new.rows new.bytes held rows bytes in
    let is_whole = whole_with sizes fed given old row held whole in
    let group : List Sized = held.group ++ (held.piece ++ row ∷ []) in
    let open_still : is_closed sizes group ≡ false =
    ap (λ (s : Sizes). is_closed s group) (sym held.sizes_are) ∙ sym (decides group more.rows_are more.bytes_are) ∙ unclosed in
    record {
      sizes_are = same ∙ held.sizes_are;
      group = group;
      piece = [];
      short = omega (arith, is_whole.0);
      in_piece = in_piece;
      rows = more.rows_are ∙ ap rows_of (sym (append-nil group));
      bytes = more.bytes_are ∙ ap (λ (l : List Sized). min (bytes_in l) (2 ^ 64 - 1)) (sym (append-nil group));
      goes_on = λ behind.
          more.goes_on behind ∙ ap (λ (l : List (List (List Value))). given ++ l) (blocks_behind-unclosed sizes held.group (held.piece ++ row ∷ []) behind is_whole.0 is_whole.1 open_still);
    }

-- the row makes the piece whole, and the group is closed
pub IsFed-closed : (sizes : Sizes) (fed : List Sized) (given : List (List (List Value))) (old new : Squasher) (row : Sized) (rows : List (List Value)) (bytes : ℕ) (closed : Bool) → IsFed sizes fed given old
    → rows ≡ old.rows ++ row.row ∷ [] → bytes ≡ min (old.bytes + row.bytes) (2 ^ 64 - 1) → old.sizes.max_rows ≤ old.in_piece + 1
    → ((group : List Sized) → rows ≡ rows_of group → bytes ≡ min (bytes_in group) (2 ^ 64 - 1) → closed ≡ is_closed old.sizes group) → closed ≡ true
    → new.sizes ≡ old.sizes → new.rows ≡ [] → new.bytes ≡ 0 → new.in_piece ≡ 0
    → IsFed sizes (fed ++ row ∷ []) (given ++ rows ∷ []) new
IsFed-closed sizes fed given old new row rows bytes closed held rows_are bytes_are whole decides is same no_rows no_bytes in_piece =
    let more = row_more sizes fed given old row rows bytes held rows_are bytes_are in
    let is_whole = whole_with sizes fed given old row held whole in
    let group : List Sized = held.group ++ (held.piece ++ row ∷ []) in
    let closed_now : is_closed sizes group ≡ true =
    ap (λ (s : Sizes). is_closed s group) (sym held.sizes_are) ∙ sym (decides group more.rows_are more.bytes_are) ∙ is in
    record {
      sizes_are = same ∙ held.sizes_are;
      group = [];
      piece = [];
      short = omega (arith, is_whole.0);
      in_piece = in_piece;
      rows = no_rows;
      bytes = omega (arith, no_bytes);
      goes_on = λ behind.
          more.goes_on behind
          ∙ ap (λ (l : List (List (List Value))). given ++ l)
          (blocks_behind-closed sizes held.group (held.piece ++ row ∷ []) behind is_whole.0 is_whole.1 closed_now
          ∙ ap (λ (l : List (List Value)). l ∷ blocks_behind sizes [] [] behind) (sym more.rows_are))
          ∙ sym (append_assoc given (rows ∷ []) (blocks_behind sizes [] [] behind));
    }

-- no row follows
pub IsFed-rest : (sizes : Sizes) (fed : List Sized) (given : List (List (List Value))) (squasher : Squasher) → IsFed sizes fed given squasher → 0 < length squasher.rows
    → blocks_of sizes fed ≡ given ++ squasher.rows ∷ []
IsFed-rest sizes fed given squasher held some =
    let long : length squasher.rows ≡ length (held.group ++ held.piece) = ap length held.rows ∙ length-map (held.group ++ held.piece) (λ (s : Sized). s.row) in
    ap (blocks_of sizes) (sym (append-nil fed)) ∙ held.goes_on []
    ∙ ap (λ (l : List (List (List Value))). given ++ l)
    (blocks_behind-rest sizes held.group held.piece (omega (arith, held.short)) (omega (arith, some, long)) ∙ ap (λ (l : List (List Value)). l ∷ []) (sym held.rows))

pub IsFed-none : (sizes : Sizes) (fed : List Sized) (given : List (List (List Value))) (squasher : Squasher) → IsFed sizes fed given squasher → length squasher.rows ≡ 0
    → blocks_of sizes fed ≡ given
IsFed-none sizes fed given squasher held none =
    let long : length squasher.rows ≡ length (held.group ++ held.piece) = ap length held.rows ∙ length-map (held.group ++ held.piece) (λ (s : Sized). s.row) in
    ap (blocks_of sizes) (sym (append-nil fed)) ∙ held.goes_on []
    ∙ ap (λ (l : List (List (List Value))). given ++ l) (blocks_behind-none sizes held.group held.piece (omega (arith, none, long))) ∙ append-nil given
