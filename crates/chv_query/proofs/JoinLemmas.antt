-- The blocks of rows: the rows of each are of the columns' kinds, none is empty, and together they have as many rows.
use Rattle.std.proofs.Common.{◌≡◌, ◌≤◌, ◌-◌, ℕ, List, [], ◌∷◌, ◌++◌, length, refl, sym, ap, subst, ◌∙◌, arith, length-append}
use Rattle.std.specs.List.{All}
use Rattle.std.proofs.lemmas.List.Elements.{All-cons, All-head, All-nil, All-tail}
use Rattle.chv_block.proofs.JoinedLemmas.{joined-blocks_of, blocks_of-some}
use Rattle.chv_block.specs.Blocks.{rows_of, blocks_of, joined}
use Rattle.chv_block.specs.Spellings.{AllAreOf}
use Rattle.chv_block.specs.declared.squasher.Sizes.{Sizes}
use Rattle.chv_types.specs.declared.kind.Kind.{Kind}
use Rattle.chv_types.specs.declared.value.Value.{Value}
use Rattle.chv_query.specs.Plans.{AreBlocks}
use Rattle.chv_query.specs.Plans.{sized_rows}

rows_of-sized_rows : (kinds : List Kind) (rows : List (List Value)) → rows_of (sized_rows kinds rows) ≡ rows
rows_of-sized_rows kinds [] = refl
rows_of-sized_rows kinds (row ∷ rows) = ap (λ (l : List (List Value)). row ∷ l) (rows_of-sized_rows kinds rows)

joined-blocks : (kinds : List Kind) (sizes : Sizes) (rows : List (List Value)) → 1 ≤ sizes.max_rows → joined (blocks_of sizes (sized_rows kinds rows)) ≡ rows
joined-blocks kinds sizes rows some = joined-blocks_of sizes (sized_rows kinds rows) some ∙ rows_of-sized_rows kinds rows

All-split : (P : List Value → Type 0) (rows more : List (List Value)) → All P (rows ++ more) → All P rows × All P more
All-split P [] more all = (All-nil P, all)
All-split P (row ∷ rows) more all =
    let rest = All-split P rows more (All-tail P row (rows ++ more) all) in (All-cons P row rows (All-head P row (rows ++ more) all) rest.0, rest.1)

AllAreOf-split : (kinds : List Kind) (rows more : List (List Value)) → AllAreOf kinds (rows ++ more) → AllAreOf kinds rows × AllAreOf kinds more
AllAreOf-split kinds [] more all = (tt, all)
AllAreOf-split kinds (row ∷ rows) more all = let rest = AllAreOf-split kinds rows more all.1 in ((all.0, rest.0), rest.1)

-- a block has a row or more
abbrev HasRows : List (List Value) → Type 0
HasRows block = 1 ≤ length block

AreBlocks-joined : (kinds : List Kind) (most : ℕ) (blocks : List (List (List Value))) → All HasRows blocks → AllAreOf kinds (joined blocks) → length (joined blocks) ≤ most → AreBlocks kinds most blocks
AreBlocks-joined kinds most [] some all short = tt
AreBlocks-joined kinds most (block ∷ blocks) some all short =
    let parts = AllAreOf-split kinds block (joined blocks) all in
    let long = length-append block (joined blocks) in (
      parts.0,
      All-head HasRows block blocks some,
      omega (arith, short, long),
      AreBlocks-joined kinds (most - length block) blocks (All-tail HasRows block blocks some) parts.1 (omega (arith, short, long)),
    )

-- the blocks of rows have no more rows than these
pub AreBlocks-blocks_of : (kinds : List Kind) (sizes : Sizes) (rows : List (List Value)) (most : ℕ) → 1 ≤ sizes.max_rows → AllAreOf kinds rows → length rows ≤ most
    → AreBlocks kinds most (blocks_of sizes (sized_rows kinds rows))
AreBlocks-blocks_of kinds sizes rows most some all short =
    let same = joined-blocks kinds sizes rows some in
    AreBlocks-joined kinds most (blocks_of sizes (sized_rows kinds rows)) (blocks_of-some sizes (sized_rows kinds rows) some) (rw same all) (omega (arith, short, ap length same))

some-joined : (blocks : List (List (List Value))) → 1 ≤ length (joined blocks) → 1 ≤ length blocks
some-joined [] some = some
some-joined (block ∷ blocks) some = omega arith

-- where there is a row, there is a block
pub some-blocks_of : (kinds : List Kind) (sizes : Sizes) (rows : List (List Value)) → 1 ≤ sizes.max_rows → 1 ≤ length rows → 1 ≤ length (blocks_of sizes (sized_rows kinds rows))
some-blocks_of kinds sizes rows whole some =
    some-joined (blocks_of sizes (sized_rows kinds rows)) (omega (arith, some, ap length (joined-blocks kinds sizes rows whole)))

-- there are no more blocks than rows
pub length-AreBlocks : (kinds : List Kind) (most : ℕ) (blocks : List (List (List Value))) → AreBlocks kinds most blocks → length blocks ≤ most
length-AreBlocks kinds most [] are = omega arith
length-AreBlocks kinds most (block ∷ blocks) are =
    let left = length-AreBlocks kinds (most - length block) blocks are.3 in
    omega (arith, left, are.1, are.2)

-- what holds of blocks for fewer rows holds for more
pub AreBlocks-more : (kinds : List Kind) (few most : ℕ) (blocks : List (List (List Value))) → few ≤ most → AreBlocks kinds few blocks → AreBlocks kinds most blocks
AreBlocks-more kinds few most [] more are = tt
AreBlocks-more kinds few most (block ∷ blocks) more are =
    (are.0, are.1, omega (arith, are.2, more), AreBlocks-more kinds (few - length block) (most - length block) blocks (omega (arith, more)) are.3)

All-joined : (P : List Value → Type 0) (blocks : List (List (List Value))) → All P (joined blocks) → All (All P) blocks
All-joined P [] all = All-nil (All P)
All-joined P (block ∷ blocks) all =
    let parts = All-split P block (joined blocks) all in
    All-cons (All P) block blocks parts.0 (All-joined P blocks parts.1)

-- what holds of all rows holds of those of each block
pub All-blocks_of : (P : List Value → Type 0) (kinds : List Kind) (sizes : Sizes) (rows : List (List Value)) → 1 ≤ sizes.max_rows → All P rows → All (All P) (blocks_of sizes (sized_rows kinds rows))
All-blocks_of P kinds sizes rows some all = All-joined P (blocks_of sizes (sized_rows kinds rows)) (subst (All P) (sym (joined-blocks kinds sizes rows some)) all)
