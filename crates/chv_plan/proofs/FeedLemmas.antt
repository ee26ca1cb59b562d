-- Rows that are written and fed one after the other.
use Rattle.std.proofs.Common.{◌≡◌, ◌≤◌, ◌<◌, ℕ, suc, List, [], ◌∷◌, ◌++◌, length, get_or, drop, Option, Ok, Err, refl, sym, ap, ◌∙◌, arith, length-append}
use Rattle.std.proofs.lemmas.List.{map-append}
use Rattle.chv_ast.specs.declared.expr.Literal.{Literal}
use Rattle.chv_ast.specs.declared.refusal.Refusal.{Refusal}
use Rattle.chv_block.specs.Blocks.{Sized, IsFed, and_block, blocks_of}
use Rattle.chv_block.specs.Spellings.{AreOf, AllAreOf, row_spelling}
use Rattle.chv_block.specs.declared.squasher.Sizes.{Sizes}
use Rattle.chv_block.specs.declared.squasher.Squasher.{Squasher}
use Rattle.chv_types.specs.declared.kind.Kind.{Kind}
use Rattle.chv_types.specs.declared.value.Value.{Value}
use Rattle.chv_query.proofs.JoinLemmas.{AreBlocks-blocks_of, some-blocks_of}
use Rattle.chv_plan.proofs.RowLemmas.{in_front, in_front-none, rows_step, rows_refused, rows_end, AllAreOf-more}
use Rattle.chv_query.specs.Plans.{AreBlocks, row_for, rows_for, sized_rows}

-- of these lists of literals so many wrote rows, which were fed, and these blocks were given
pub record AreWritten (kinds : List Kind) (places : List ℕ) (lists : List (List Literal)) (count : ℕ) (sizes : Sizes) (given : List (List (List Value))) (squasher : Squasher) : Type 0 where
  pub rows : List (List Value)
  pub left : in_front rows (rows_for kinds places (drop count lists)) ≡ rows_for kinds places lists
  pub kinds_fit : AllAreOf kinds rows
  pub counted : length rows ≡ count
  pub fed : IsFed sizes (sized_rows kinds rows) given squasher

-- no row was fed
pub AreWritten-none : (kinds : List Kind) (places : List ℕ) (lists : List (List Literal)) (sizes : Sizes) (given : List (List (List Value))) (squasher : Squasher) → given ≡ [] → IsFed sizes [] [] squasher
    → AreWritten kinds places lists 0 sizes given squasher
AreWritten-none kinds places lists sizes given squasher none fed =
    rw none (record { rows = []; left = in_front-none (rows_for kinds places lists); kinds_fit = tt; counted = refl; fed = fed })

-- what a squasher says of the next row
abbrev pub Feeds : Squasher → List Value → ℕ → Option (List (List Value)) → Squasher → Type 0
Feeds old row bytes block new =
    (sizes : Sizes) (fed : List Sized) (given : List (List (List Value))) → IsFed sizes fed given old → IsFed sizes (fed ++ record { row = row; bytes = bytes } ∷ []) (and_block given block) new

-- the next row is written and fed
pub AreWritten-more : (kinds : List Kind) (places : List ℕ) (lists : List (List Literal)) (count next : ℕ) (sizes : Sizes) (given after : List (List (List Value))) (old new : Squasher)
    (literals : List Literal) (row : List Value) (bytes : ℕ) (block : Option (List (List Value)))
    → AreWritten kinds places lists count sizes given old → count < length lists → literals ≡ get_or lists count literals → row_for kinds places literals ≡ Ok row → AreOf kinds row
    → bytes ≡ length (row_spelling kinds row) → Feeds old row bytes block new → next ≡ suc count → after ≡ and_block given block
    → AreWritten kinds places lists next sizes after new
AreWritten-more kinds places lists count next sizes given after old new literals row bytes block held within is read of long feeds step more = record {
  rows = held.rows ++ row ∷ [];
  left = rows_step kinds places lists held.rows count next literals row within is read step ∙ held.left;
  kinds_fit = AllAreOf-more kinds held.rows row held.kinds_fit of;
  counted = omega (arith, length-append held.rows (row ∷ []), held.counted, step);
  fed =
      rw (more, map-append)
      (rw long at feeds sizes (sized_rows kinds held.rows) given held.fed);
}

-- a row that is refused refuses all
pub AreWritten-refused : (kinds : List Kind) (places : List ℕ) (lists : List (List Literal)) (count : ℕ) (sizes : Sizes) (given : List (List (List Value))) (squasher : Squasher)
    (literals : List Literal) (refusal : Refusal)
    → AreWritten kinds places lists count sizes given squasher → count < length lists → literals ≡ get_or lists count literals → row_for kinds places literals ≡ Err refusal
    → rows_for kinds places lists ≡ Err refusal
AreWritten-refused kinds places lists count sizes given squasher literals refusal held within is read =
    sym held.left ∙ rows_refused kinds places lists held.rows count literals refusal within is read

-- all rows were written, and these are their blocks
pub record AreAll (kinds : List Kind) (places : List ℕ) (lists : List (List Literal)) (sizes : Sizes) (blocks : List (List (List Value))) : Type 0 where
  pub rows : List (List Value)
  pub read : rows_for kinds places lists ≡ Ok rows
  pub is : blocks ≡ blocks_of sizes (sized_rows kinds rows)
  pub each : AreBlocks kinds (length lists) blocks
  pub some : 1 ≤ length lists → 1 ≤ length blocks

-- no row is left
pub AreWritten-all : (kinds : List Kind) (places : List ℕ) (lists : List (List Literal)) (count : ℕ) (sizes : Sizes) (given after : List (List (List Value))) (squasher : Squasher) (block : Option (List (List Value)))
    → AreWritten kinds places lists count sizes given squasher → count ≡ length lists → 1 ≤ sizes.max_rows
    → ((sizes : Sizes) (fed : List Sized) (given : List (List (List Value))) → IsFed sizes fed given squasher → blocks_of sizes fed ≡ and_block given block)
    → after ≡ and_block given block → AreAll kinds places lists sizes after
AreWritten-all kinds places lists count sizes given after squasher block held all whole ends is =
    let same : after ≡ blocks_of sizes (sized_rows kinds held.rows) = is ∙ sym (ends sizes (sized_rows kinds held.rows) given held.fed) in
    record {
      rows = held.rows;
      read = sym held.left ∙ rows_end kinds places lists held.rows count (omega (arith, all));
      is = same;
      each = rw same (AreBlocks-blocks_of kinds sizes held.rows (length lists) whole held.kinds_fit (omega (arith, held.counted, all)));
      some = λ some. omega (arith, ap length same, some-blocks_of kinds sizes held.rows whole (omega (arith, some, held.counted, all)));
    }
