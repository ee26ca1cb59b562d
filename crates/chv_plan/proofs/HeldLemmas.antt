-- What is held of blocks, and of what is below them.
use Rattle.std.proofs.Common.{◌≡◌, ◌∙◌, ◌≤◌, ◌+◌, ◌-◌, ℕ, Bool, false, not, List, [], ◌∷◌, ◌++◌, length, map, Option, Ok, refl, sym, ap, subst, arith, append_assoc}
use Rattle.std.specs.List.{All, filter, list_any}
use Rattle.std.proofs.lemmas.List.{append-nil}
use Rattle.std.proofs.lemmas.List.Elements.{All-nil, All-cons, All-head, All-tail}
use Rattle.std.proofs.lemmas.List.Folds.{list_any-append}
use Rattle.chv_ast.specs.declared.expr.Literal.{Literal}
use Rattle.chv_block.specs.Blocks.{blocks_of}
use Rattle.chv_block.specs.Spellings.{AllAreOf, IsSmall}
use Rattle.chv_block.specs.declared.squasher.Sizes.{Sizes}
use Rattle.chv_catalog.specs.Paths.{MAX_PATH, links_of, paths_from, paths_within}
use Rattle.chv_catalog.specs.Schemas.{Catalog}
use Rattle.chv_group.specs.Groups.{is_empty}
use Rattle.chv_part.specs.Books.{MAX_ROWS, TableForm}
use Rattle.chv_part.specs.Parts.{part_file}
use Rattle.chv_query.proofs.ArrivalLemmas.{ArrivesIn}
use Rattle.chv_query.proofs.JoinLemmas.{All-blocks_of}
use Rattle.chv_query.proofs.LiteralRowLemmas.{rows_small}
use Rattle.chv_query.proofs.ViewFits.{SetsWithin-small}
use Rattle.chv_query.specs.Derived.{derived, divides_along, form_at, form_in}
use Rattle.chv_query.specs.Plans.{AreBlocks, Delivery, block_deliveries, deliveries_of, delivery_along, divides_below, rows_for, sized_rows, source_of}
use Rattle.chv_sip.specs.BlockIds.{SourceKey, source_id}
use Rattle.chv_sip.specs.declared.block_id.BlockId.{BlockId}
use Rattle.chv_types.specs.declared.kind.Kind.{Kind}
use Rattle.chv_types.specs.declared.value.Value.{Value}
use Rattle.chv_plan.specs.Below.{AreHeld, HoldsAll, IsBlockOf, IsHeld, deliveries_behind}
use Rattle.chv_plan.specs.Deliveries.{DeliversAll}
use Rattle.chv_plan.specs.declared.delivery.Delivery.{Delivery as Held}
use Rattle.chv_plan.proofs.BelowLemmas.{Holds-along, HoldsAll-append}

-- blocks of small values that are cut of rows are blocks of their table
pub are_blocks : (form : TableForm) (kinds : List Kind) (most : ℕ) (blocks : List (List (List Value))) → kinds ≡ form.kinds → most ≤ MAX_ROWS → All (All (All IsSmall)) blocks → AreBlocks kinds most blocks
    → All (IsBlockOf form) blocks
are_blocks form kinds most [] same few small are = All-nil (IsBlockOf form)
are_blocks form kinds most (block ∷ blocks) same few small are =
    let short : length block ≤ MAX_ROWS = omega (arith, are.2, few) in
    All-cons (IsBlockOf form) block blocks
    (record {
      kinds_fit = subst (λ (k : List Kind). AllAreOf k block) same are.0;
      few = short;
      sets = SetsWithin-small form.kinds block (All-head (All (All IsSmall)) block blocks small) short;
    })
    (are_blocks form kinds (most - length block) blocks same (omega (arith, few)) (All-tail (All (All IsSmall)) block blocks small) are.3)

-- so are the blocks of rows that literals write
pub written_blocks : (form : TableForm) (kinds : List Kind) (places : List ℕ) (lists : List (List Literal)) (sizes : Sizes) (written : List (List Value)) (blocks : List (List (List Value))) → kinds ≡ form.kinds → 1 ≤ sizes.max_rows
    → length lists ≤ MAX_ROWS → rows_for kinds places lists ≡ Ok written → blocks ≡ blocks_of sizes (sized_rows kinds written) → AreBlocks kinds (length lists) blocks → All (IsBlockOf form) blocks
written_blocks form kinds places lists sizes written blocks same whole few read is are =
    are_blocks form kinds (length lists) blocks same few
    (subst (All (All (All IsSmall))) (sym is) (All-blocks_of (All IsSmall) kinds sizes written whole (rows_small kinds places lists written read))) are

module _ (catalog : Catalog) (table : ℕ) where
  same_paths : (paths : List (List ℕ)) → map (λ (path : List ℕ). [] ++ path) paths ≡ paths
  same_paths [] = refl
  same_paths (path ∷ paths) = ap (λ (ps : List (List ℕ)). path ∷ ps) (same_paths paths)

  -- what divides below a table does so on a path from there
  pub divides_there : (block : List (List Value)) (b : Bool) → list_any (divides_along catalog block) (paths_within MAX_PATH (links_of catalog.views) table) ≡ b → divides_below catalog table block ≡ b
  unfolding paths_from
  divides_there block b h = h

  -- what is held of a block is that of its deliveries
  pub held_block : (source : SourceKey) (block : List (List Value)) (id : BlockId) (first : Held) (below : List Held) → id ≡ source_id source
      → IsHeld (form_at catalog table) table id block first → AreHeld catalog id [] block below (paths_within MAX_PATH (links_of catalog.views) table)
      → HoldsAll catalog (first ∷ below) (block_deliveries catalog table source block)
  unfolding paths_from
  held_block source block id first below named holds under =
      let paths = paths_within MAX_PATH (links_of catalog.views) table in
      let same : deliveries_behind catalog table source block [] paths ≡ map (delivery_along catalog table source block) (filter (λ (path : List ℕ). not (is_empty (derived catalog block path))) paths) =
      ap (λ (ps : List (List ℕ)). map (delivery_along catalog table source block) (filter (λ (path : List ℕ). not (is_empty (derived catalog block path))) ps)) (same_paths paths) in (
        Holds-along catalog table table source block block [] id first refl refl (sym named) holds,
        subst (HoldsAll catalog below) same (under.holds table source block refl (sym named)),
      )

  module _ (kinds : List Kind) (token : Option (List ℕ)) where
    -- the deliveries of one block more
    deliveries-more : (from number : ℕ) (blocks : List (List (List Value))) (block : List (List Value)) → number ≡ from + length blocks
        → deliveries_of catalog table kinds token from (blocks ++ block ∷ []) ≡ deliveries_of catalog table kinds token from blocks ++ block_deliveries catalog table (source_of kinds token number block) block
    deliveries-more from number [] block is =
        let same : number ≡ from = omega (arith, is) in
        subst (λ (n : ℕ). deliveries_of catalog table kinds token from (block ∷ []) ≡ block_deliveries catalog table (source_of kinds token n block) block) (sym same)
        (append-nil (block_deliveries catalog table (source_of kinds token from block) block))
    deliveries-more from number (first ∷ blocks) block is =
        let front = block_deliveries catalog table (source_of kinds token from first) first in
        ap (λ (ds : List Delivery). front ++ ds) (deliveries-more (from + 1) number blocks block (omega (arith, is)))
        ∙ sym (append_assoc front (deliveries_of catalog table kinds token (from + 1) blocks) (block_deliveries catalog table (source_of kinds token number block) block))

    -- what is held of one block more
    pub held_more : (number : ℕ) (blocks : List (List (List Value))) (block : List (List Value)) (held more after : List Held) → number ≡ length blocks
        → HoldsAll catalog held (deliveries_of catalog table kinds token 0 blocks) → HoldsAll catalog more (block_deliveries catalog table (source_of kinds token number block) block)
        → after ≡ held ++ more → HoldsAll catalog after (deliveries_of catalog table kinds token 0 (blocks ++ block ∷ []))
    held_more number blocks block held more after is holds one joined =
        rw (joined, deliveries-more 0 number blocks block (omega (arith, is))) (HoldsAll-append catalog held more _ _ holds one)

    -- of a block or more something is held
    pub held_some : (from : ℕ) (blocks : List (List (List Value))) (held : List Held) → 1 ≤ length blocks → HoldsAll catalog held (deliveries_of catalog table kinds token from blocks) → 1 ≤ length held
    held_some from [] held some holds = absurd (omega arith)
    held_some from (block ∷ blocks) [] some holds = absurd holds
    held_some from (block ∷ blocks) (one ∷ held) some holds = omega arith

  -- where none of these divides, and one more does not, none does
  pub sound_more : (blocks : List (List (List Value))) (block : List (List Value)) → list_any (divides_below catalog table) blocks ≡ false → divides_below catalog table block ≡ false
      → list_any (divides_below catalog table) (blocks ++ block ∷ []) ≡ false
  sound_more blocks block none sound = list_any-append (divides_below catalog table) blocks (block ∷ []) ∙ rw (none, sound) refl

-- what is held of deliveries is that of arrivals
pub delivers_all : (catalog : Catalog) (held : List Held) (plan : List Delivery) → All (ArrivesIn catalog) plan → HoldsAll catalog held plan → DeliversAll catalog held plan
delivers_all catalog [] [] arrive holds = tt
delivers_all catalog [] (delivery ∷ plan) arrive holds = holds
delivers_all catalog (one ∷ held) [] arrive holds = holds
delivers_all catalog (one ∷ held) (delivery ∷ plan) arrive holds =
    let arrives = All-head (ArrivesIn catalog) delivery plan arrive in (
      record {
        def = arrives.def;
        stands = arrives.stands;
        numbered = arrives.numbered;
        table = holds.0.table;
        lawful = arrives.arrives;
        id = holds.0.id;
        rows = holds.0.rows;
        encoded = holds.0.encoded ∙ ap (λ found. part_file (form_in found).kinds delivery.entry.rows) arrives.stands;
      },
      delivers_all catalog held plan (All-tail (ArrivesIn catalog) delivery plan arrive) holds.1,
    )
