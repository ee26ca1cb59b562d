use Rattle.std.proofs.Common.{◌≡◌, ◌≤◌, length, Ok, Err, ap, sym, ◌∙◌, arith}
use Rattle.std.proofs.lemmas.Result.{err_from_is_err_and}
use Rattle.chv_catalog.specs.Schemas.{kinds_of}
use Rattle.chv_query.specs.Derived.{form_at, form_in}
use Rattle.chv_plan.specs.Places.{filled_places}
use Rattle.chv_query.specs.Plans.{sizes_for}
use Rattle.chv_plan.proofs.CatalogLemmas.{table_within}
use Rattle.chv_plan.proofs.HeldLemmas.{written_blocks}
use Rattle.chv_query.proofs.JoinLemmas.{length-AreBlocks}
use Rattle.chv_plan.proofs.PlanLemmas.{Brings-blocks, divided, sizes_refused_for}
use Rattle.chv_plan.proofs.insert.plan_for.Goals as goal

pub deliveries_of-requires-clause-table : goal.deliveries_of-requires-clause-table
deliveries_of-requires-clause-table c = (c.requires.table.0, table_within c.args.schema.now.catalog c.args.table c.args.def.now c.requires.table.0 c.requires.table.1)

pub deliveries_of-requires-clause-blocks : goal.deliveries_of-requires-clause-blocks
deliveries_of-requires-clause-blocks c =
    let same : c.as_slice-2.result.now ≡ (form_at c.args.schema.now.catalog c.args.table).kinds =
    c.as_slice-2.ensures ∙ c.in_ok-kinds.ensures ∙ sym (ap (λ found. (form_in found).kinds) c.requires.table.1) in
    let blocks = c.in_ok-blocks.ensures.blocks in
    written_blocks (form_at c.args.schema.now.catalog c.args.table) c.as_slice-2.result.now c.as_slice-3.result.now c.as_slice-rows.result.now c.in_ok-sizes.sizes blocks.0 c.in_ok-blocks.blocks.items same
    c.in_ok-sizes.ensures.sizes.1 (omega (arith, ap length c.as_slice-rows.ensures, c.if-len-gt-MAX_ROWS.false, c.len.ensures)) blocks.1 blocks.2 c.in_ok-blocks.ensures.each

pub deliveries_of-requires-clause-few : goal.deliveries_of-requires-clause-few
deliveries_of-requires-clause-few c =
    let count : length c.in_ok-blocks.blocks.items ≤ length c.args.insert.now.rows =
    length-AreBlocks c.as_slice-2.result.now (length c.args.insert.now.rows) c.in_ok-blocks.blocks.items (rw c.as_slice-rows.ensures at c.in_ok-blocks.ensures.each) in
    omega arith

pub returns-clause-planned : goal.returns-clause-planned
returns-clause-planned c =
    let filled : filled_places c.args.def.now.columns c.args.insert.now.columns ≡ Ok c.in_ok-places.places = rw c.as_slice.ensures at c.in_ok-places.ensures.places in
    let kinds_are : c.as_slice-2.result.now ≡ kinds_of c.args.def.now = c.as_slice-2.ensures ∙ c.in_ok-kinds.ensures in
    let blocks = c.in_ok-blocks.ensures.blocks in
    Brings-blocks c.args.schema.now.catalog c.args.table c.args.def.now c.args.insert.now c.as_slice-rows.result.now c.in_ok-places.places c.as_slice-3.result.now c.as_slice-2.result.now
    c.in_ok-sizes.sizes blocks.0 c.in_ok-blocks.blocks.items
    filled c.in_ok-sizes.ensures.sizes.0 (sym c.is_long.ensures ∙ c.if-is_long.false) (omega arith) kinds_are c.as_slice-3.ensures c.as_slice-rows.ensures
    blocks.1 blocks.2 c.in_ok-deliveries.deliveries c.requires.some c.in_ok-blocks.ensures.some c.in_ok-deliveries.ensures.sound
    (rw c.as_slice-2.ensures c.in_ok-deliveries.ensures.held)

pub returns-in_err-deliveries-clause-refused : goal.returns-in_err-deliveries-clause-refused
returns-in_err-deliveries-clause-refused c =
    let p = err_from_is_err_and c.from_residual-in_err-deliveries.result c.from_residual-in_err-deliveries.ensures.1 in
    let filled : filled_places c.args.def.now.columns c.args.insert.now.columns ≡ Ok c.in_ok-places.places = rw c.as_slice.ensures at c.in_ok-places.ensures.places in
    let kinds_are : c.as_slice-2.result.now ≡ kinds_of c.args.def.now = c.as_slice-2.ensures ∙ c.in_ok-kinds.ensures in
    let blocks = c.in_ok-blocks.ensures.blocks in
    rw p.1 (λ refusal is.
    let refused = c.in_err-deliveries.ensures.refused refusal (sym p.2 ∙ is) in
    divided c.args.schema.now.catalog c.args.table c.args.def.now c.args.insert.now c.as_slice-rows.result.now c.in_ok-places.places c.as_slice-3.result.now c.as_slice-2.result.now
    c.in_ok-sizes.sizes blocks.0 c.in_ok-blocks.blocks.items
    filled c.in_ok-sizes.ensures.sizes.0 (sym c.is_long.ensures ∙ c.if-is_long.false) (omega arith) kinds_are c.as_slice-3.ensures c.as_slice-rows.ensures
    blocks.1 blocks.2 refusal refused.0 refused.1)

pub returns-in_err-sizes-clause-refused : goal.returns-in_err-sizes-clause-refused
returns-in_err-sizes-clause-refused c =
    let p = err_from_is_err_and c.from_residual-in_err-sizes.result c.from_residual-in_err-sizes.ensures.1 in
    let filled : filled_places c.args.def.now.columns c.args.insert.now.columns ≡ Ok c.in_ok-places.places = rw c.as_slice.ensures at c.in_ok-places.ensures.places in
    rw p.1 (λ refusal is.
    let refused : sizes_for c.args.insert.now.settings ≡ Err refusal = cc (p.2, is, c.in_err-sizes.ensures.refused) in
    sizes_refused_for c.args.schema.now.catalog c.args.table c.args.def.now c.args.insert.now c.in_ok-places.places refusal filled refused)
