use Rattle.std.proofs.Common.{◌≡◌, Ok, Err, sym, ◌∙◌, arith}
use Rattle.std.proofs.lemmas.Result.{err_from_is_err_and}
use Rattle.chv_query.specs.Plans.{row_for}
use Rattle.chv_plan.proofs.FeedLemmas.{AreAll, AreWritten-more, AreWritten-refused, AreWritten-all}
use Rattle.chv_plan.proofs.insert.blocks_for.Goals as goal

pub loop-literals-preserved : goal.loop-literals-preserved
loop-literals-preserved c =
    let read : row_for c.args.kinds.now c.args.places.now c.literals-item.result ≡ Ok c.in_ok-row.row = cc (c.in_ok-row.ensures.row, c.as_slice.ensures) in
    AreWritten-more c.args.kinds.now c.args.places.now c.args.rows.now c.loop-literals.literals-index _ c.args.sizes c.loop-literals.blocks.items c.put_block.new.blocks.items
    c.loop-literals.squasher c.feed.new.self c.literals-item.result c.in_ok-row.row c.row_size-size.result c.in_ok-feed.field-0
    c.loop-literals.invariant c.loop-literals-test.true c.literals-item.is read c.in_ok-row.ensures.kinds c.row_size-size.ensures c.in_ok-feed.ensures.fed (omega arith) c.in_ok-put_block.ensures

pub returns-in_err-row-clause-refused : goal.returns-in_err-row-clause-refused
returns-in_err-row-clause-refused c =
    let p = err_from_is_err_and c.from_residual.result c.from_residual.ensures.1 in
    rw p.1 (λ refusal is.
    let refused : row_for c.args.kinds.now c.args.places.now c.literals-item.result ≡ Err refusal = rw c.as_slice.ensures at (c.in_err-row.ensures.refused refusal (sym p.2 ∙ is)) in
    AreWritten-refused c.args.kinds.now c.args.places.now c.args.rows.now c.loop-literals.literals-index c.args.sizes c.loop-literals.blocks.items c.loop-literals.squasher c.literals-item.result refusal
    c.loop-literals.invariant c.loop-literals-test.true c.literals-item.is refused)

pub returns : goal.returns
returns c =
    let all : AreAll c.args.kinds.now c.args.places.now c.args.rows.now c.args.sizes c.put_block-2.new.blocks.items =
    AreWritten-all c.args.kinds.now c.args.places.now c.args.rows.now c.loop-literals.literals-index c.args.sizes c.loop-literals.blocks.items c.put_block-2.new.blocks.items
    c.loop-literals.squasher c.finish.result c.loop-literals.invariant (omega (arith, c.loop-literals.auto.literals-index-end)) c.requires.sizes c.finish.ensures.finished c.in_ok-put_block-2.ensures in
    record { blocks = (all.rows, all.read, all.is); each = all.each; some = all.some; refused = tt }
