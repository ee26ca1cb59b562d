-- What is held of the paths by the next view is put behind what is held so far.
use Rattle.std.proofs.Common.{rules, ◌≡◌, ◌∙◌, ◌<◌, ◌+◌, ◌++◌, ◌∷◌, [], ℕ, length, ap, subst, sym, arith, length-append}
use Rattle.std.specs.List.{All}
use Rattle.std.proofs.lemmas.List.Elements.{All-append, All-cons, All-nil}
use Rattle.std.proofs.lemmas.Result.{err_from_is_err_and}
use Rattle.chv_catalog.specs.Paths.{links_of}
use Rattle.chv_plan.proofs.BelowLemmas.{AreHeld-empty, IsDone, IsDone-first, IsDone-more, IsDone-next, IsDone-refused, IsDone-skip, held_through, refused-below}
use Rattle.chv_plan.proofs.BoundLemmas.{there_behind, there_first}
use Rattle.chv_plan.proofs.CatalogLemmas.{made_block, none_left, table_within, target_is, view_in}
use Rattle.chv_plan.specs.Bound.{IsThere}
use Rattle.chv_plan.proofs.below.+below.Goals as goal
use Rattle.chv_plan.proofs.below.+below.Goals.{deliveries_below-then-view_def-table+in_ok-more+in_ok-append, deliveries_below-else-view_def-table}

pub deliveries_below-loop-view-init : goal.deliveries_below-loop-view-init
deliveries_below-loop-view-init t c =
    IsDone-first c.args.bound.now.schema.now.catalog c.args.id c.args.path.now c.args.rows.now c.args.room c.args.table c.new-deliveries.result.items (omega (arith, c.if-room-eq0.false)) c.new-deliveries.ensures.items

pub deliveries_below-deliveries_through-requires : goal.deliveries_below-deliveries_through-requires
deliveries_below-deliveries_through-requires t c =
    let bound = c.args.bound.now in
    let views =
    IsDone-next bound.schema.now.catalog c.args.id c.args.path.now c.args.rows.now c.args.room c.args.table c.loop-view.view (c.loop-view.view + 1) c.view_def.result.now c.view_def.ensures (omega arith)
    (All (IsThere bound.views.items)) c.loop-view.deliveries.items c.loop-view.invariant c.if-view_def-table.true c.requires.views in
    (search rules, (c.requires.schema, (c.requires.bound, (views, (c.requires.there, (search rules, (search rules, search rules)))))))

pub deliveries_below-returns-in_err-more-clause-refused : goal.deliveries_below-returns-in_err-more-clause-refused
deliveries_below-returns-in_err-more-clause-refused t c =
    let p = err_from_is_err_and c.from_residual.result c.from_residual.ensures.1 in
    rw p.1 (λ refusal is.
    let refused = c.in_err-more.ensures.refused refusal (sym p.2 ∙ is) in (
      refused.0,
      IsDone-refused c.args.bound.now.schema.now.catalog c.args.id c.args.path.now c.args.rows.now c.args.room c.args.table c.loop-view.view (c.loop-view.view + 1) c.view_def.result.now c.view_def.ensures (omega arith)
          c.loop-view.deliveries.items c.loop-view.invariant c.if-view_def-table.true refused.1,
    ))

pub deliveries_below-loop-view-preserved : goal.deliveries_below-loop-view-preserved
deliveries_below-loop-view-preserved t c =
    elim c.if-view_def-table.branch [
      | deliveries_below-then-view_def-table+in_ok-more+in_ok-append w ↦
          IsDone-more c.args.bound.now.schema.now.catalog c.args.id c.args.path.now c.args.rows.now c.args.room c.args.table c.loop-view.view (c.loop-view.view + 1) c.view_def.result.now c.view_def.ensures (omega arith)
          c.loop-view.deliveries.items w.in_ok-more.more.items c.if-view_def-table.deliveries.items c.loop-view.invariant w.if-view_def-table.true w.in_ok-more.ensures.held (search rules)
      | deliveries_below-else-view_def-table w ↦
          subst (λ deliveries. IsDone c.args.bound.now.schema.now.catalog c.args.id c.args.path.now c.args.rows.now c.args.room c.args.table (c.loop-view.view + 1) deliveries.items) (sym w.deliveries-is)
          (IsDone-skip c.args.bound.now.schema.now.catalog c.args.id c.args.path.now c.args.rows.now c.args.room c.args.table c.loop-view.view (c.loop-view.view + 1) c.view_def.result.now c.view_def.ensures (omega arith)
          c.loop-view.deliveries.items c.loop-view.invariant w.if-view_def-table.false)
    ]

pub deliveries_through-returns-then-len-eq0-clause-held : goal.deliveries_through-returns-then-len-eq0-clause-held
deliveries_through-returns-then-len-eq0-clause-held t c =
    rw c.new.ensures.items
    (AreHeld-empty c.args.bound.now.schema.now.catalog c.args.id c.args.path.now c.args.rows.now c.args.view c.in_ok-made.made c.in_ok-made.ensures.made c.args.room
    (none_left c.in_ok-made.made (sym c.len.ensures ∙ c.if-len-eq0.true)) c.in_ok-made.ensures.sound)

pub deliveries_through-deliveries_below-requires : goal.deliveries_through-deliveries_below-requires
deliveries_through-deliveries_below-requires t c =
    let catalog = c.args.bound.now.schema.now.catalog in
    let path = c.args.path.now in
    let Within = λ (view : ℕ). view < length catalog.views in
    let longer : c.deref.result.now ≡ path ++ c.args.view ∷ [] = c.deref.ensures.value ∙ c.in_ok-path.ensures in
    let more : length c.deref.result.now ≡ length path + 1 = ap length longer ∙ length-append path (c.args.view ∷ []) in
    let there = subst (All Within) (sym longer) (All-append Within path (c.args.view ∷ []) c.requires.there (All-cons Within c.args.view [] c.requires.last (All-nil Within))) in
    let block =
    made_block catalog c.requires.schema c.args.view c.view_def.result.now c.view_def.ensures c.args.rows.now c.in_ok-made.made (c.requires.rows c.view_def.result.now c.view_def.ensures) c.in_ok-made.ensures.made in
    let views =
    there_behind c.args.bound.now.views.items (links_of catalog.views) c.args.room c.args.view c.view_def.result.now.target
    (target_is catalog c.requires.schema c.args.view c.view_def.result.now c.view_def.ensures) c.requires.views in
    (search rules, (c.requires.schema, (c.requires.bound, (views, (there, (omega (arith, more, c.requires.short), block))))))

pub deliveries_through-returns-in_err-below-clause-refused : goal.deliveries_through-returns-in_err-below-clause-refused
deliveries_through-returns-in_err-below-clause-refused t c =
    let catalog = c.args.bound.now.schema.now.catalog in
    let p = err_from_is_err_and c.from_residual-in_err-below.result c.from_residual-in_err-below.ensures.1 in
    rw p.1 (λ refusal is.
    let refused = c.in_err-below.ensures.refused refusal (sym p.2 ∙ is) in (
      refused.0,
      refused-below catalog c.args.id c.args.path.now c.args.rows.now c.args.view c.in_ok-made.made c.in_ok-made.ensures.made c.args.room c.in_ok-made.ensures.sound
          (rw (target_is catalog c.requires.schema c.args.view c.view_def.result.now c.view_def.ensures) refused.1),
    ))

pub deliveries_through-bound_view-requires : goal.deliveries_through-bound_view-requires
deliveries_through-bound_view-requires t c = record { there = there_first c.args.bound.now.views.items (links_of c.args.bound.now.schema.now.catalog.views) c.args.room c.args.view c.requires.views }

pub deliveries_through-made_by-requires-clause-there : goal.deliveries_through-made_by-requires-clause-there
deliveries_through-made_by-requires-clause-there t c = there_first c.args.bound.now.views.items (links_of c.args.bound.now.schema.now.catalog.views) c.args.room c.args.view c.requires.views

pub deliveries_through-delivery_to-requires-clause-first : goal.deliveries_through-delivery_to-requires-clause-first
deliveries_through-delivery_to-requires-clause-first t c = (view_in c.args.bound.now.schema.now.catalog c.requires.schema c.args.view c.view_def.result.now c.view_def.ensures).target_numbered

pub deliveries_through-delivery_to-requires-clause-last : goal.deliveries_through-delivery_to-requires-clause-last
deliveries_through-delivery_to-requires-clause-last t c =
    let catalog = c.args.bound.now.schema.now.catalog in
    let view = view_in catalog c.requires.schema c.args.view c.view_def.result.now c.view_def.ensures in
    table_within catalog c.view_def.result.now.target view.target view.target_numbered view.writes

pub deliveries_through-delivery_to-requires-clause-kinds : goal.deliveries_through-delivery_to-requires-clause-kinds
deliveries_through-delivery_to-requires-clause-kinds t c =
    let catalog = c.args.bound.now.schema.now.catalog in
    (c.requires.bound.are c.args.view c.view_def.result.now c.bound_view.result.now c.view_def.ensures c.bound_view.ensures).kinds

pub deliveries_through-delivery_to-requires-clause-rows : goal.deliveries_through-delivery_to-requires-clause-rows
deliveries_through-delivery_to-requires-clause-rows t c =
    let catalog = c.args.bound.now.schema.now.catalog in
    let bound = c.requires.bound.are c.args.view c.view_def.result.now c.bound_view.result.now c.view_def.ensures c.bound_view.ensures in
    rw bound.kinds
    (made_block catalog c.requires.schema c.args.view c.view_def.result.now c.view_def.ensures c.args.rows.now c.in_ok-made.made (c.requires.rows c.view_def.result.now c.view_def.ensures) c.in_ok-made.ensures.made).kinds_fit

pub deliveries_through-returns-clause-held : goal.deliveries_through-returns-clause-held
deliveries_through-returns-clause-held t c =
    let catalog = c.args.bound.now.schema.now.catalog in
    held_through catalog c.args.id c.args.path.now c.args.rows.now c.args.view c.in_ok-made.made c.in_ok-made.ensures.made c.args.room c.view_def.result.now.target c.deref.result.now c.deref-2.result.now c.id_along-id.result
    c.in_ok-first.first c.in_ok-below.below.items c.in_ok-put_first.field-0.items
    (omega (arith, c.len.ensures, c.if-len-eq0.false)) c.in_ok-made.ensures.sound (target_is catalog c.requires.schema c.args.view c.view_def.result.now c.view_def.ensures)
    (c.deref.ensures.value ∙ c.in_ok-path.ensures) (c.deref-2.ensures.value ∙ c.in_ok-path.ensures) c.id_along-id.ensures c.in_ok-below.ensures.held c.in_ok-first.ensures c.in_ok-put_first.ensures
