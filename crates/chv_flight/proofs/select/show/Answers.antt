-- The rows are read, and what a query gives over them is said; or the call ends before.
use Rattle.std.proofs.Common.{◌≡◌, ◌-◌, ℕ, Some, slice_get, true, false, Ok, Err, IsErrOf, sym, ap, subst, ◌∙◌}
use Rattle.std.proofs.lemmas.Result.{err_from_is_err_and}
use Rattle.chv_block.proofs.FitLemmas.{rows_fit}
use Rattle.chv_catalog.specs.Schemas.{kinds_of}
use Rattle.chv_catalog.specs.declared.fault.StatementFault.{StatementFault}
use Rattle.chv_select.specs.Answers.{IsAnswer}
use Rattle.chv_table.specs.declared.fault.TableFault.TheVariants.{Failed}
use Rattle.chv_text.specs.Replies.{refused_line}
use Rattle.chv_flight.proofs.ShownLemmas.{query_table, rows_answers, text_refused, text_shown, unread_answers, untold_answers}
use Rattle.chv_flight.proofs.select.show.Goals as goal

pub rows-requires-clause-table : goal.rows-requires-clause-table
rows-requires-clause-table g c =
    let asked = c.requires.prepared in
    query_table c.args.store.now asked.0 c.table.result (c.table.ensures ∙ asked.1.table) asked.2

pub answer-requires : goal.answer-requires
answer-requires g c =
    let asked = c.requires.prepared in
    let same : c.table.result ≡ asked.0.table = c.table.ensures ∙ asked.1.table in
    let stands = subst (λ (n : ℕ). slice_get c.args.store.now.schema.catalog.tables (n - 1) ≡ Some asked.0.def) (sym same) asked.2.stands in
    record { fit = (asked.0, asked.1, rows_fit (kinds_of asked.0.def) c.in_ok-rows.rows (c.in_ok-rows.ensures.kinds asked.0.def stands)) }

pub returns-in_err-rows : goal.returns-in_err-rows
returns-in_err-rows g c = λ query prepared of_store.
    let p = err_from_is_err_and c.from_residual.result c.from_residual.ensures.1 in
    rw (p.1, p.2)
    (unread_answers g.W.Site.tells _ c.args.client query c.table.result c.args.store.now (g.W.Site.outside c.args.site.now) (g.W.Site.outside c.rows.new.site) c.requires.usable (c.table.ensures ∙ prepared.table) of_store
    c.in_err-rows.ensures.keeps c.in_err-rows.field-0.0 (λ same. ap Err same) (λ failed. cc failed) (λ tell damage same. c.in_err-rows.ensures.damaged tell damage (ap Err same)))

pub returns-in_ok-text-in-Ok : goal.returns-in_ok-text-in-Ok
returns-in_ok-text-in-Ok g c = λ query prepared of_store.
    let rows = c.in_ok-rows.rows in
    let answer = c.in-Ok.ensures query prepared in
    rows_answers g.W.Site.tells (IsErrOf (Ok rows) Failed) c.args.client query c.table.result c.args.store.now (g.W.Site.outside c.args.site.now) (g.W.Site.outside c.rows.new.site) c.requires.usable (c.table.ensures ∙ prepared.table) of_store
    c.in_ok-rows.ensures.keeps c.as_slice.result.now false rows c.reply.result (g.W.Site.outside c.reply.new.site) (λ failed. absurd (cc failed)) c.in_ok-rows.ensures.rows c.in_ok-rows.ensures.whole
    (c.as_slice.ensures ∙ c.in_ok-text-in-Ok.ensures query rows answer.2 answer.1 ∙ sym (text_shown c.args.client query rows answer.0)) answer.0 c.reply.ensures

pub returns-in_err-text-in-Ok : goal.returns-in_err-text-in-Ok
returns-in_err-text-in-Ok g c = λ query prepared of_store.
    let p = err_from_is_err_and c.from_residual-in_err-text-in-Ok.result c.from_residual-in_err-text-in-Ok.ensures.1 in
    rw (p.1, p.2)
    (untold_answers g.W.Site.tells _ c.args.client query c.table.result c.args.store.now (g.W.Site.outside c.args.site.now) (g.W.Site.outside c.rows.new.site) c.requires.usable (c.table.ensures ∙ prepared.table) of_store
    c.in_ok-rows.ensures.keeps (λ failed. absurd (cc failed)))

-- a divisor is zero on a row
pub returns-in-Err-Refused : goal.returns-in-Err-Refused
returns-in-Err-Refused g c = λ query prepared of_store.
    let rows = c.in_ok-rows.rows in
    let refusal = c.in-Err-Refused.refusal in
    let answer = subst (λ (fault : StatementFault). IsAnswer query rows (Err fault)) c.in-Err-Refused.field-0-is (c.in-Err-Refused.ensures query prepared) in
    rows_answers g.W.Site.tells _ c.args.client query c.table.result c.args.store.now (g.W.Site.outside c.args.site.now) (g.W.Site.outside c.rows.new.site) c.requires.usable (c.table.ensures ∙ prepared.table) of_store
    c.in_ok-rows.ensures.keeps (refused_line c.args.client refusal) true rows c.refuse.result (g.W.Site.outside c.refuse.new.site) (λ failed. absurd (cc failed)) c.in_ok-rows.ensures.rows c.in_ok-rows.ensures.whole
    (ap (refused_line c.args.client) answer.0 ∙ sym (text_refused c.args.client query rows answer.1)) answer.1 (rw c.in-Err-Refused.refusal-is at c.refuse.ensures)

pub returns-in-Err-NoMemory : goal.returns-in-Err-NoMemory
returns-in-Err-NoMemory g c = λ query prepared of_store.
    untold_answers g.W.Site.tells _ c.args.client query c.table.result c.args.store.now (g.W.Site.outside c.args.site.now) (g.W.Site.outside c.rows.new.site) c.requires.usable (c.table.ensures ∙ prepared.table) of_store
    c.in_ok-rows.ensures.keeps (λ failed. absurd (cc failed))
