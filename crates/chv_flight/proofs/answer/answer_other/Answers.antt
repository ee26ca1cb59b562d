-- A statement is answered by its form, where it is built.
use Rattle.std.proofs.Common.{List, ℕ, Some, sym, ap, ◌∙◌}
use Rattle.chv_ast.specs.declared.refusal.Refusal.TheVariants.{NotBuilt}
use Rattle.chv_flight.specs.Answers.{create_wish, parts_wish, query_wish, statement_wish}
use Rattle.chv_flight.proofs.AnswerLemmas.{holds_itself, refused_answers, same_wish}
use Rattle.chv_flight.proofs.KeepLemmas.{keeps_itself}
use Rattle.chv_flight.proofs.KnownLemmas.{known_create, known_parts, known_query, known_unbuilt, unbuilt_form}
use Rattle.chv_flight.proofs.answer.answer_other.Goals as goal

pub returns-in-CreateTable-clause-answers : goal.returns-in-CreateTable-clause-answers
returns-in-CreateTable-clause-answers g c =
    let store = c.args.store.now in
    let asked = c.args.statement.now in
    same_wish g.W.Site.tells c.args.client (create_wish c.in-CreateTable.made) (statement_wish (Some asked)) c.create.result store c.create.new.store (g.W.Site.outside c.args.site.now) (g.W.Site.outside c.create.new.site)
    (λ entries. known_create asked store.schema.catalog entries _ c.in-CreateTable.is) c.create.ensures.answers

pub returns-in-Query-clause-answers : goal.returns-in-Query-clause-answers
returns-in-Query-clause-answers g c =
    let store = c.args.store.now in
    let asked = c.args.statement.now in
    same_wish g.W.Site.tells c.args.client (query_wish c.in-Query.asked) (statement_wish (Some asked)) c.select.result store store (g.W.Site.outside c.args.site.now) (g.W.Site.outside c.select.new.site)
    (λ entries. known_query asked store.schema.catalog entries _ c.in-Query.is) c.select.ensures

pub returns-in-ShowParts-clause-answers : goal.returns-in-ShowParts-clause-answers
returns-in-ShowParts-clause-answers g c =
    let store = c.args.store.now in
    let asked = c.args.statement.now in
    same_wish g.W.Site.tells c.args.client (parts_wish c.as_slice.result.now) (statement_wish (Some asked)) c.show_parts.result store store (g.W.Site.outside c.args.site.now) (g.W.Site.outside c.show_parts.new.site)
    (λ entries.
    ap (λ (name : List ℕ). parts_wish name store.schema.catalog entries) c.as_slice.ensures
    ∙ known_parts asked store.schema.catalog entries _ c.in-ShowParts.is) c.show_parts.ensures

pub returns-in_default-clause-answers : goal.returns-in_default-clause-answers
returns-in_default-clause-answers g c =
    let store = c.args.store.now in
    let asked = c.args.statement.now in
    let unbuilt = unbuilt_form asked c.in_default.not-CreateTable c.requires.other c.requires.alone c.in_default.not-Query c.in_default.not-ShowParts in
    refused_answers g.W.Site.tells c.args.client (statement_wish (Some asked)) NotBuilt c.refuse.result store store (g.W.Site.outside c.args.site.now) (g.W.Site.outside c.refuse.new.site) c.requires.usable
    (holds_itself store c.requires.usable.within) (λ entries agree. known_unbuilt asked store.schema.catalog entries unbuilt) c.refuse.ensures

-- what makes no table keeps the store as it was
pub returns-in-Query-clause-keeps : goal.returns-in-Query-clause-keeps
returns-in-Query-clause-keeps g c = keeps_itself c.select.result c.args.store.now

pub returns-in-ShowParts-clause-keeps : goal.returns-in-ShowParts-clause-keeps
returns-in-ShowParts-clause-keeps g c = keeps_itself c.show_parts.result c.args.store.now

pub returns-in_default-clause-keeps : goal.returns-in_default-clause-keeps
returns-in_default-clause-keeps g c = keeps_itself c.refuse.result c.args.store.now
