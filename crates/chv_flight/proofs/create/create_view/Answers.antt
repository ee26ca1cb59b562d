-- A view is made; or a CREATE MATERIALIZED VIEW is refused; or memory runs out before anything is done.
use Rattle.std.proofs.Common.{◌≡◌, Ok, Err, subst}
use Rattle.chv_ast.specs.declared.statement.Statement.TheVariants as statement
use Rattle.chv_catalog.specs.declared.schema.Schema.{Schema}
use Rattle.chv_query.specs.Views.{defined_view}
use Rattle.chv_flight.specs.Answers.{view_wish}
use Rattle.chv_flight.proofs.AnswerLemmas.{holds_itself, no_memory_answers, refused_answers}
use Rattle.chv_flight.proofs.ViewLemmas.{makes_view, view_refused}
use Rattle.chv_flight.proofs.KeepLemmas.{keeps_itself}
use Rattle.chv_flight.proofs.create.create_view.Goals as goal

pub make_view-requires-clause-makes : goal.make_view-requires-clause-makes
make_view-requires-clause-makes g c =
    let store = c.args.store.now in
    let is : defined_view store.schema.catalog c.args.made ≡ Ok c.in-Ok.view.def = subst (λ (schema : Schema). defined_view schema.catalog c.args.made ≡ Ok c.in-Ok.view.def) c.schema.ensures c.in-Ok.ensures.defined in
    (statement.CreateView c.args.made, makes_view store.schema.catalog c.args.made c.in-Ok.view.def c.requires.formed is, c.in-Ok.ensures.text)

pub returns-in-Ok-clause-answers : goal.returns-in-Ok-clause-answers
returns-in-Ok-clause-answers g c =
    let store = c.args.store.now in
    let is : defined_view store.schema.catalog c.args.made ≡ Ok c.in-Ok.view.def = subst (λ (schema : Schema). defined_view schema.catalog c.args.made ≡ Ok c.in-Ok.view.def) c.schema.ensures c.in-Ok.ensures.defined in
    c.make_view.ensures.answers c.args.made (makes_view store.schema.catalog c.args.made c.in-Ok.view.def c.requires.formed is) (c.in-Ok.ensures.text)

pub returns-in-Err-Refused-clause-answers : goal.returns-in-Err-Refused-clause-answers
returns-in-Err-Refused-clause-answers g c =
    let S = g.W.Site in
    let store = c.args.store.now in
    let refusal = c.in-Err-Refused.refusal in
    let is : defined_view store.schema.catalog c.args.made ≡ Err refusal =
    subst (λ (schema : Schema). defined_view schema.catalog c.args.made ≡ Err refusal) c.schema.ensures (c.in-Err-Refused.ensures.refused refusal c.in-Err-Refused.field-0-is) in
    refused_answers S.tells c.args.client (view_wish c.args.made) refusal c.refuse.result store store (S.outside c.args.site.now) (S.outside c.refuse.new.site) c.requires.usable
    (holds_itself store c.requires.usable.within) (view_refused store c.args.made refusal is) (rw c.in-Err-Refused.refusal-is at c.refuse.ensures)

pub returns-in-Err-NoMemory-clause-answers : goal.returns-in-Err-NoMemory-clause-answers
returns-in-Err-NoMemory-clause-answers g c =
    let S = g.W.Site in
    let site = c.args.site.now in
    no_memory_answers S.tells c.args.client (view_wish c.args.made) c.args.store.now c.args.store.now (S.outside site) c.requires.usable.within (λ tells. g.met.W.Site.only_now site)

pub returns-in-Err-Refused-clause-keeps : goal.returns-in-Err-Refused-clause-keeps
returns-in-Err-Refused-clause-keeps g c = keeps_itself c.refuse.result c.args.store.now
