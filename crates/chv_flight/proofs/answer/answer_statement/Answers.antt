-- A view is made, and any other statement is answered by its form.
use Rattle.std.proofs.Common.{Some}
use Rattle.chv_flight.specs.Answers.{statement_wish, view_wish}
use Rattle.chv_flight.proofs.AnswerLemmas.{same_wish}
use Rattle.chv_flight.proofs.KnownLemmas.{known_view}
use Rattle.chv_flight.proofs.answer.answer_statement.Goals as goal

pub returns-in-CreateView-clause-answers : goal.returns-in-CreateView-clause-answers
returns-in-CreateView-clause-answers g c =
    let store = c.args.store.now in
    let asked = c.args.statement in
    same_wish g.W.Site.tells c.args.client (view_wish c.in-CreateView.made) (statement_wish (Some asked)) c.create_view.result store c.create_view.new.store (g.W.Site.outside c.args.site.now) (g.W.Site.outside c.create_view.new.site)
    (λ entries. known_view asked store.schema.catalog entries c.in-CreateView.made c.in-CreateView.is) c.create_view.ensures.answers
