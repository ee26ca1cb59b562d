-- A text that is no statement is refused, and a statement is taken.
use Rattle.std.proofs.Common.{◌≡◌, Some, None, Option, sym, ap, subst, ◌∙◌}
use Rattle.std.specs.Prelude.{Result}
use Rattle.std.proofs.lemmas.Result.{err_from_is_err_and}
use Rattle.chv_ast.specs.declared.refusal.Refusal.TheVariants.{Syntax}
use Rattle.chv_ast.specs.declared.statement.Statement.{Statement}
use Rattle.chv_lex.proofs.SpelledLaws.{written_is_formed}
use Rattle.chv_parse.specs.StatementTexts.{statement_in}
use Rattle.chv_parse.proofs.TextLaws.{written-statement_in}
use Rattle.chv_flight.specs.Answers.{statement_wish}
use Rattle.chv_flight.specs.Takes.{Takes, with_left}
use Rattle.chv_flight.specs.declared.fault.RunFault.{RunFault}
use Rattle.chv_flight.specs.declared.take.Taken.{Taken}
use Rattle.chv_flight.proofs.AnswerLemmas.{holds_itself}
use Rattle.chv_flight.proofs.TakeLemmas.{nothing_takes, refused_takes}
use Rattle.chv_flight.proofs.take.take.Goals as goal

pub take_statement-requires-clause-formed : goal.take_statement-requires-clause-formed
take_statement-requires-clause-formed g c =
    let text = c.args.text.now in
    written_is_formed text c.in-Some.statement (written-statement_in text c.in-Some.statement (sym c.in_ok-statement.ensures ∙ c.in-Some.is))

pub returns-in-Some : goal.returns-in-Some
returns-in-Some g c =
    let S = g.W.Site in
    let read : Some c.in-Some.statement ≡ statement_in c.args.text.now = sym c.in-Some.is ∙ c.in_ok-statement.ensures in
    subst (λ (s : Option Statement). Takes S.tells c.args.client c.args.clients.now s c.take_statement.result c.args.store.now c.take_statement.new.store (S.outside c.args.site.now) (S.outside c.take_statement.new.site)) read
    c.take_statement.ensures

pub returns-in-None : goal.returns-in-None
returns-in-None g c =
    let S = g.W.Site in
    let store = c.args.store.now in
    let text = c.args.text.now in
    let clients = c.args.clients.now in
    let none : statement_in text ≡ None = sym c.in_ok-statement.ensures ∙ c.in-None.is in
    subst (λ (r : Result Taken RunFault). Takes S.tells c.args.client clients (statement_in text) r store store (S.outside c.args.site.now) (S.outside c.refuse.new.site)) (sym c.told.ensures)
    (refused_takes S.tells c.args.client clients (statement_in text) store Syntax c.refuse.result store (S.outside c.args.site.now) (S.outside c.refuse.new.site) c.requires.usable c.requires.rooms
    (holds_itself store c.requires.usable.within) (λ table count room. room) (λ entries agree. ap (λ (s : Option Statement). statement_wish s store.schema.catalog (with_left clients entries)) none) c.refuse.ensures)

-- where there is no memory, nothing was done
pub returns-in_err-statement : goal.returns-in_err-statement
returns-in_err-statement g c =
    let S = g.W.Site in
    let store = c.args.store.now in
    let p = err_from_is_err_and c.from_residual.result c.from_residual.ensures.1 in
    rw (p.1, p.2)
    (nothing_takes S.tells c.args.client c.args.clients.now (statement_in c.args.text.now) store store (S.outside c.args.site.now) c.requires.usable.within (λ tell. g.met.W.Site.only_now c.args.site.now))
