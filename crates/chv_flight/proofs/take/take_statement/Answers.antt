-- An INSERT is planned, and any other statement is answered.
use Rattle.std.proofs.Common.{◌≡◌, Some, Option, sym, ap, subst}
use Rattle.std.specs.Prelude.{Result}
use Rattle.chv_ast.specs.declared.statement.Insert.{Insert}
use Rattle.chv_ast.specs.declared.statement.Statement.{Statement}
use Rattle.chv_ast.specs.declared.statement.Statement.TheVariants as statement
use Rattle.chv_flight.specs.Takes.{Takes}
use Rattle.chv_flight.specs.declared.fault.RunFault.{RunFault}
use Rattle.chv_flight.specs.declared.take.Taken.{Taken}
use Rattle.chv_flight.proofs.TakeLemmas.{plain_takes}
use Rattle.chv_flight.proofs.TaskLemmas.{IsNoInsert}
use Rattle.chv_flight.proofs.take.take_statement.Goals as goal

pub returns-in-Insert : goal.returns-in-Insert
returns-in-Insert g c =
    let S = g.W.Site in
    subst (λ (s : Statement). Takes S.tells c.args.client c.args.clients.now (Some s) c.take_insert.result c.args.store.now c.take_insert.new.store (S.outside c.args.site.now) (S.outside c.take_insert.new.site)) (sym c.in-Insert.is)
    c.take_insert.ensures

pub returns-in_default : goal.returns-in_default
returns-in_default g c =
    let S = g.W.Site in
    let store = c.args.store.now in
    let asked = c.args.statement in
    let none : IsNoInsert (Some asked) = λ brought is. c.in_default.not-Insert brought (cc is) in
    subst (λ (r : Result Taken RunFault). Takes S.tells c.args.client c.args.clients.now (Some asked) r store c.answer_statement.new.store (S.outside c.args.site.now) (S.outside c.answer_statement.new.site)) (sym c.told.ensures)
    (plain_takes S.tells c.args.client c.args.clients.now (Some asked) store c.answer_statement.result c.answer_statement.new.store (S.outside c.args.site.now) (S.outside c.answer_statement.new.site) c.requires.usable c.requires.rooms none
    c.answer_statement.ensures.keeps c.answer_statement.ensures.answers)
