-- A table is made; or a CREATE is refused; or memory runs out before anything is done.
use Rattle.std.proofs.Common.{◌≡◌, Ok, Err, subst}
use Rattle.chv_ast.specs.declared.statement.Statement.TheVariants as statement
use Rattle.chv_catalog.specs.declared.schema.Schema.{Schema}
use Rattle.chv_query.specs.Definitions.{defined}
use Rattle.chv_flight.specs.Answers.{create_wish}
use Rattle.chv_flight.proofs.AnswerLemmas.{holds_itself, no_memory_answers, refused_answers}
use Rattle.chv_flight.proofs.CreateLemmas.{create_refused, makes_table}
use Rattle.chv_flight.proofs.KeepLemmas.{keeps_itself}
use Rattle.chv_flight.proofs.create.create.Goals as goal

pub make-requires-clause-makes : goal.make-requires-clause-makes
make-requires-clause-makes g c =
    let store = c.args.store.now in
    let is : defined store.schema.catalog c.args.made.now ≡ Ok c.in-Ok.table.def = subst (λ (schema : Schema). defined schema.catalog c.args.made.now ≡ Ok c.in-Ok.table.def) c.schema.ensures c.in-Ok.ensures.defined in
    (statement.CreateTable c.args.made.now, makes_table store.schema.catalog c.args.made.now c.in-Ok.table.def c.requires.formed is, c.in-Ok.ensures.text)

pub returns-in-Ok-clause-answers : goal.returns-in-Ok-clause-answers
returns-in-Ok-clause-answers g c =
    let store = c.args.store.now in
    let is : defined store.schema.catalog c.args.made.now ≡ Ok c.in-Ok.table.def = subst (λ (schema : Schema). defined schema.catalog c.args.made.now ≡ Ok c.in-Ok.table.def) c.schema.ensures c.in-Ok.ensures.defined in
    c.make.ensures.answers c.args.made.now (makes_table store.schema.catalog c.args.made.now c.in-Ok.table.def c.requires.formed is) (c.in-Ok.ensures.text)

pub returns-in-Err-Refused-clause-answers : goal.returns-in-Err-Refused-clause-answers
returns-in-Err-Refused-clause-answers g c =
    let S = g.W.Site in
    let store = c.args.store.now in
    let refusal = c.in-Err-Refused.refusal in
    let is : defined store.schema.catalog c.args.made.now ≡ Err refusal =
    subst (λ (schema : Schema). defined schema.catalog c.args.made.now ≡ Err refusal) c.schema.ensures (c.in-Err-Refused.ensures.refused refusal c.in-Err-Refused.field-0-is) in
    refused_answers S.tells c.args.client (create_wish c.args.made.now) refusal c.refuse.result store store (S.outside c.args.site.now) (S.outside c.refuse.new.site) c.requires.usable
    (holds_itself store c.requires.usable.within) (create_refused store c.args.made.now refusal is) (rw c.in-Err-Refused.refusal-is at c.refuse.ensures)

pub returns-in-Err-NoMemory-clause-answers : goal.returns-in-Err-NoMemory-clause-answers
returns-in-Err-NoMemory-clause-answers g c =
    let S = g.W.Site in
    let site = c.args.site.now in
    no_memory_answers S.tells c.args.client (create_wish c.args.made.now) c.args.store.now c.args.store.now (S.outside site) c.requires.usable.within (λ tells. g.met.W.Site.only_now site)

pub returns-in-Err-Refused-clause-keeps : goal.returns-in-Err-Refused-clause-keeps
returns-in-Err-Refused-clause-keeps g c = keeps_itself c.refuse.result c.args.store.now
