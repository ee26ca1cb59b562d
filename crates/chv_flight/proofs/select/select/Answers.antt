-- The query that is prepared is answered, or a check refuses it.
use Rattle.std.proofs.Common.{◌≡◌, Ok, Err, sym, ap, subst}
use Rattle.std.specs.Prelude.{Result}
use Rattle.chv_ast.specs.declared.refusal.Refusal.{Refusal}
use Rattle.chv_catalog.specs.declared.fault.StatementFault.{StatementFault}
use Rattle.chv_catalog.specs.declared.schema.Schema.{Schema}
use Rattle.chv_query.specs.Bound.{AnswersAs}
use Rattle.chv_query.specs.Queries.{Asked, asked_select}
use Rattle.chv_select.specs.Answers.{IsPrepared}
use Rattle.chv_types.specs.Steps.{and_then}
use Rattle.chv_history.specs.Tasks.{TellRows}
use Rattle.chv_flight.specs.Answers.{query_wish}
use Rattle.chv_flight.proofs.AnswerLemmas.{holds_itself, no_memory_answers, refused_answers, same_wish}
use Rattle.chv_flight.proofs.ShownLemmas.{asked_of_store, rows_wish}
use Rattle.chv_flight.proofs.select.select.Goals as goal

pub show-requires-clause-prepared : goal.show-requires-clause-prepared
show-requires-clause-prepared g c =
    let given = c.in-Ok.ensures in
    let asks = subst (λ (schema : Schema). asked_select schema.catalog c.args.select.now ≡ Ok given.0) c.schema.ensures given.1 in
    (given.0, given.2, asked_of_store c.args.store.now c.args.select.now given.0 asks)

pub returns-in-Ok : goal.returns-in-Ok
returns-in-Ok g c =
    let store = c.args.store.now in
    let given = c.in-Ok.ensures in
    let asks = subst (λ (schema : Schema). asked_select schema.catalog c.args.select.now ≡ Ok given.0) c.schema.ensures given.1 in
    same_wish g.W.Site.tells c.args.client (rows_wish given.0) (query_wish c.args.select.now) c.show.result store store (g.W.Site.outside c.args.site.now) (g.W.Site.outside c.show.new.site)
    (λ entries. sym (ap (λ (query : Result Asked Refusal). and_then query (λ q. Ok (TellRows q))) asks)) (c.show.ensures given.0 given.2 (asked_of_store store c.args.select.now given.0 asks))

pub returns-in-Err-Refused : goal.returns-in-Err-Refused
returns-in-Err-Refused g c =
    let store = c.args.store.now in
    let refusal = c.in-Err-Refused.refusal in
    let told : asked_select c.schema.result.now.catalog c.args.select.now ≡ Err refusal =
    subst (λ (fault : StatementFault). AnswersAs IsPrepared (asked_select c.schema.result.now.catalog c.args.select.now) (Err fault)) c.in-Err-Refused.field-0-is c.in-Err-Refused.ensures in
    let refused = subst (λ (schema : Schema). asked_select schema.catalog c.args.select.now ≡ Err refusal) c.schema.ensures told in
    refused_answers g.W.Site.tells c.args.client (query_wish c.args.select.now) refusal c.refuse.result store store (g.W.Site.outside c.args.site.now) (g.W.Site.outside c.refuse.new.site) c.requires.usable
    (holds_itself store c.requires.usable.within) (λ entries agree. ap (λ (query : Result Asked Refusal). and_then query (λ q. Ok (TellRows q))) refused) (rw c.in-Err-Refused.refusal-is at c.refuse.ensures)

pub returns-in-Err-NoMemory : goal.returns-in-Err-NoMemory
returns-in-Err-NoMemory g c =
    let store = c.args.store.now in
    no_memory_answers g.W.Site.tells c.args.client (query_wish c.args.select.now) store store (g.W.Site.outside c.args.site.now) c.requires.usable.within (λ tell. g.met.W.Site.only_now c.args.site.now)
