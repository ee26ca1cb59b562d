-- An INSERT that is built is planned; or it is refused, or memory runs out, before anything is done.
use Rattle.std.proofs.Common.{◌≡◌, true, false, ℕ, List, Some, Ok, Err, refl, sym, ap, subst, ◌∙◌}
use Rattle.std.specs.Prelude.{Result}
use Rattle.chv_ast.specs.declared.refusal.Refusal.{Refusal}
use Rattle.chv_ast.specs.declared.refusal.Refusal.TheVariants.{NotBuilt}
use Rattle.chv_ast.specs.declared.statement.Statement.TheVariants as statement
use Rattle.chv_catalog.specs.declared.schema.Schema.{Schema}
use Rattle.chv_history.specs.Built.{is_built}
use Rattle.chv_history.specs.Events.{Plan}
use Rattle.chv_query.specs.Plans.{planned}
use Rattle.chv_plan.specs.Deliveries.{DeliversAll}
use Rattle.chv_plan.specs.declared.delivery.Delivery.{Delivery as HeldDelivery}
use Rattle.chv_types.specs.Steps.{and_then}
use Rattle.chv_flight.specs.Answers.{plan_wish}
use Rattle.chv_flight.specs.Takes.{Takes, with_left}
use Rattle.chv_flight.specs.declared.fault.RunFault.{RunFault}
use Rattle.chv_flight.specs.declared.take.Taken.{Taken}
use Rattle.chv_flight.proofs.AnswerLemmas.{holds_itself}
use Rattle.chv_flight.proofs.InsertLemmas.{insert_asks}
use Rattle.chv_flight.proofs.KnownLemmas.{built_insert, known_insert, known_unbuilt, unbuilt_insert}
use Rattle.chv_flight.proofs.TakeLemmas.{nothing_takes, refused_takes}
use Rattle.chv_flight.proofs.planning.take_insert.Goals as goal

pub plan_insert-requires-clause-schema : goal.plan_insert-requires-clause-schema
plan_insert-requires-clause-schema g c = rw c.schema.ensures c.requires.usable.within.defined

-- an INSERT whose rows are held for later is not built
pub returns-then-brought : goal.returns-then-brought
returns-then-brought g c =
    let S = g.W.Site in
    let store = c.args.store.now in
    let brought = c.args.brought.now in
    let clients = c.args.clients.now in
    subst (λ (r : Result Taken RunFault). Takes S.tells c.args.client clients (Some (statement.Insert brought)) r store store (S.outside c.args.site.now) (S.outside c.refuse.new.site)) (sym c.told.ensures)
    (refused_takes S.tells c.args.client clients (Some (statement.Insert brought)) store NotBuilt c.refuse.result store (S.outside c.args.site.now) (S.outside c.refuse.new.site) c.requires.usable c.requires.rooms
    (holds_itself store c.requires.usable.within) (λ table count room. room)
    (λ entries agree. known_unbuilt (statement.Insert brought) store.schema.catalog (with_left clients entries) (unbuilt_insert brought c.if-brought.true)) c.refuse.ensures)

-- it is planned
pub make_room-requires-clause-planned : goal.make_room-requires-clause-planned
make_room-requires-clause-planned g c =
    let plan = c.in-Ok.ensures.planned in
    (plan.0, subst (λ (schema : Schema). DeliversAll schema.catalog c.in-Ok.plan.deliveries plan.0) c.schema.ensures plan.2)

pub returns-in-Ok : goal.returns-in-Ok
returns-in-Ok g c =
    let store = c.args.store.now in
    let brought = c.args.brought.now in
    let plan = c.in-Ok.ensures.planned in
    let is : planned store.schema.catalog brought ≡ Ok plan.0 = subst (λ (schema : Schema). planned schema.catalog brought ≡ Ok plan.0) c.schema.ensures plan.1 in
    c.make_room.ensures plan.0 (Some (statement.Insert brought)) (subst (λ (schema : Schema). DeliversAll schema.catalog c.in-Ok.plan.deliveries plan.0) c.schema.ensures plan.2)
    (λ entries.
    sym (known_insert (statement.Insert brought) store.schema.catalog entries brought (built_insert brought c.if-brought.false) refl) ∙ sym (insert_asks store.schema.catalog brought plan.0 entries is))

-- it is refused
pub returns-in-Err-Refused : goal.returns-in-Err-Refused
returns-in-Err-Refused g c =
    let S = g.W.Site in
    let store = c.args.store.now in
    let brought = c.args.brought.now in
    let clients = c.args.clients.now in
    let refusal = c.in-Err-Refused.refusal in
    let is : planned store.schema.catalog brought ≡ Err refusal =
    subst (λ (schema : Schema). planned schema.catalog brought ≡ Err refusal) c.schema.ensures (c.in-Err-Refused.ensures.refused refusal c.in-Err-Refused.field-0-is) in
    subst (λ (r : Result Taken RunFault). Takes S.tells c.args.client clients (Some (statement.Insert brought)) r store store (S.outside c.args.site.now) (S.outside c.refuse-in-Err-Refused.new.site)) (sym c.told-in-Err-Refused.ensures)
    (refused_takes S.tells c.args.client clients (Some (statement.Insert brought)) store refusal c.refuse-in-Err-Refused.result store (S.outside c.args.site.now) (S.outside c.refuse-in-Err-Refused.new.site) c.requires.usable c.requires.rooms
    (holds_itself store c.requires.usable.within) (λ table count room. room)
    (λ entries agree.
    sym (known_insert (statement.Insert brought) store.schema.catalog (with_left clients entries) brought (built_insert brought c.if-brought.false) refl)
    ∙ ap (λ (r : Result Plan Refusal). and_then r (λ p. plan_wish p store.schema.catalog (with_left clients entries))) is)
    (rw c.in-Err-Refused.refusal-is at c.refuse-in-Err-Refused.ensures))

pub returns-in-Err-NoMemory : goal.returns-in-Err-NoMemory
returns-in-Err-NoMemory g c =
    let S = g.W.Site in
    let store = c.args.store.now in
    nothing_takes S.tells c.args.client c.args.clients.now (Some (statement.Insert c.args.brought.now)) store store (S.outside c.args.site.now) c.requires.usable.within (λ tells. g.met.W.Site.only_now c.args.site.now)
