-- There is no memory, or no room; or there is, and the deliveries are planned.
use Rattle.std.proofs.Common.{◌≡◌, List, sym, subst}
use Rattle.std.specs.Prelude.{Result}
use Rattle.std.proofs.lemmas.Result.{err_from_is_err_and}
use Rattle.chv_plan.specs.declared.delivery.Delivery.{Delivery as HeldDelivery}
use Rattle.chv_flight.specs.Flights.{left_in}
use Rattle.chv_flight.specs.Takes.{Takes}
use Rattle.chv_flight.specs.declared.fault.RunFault.{RunFault}
use Rattle.chv_flight.specs.declared.take.Taken.{Taken}
use Rattle.chv_flight.proofs.BesideLemmas.{rooms_few}
use Rattle.chv_flight.proofs.RoomLemmas.{delivers-numbered}
use Rattle.chv_flight.proofs.TakeLemmas.{lacks_takes, nothing_takes, planned_takes}
use Rattle.chv_flight.proofs.planning.make_room.Goals as goal

pub reserve_beside-requires-clause-tables : goal.reserve_beside-requires-clause-tables
reserve_beside-requires-clause-tables g c =
    rw c.as_slice.ensures (delivers-numbered c.args.store.now.schema.catalog c.args.plan c.requires.planned.0 c.requires.planned.1)

pub reserve_beside-requires-clause-few : goal.reserve_beside-requires-clause-few
reserve_beside-requires-clause-few g c = rooms_few c.args.store.now (left_in c.args.clients.now) c.requires.rooms

-- there is no memory
pub returns-in_err-reserve_beside : goal.returns-in_err-reserve_beside
returns-in_err-reserve_beside g c = λ all asked delivers asks.
    let S = g.W.Site in
    let p = err_from_is_err_and c.from_residual.result c.from_residual.ensures.1 in
    rw (p.1, p.2)
    (nothing_takes S.tells c.args.client c.args.clients.now asked c.args.store.now c.reserve_beside.new.store (S.outside c.args.site.now) c.requires.usable.within (λ tells. g.met.W.Site.only_now c.args.site.now))

-- there is no room
pub returns-then-not-branch : goal.returns-then-not-branch
returns-then-not-branch g c = λ all asked delivers asks.
    let S = g.W.Site in
    let was = c.args.store.now in
    let clients = c.args.clients.now in
    let reserve = rw c.as_slice.ensures at c.in_ok-reserve_beside.ensures in
    subst (λ (r : Result Taken RunFault). Takes S.tells c.args.client clients asked r was c.reserve_beside.new.store (S.outside c.args.site.now) (S.outside c.refuse.new.site)) (sym c.told.ensures)
    (lacks_takes S.tells c.args.client clients asked was c.reserve_beside.new.store c.args.plan all delivers asks c.refuse.result (S.outside c.args.site.now) (S.outside c.refuse.new.site) c.requires.usable c.requires.rooms
    reserve.same reserve.kept (reserve.lacks c.if-not-branch.true) c.refuse.ensures)

-- they are planned
pub returns : goal.returns
returns g c = λ all asked delivers asks.
    let S = g.W.Site in
    let reserve = rw c.as_slice.ensures at c.in_ok-reserve_beside.ensures in
    planned_takes S.tells c.args.client c.args.clients.now asked c.args.store.now c.reserve_beside.new.store c.args.plan all delivers asks (S.outside c.args.site.now) c.requires.usable reserve.same reserve.kept
    (reserve.room c.if-not-branch.false) (λ tells. g.met.W.Site.only_now c.args.site.now)
