-- A statement is taken, and the client has what is planned; or the call ends.
use Rattle.std.proofs.Common.{◌≡◌, List, refl, sym, ap, subst, ◌∙◌, arith}
use Rattle.std.specs.List.{All}
use Rattle.std.proofs.lemmas.Result.{err_from_is_err_and}
use Rattle.std.proofs.lemmas.List.Elements.{All-weaker}
use Rattle.chv_flight.specs.Flights.{IsSound, left_in}
use Rattle.chv_flight.specs.Rooms.{HasRooms}
use Rattle.chv_flight.specs.Takes.{HasMade}
use Rattle.chv_flight.specs.declared.client.Client.{Client}
use Rattle.chv_flight.proofs.TurnLemmas.{ended_acts, taken_turn}
use Rattle.chv_flight.proofs.flight.Flight.take.Goals as goal

pub take-requires-clause-made : goal.take-requires-clause-made
take-requires-clause-made g c =
    let self = c.args.self.now in
    subst (All HasMade) (sym c.as_slice-2.ensures.value) (All-weaker (IsSound self.pieces self.store.schema.catalog) HasMade (λ client is. is.made) self.clients.items c.requires.ready.clients)

pub take-requires-clause-rooms : goal.take-requires-clause-rooms
take-requires-clause-rooms g c = subst (λ (clients : List Client). HasRooms (left_in clients) c.args.self.now.store) (sym c.as_slice-2.ensures.value) c.requires.ready.rooms

pub returns-in_err-taken : goal.returns-in_err-taken
returns-in_err-taken g c =
    let S = g.W.Site in
    let p = err_from_is_err_and c.from_residual.result c.from_residual.ensures.1 in
    rw (p.1, p.2)
    (ended_acts c.args.client c.args.behind c.args.self.now c.args.piece c.requires.takes S.tells (S.outside c.args.site.now) (S.outside c.take.new.site) c.requires.ready c.take.new.store c.in_err-taken.field-0.0
    (rw c.as_slice.ensures at (rw c.as_slice-2.ensures.value at c.in_err-taken.ensures)))

pub returns : goal.returns
returns g c =
    let S = g.W.Site in
    taken_turn c.args.client c.args.behind c.args.self.now c.args.piece c.requires.takes S.tells (S.outside c.args.site.now) (S.outside c.take.new.site) c.requires.ready c.take.new.store c.in_ok-taken.taken
    (rw c.as_slice.ensures at (rw c.as_slice-2.ensures.value at c.in_ok-taken.ensures)) _ _ refl refl
