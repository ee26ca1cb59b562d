-- The client at the number makes its delivery, or not.
use Rattle.std.proofs.Common.{◌≡◌, Some, length, slice_get, refl, arith}
use Rattle.std.proofs.lemmas.Option.{slice_get_read}
use Rattle.std.specs.Vec.{with_item}
use Rattle.std.proofs.lemmas.Result.{err_from_is_err_and}
use Rattle.chv_flight.proofs.DeliverTurnLemmas.{left-more, rooms-of, some-left, turn_failed, turn_made}
use Rattle.chv_flight.proofs.flight.Flight.deliver_next.Goals as goal

pub deliver_next-requires-clause-left : goal.deliver_next-requires-clause-left
deliver_next-requires-clause-left g c =
    let was = c.args.self.now in
    let client = c.index_mut.result.now in
    let clients = was.clients.items in
    let stands : slice_get clients c.args.client ≡ Some client = slice_get_read clients (length clients) c.args.client client refl (omega (arith, c.requires.client, c.requires.ready.many)) c.index_mut.ensures.value in
    left-more client.plan client.made (some-left was c.args.client client stands c.requires.left)

pub deliver_next-requires-clause-rooms : goal.deliver_next-requires-clause-rooms
deliver_next-requires-clause-rooms g c =
    let was = c.args.self.now in
    let client = c.index_mut.result.now in
    let clients = was.clients.items in
    let stands : slice_get clients c.args.client ≡ Some client = slice_get_read clients (length clients) c.args.client client refl (omega (arith, c.requires.client, c.requires.ready.many)) c.index_mut.ensures.value in
    rooms-of c.args.client clients client was.store stands c.requires.ready.rooms

pub returns-in_err-deliver_next : goal.returns-in_err-deliver_next
returns-in_err-deliver_next g c =
    let S = g.W.Site in
    let was = c.args.self.now in
    let client = c.index_mut.result.now in
    let clients = was.clients.items in
    let stands : slice_get clients c.args.client ≡ Some client = slice_get_read clients (length clients) c.args.client client refl (omega (arith, c.requires.client, c.requires.ready.many)) c.index_mut.ensures.value in
    let p = err_from_is_err_and c.from_residual.result c.from_residual.ensures.1 in
    rw (p.1, p.2)
    (turn_failed S.tells c.args.client was (record was { store = c.deliver_next.new.store; clients = with_item was.clients c.args.client c.deliver_next.new.client }) (S.outside c.args.site.now) (S.outside c.deliver_next.new.site) client c.deliver_next.new.client stands
    (some-left was c.args.client client stands c.requires.left) c.in_err-deliver_next.field-0.0 c.in_err-deliver_next.ensures)

pub returns : goal.returns
returns g c =
    let S = g.W.Site in
    let was = c.args.self.now in
    let client = c.index_mut.result.now in
    let clients = was.clients.items in
    let stands : slice_get clients c.args.client ≡ Some client = slice_get_read clients (length clients) c.args.client client refl (omega (arith, c.requires.client, c.requires.ready.many)) c.index_mut.ensures.value in
    turn_made S.tells c.args.client was (record was { store = c.deliver_next.new.store; clients = with_item was.clients c.args.client c.deliver_next.new.client }) (S.outside c.args.site.now) (S.outside c.deliver_next.new.site)
    client c.deliver_next.new.client stands (some-left was c.args.client client stands c.requires.left) c.requires.ready refl refl refl refl c.in_ok-deliver_next.ensures
