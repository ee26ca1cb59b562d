-- Whether a delivery is left is told by a test.
use Rattle.std.proofs.Common.{◌≡◌, Some, length, slice_get, refl, arith}
use Rattle.std.proofs.lemmas.Option.{slice_get_read}
use Rattle.chv_flight.proofs.DeliverTurnLemmas.{has-delivery, has-none}
use Rattle.chv_flight.proofs.flight.Flight.turn.Goals as goal

pub deliver_next-requires-clause-left : goal.deliver_next-requires-clause-left
deliver_next-requires-clause-left g c =
    let clients = c.args.self.now.clients.items in
    let client = c.index.result.now in
    let stands : slice_get clients c.args.client ≡ Some client = slice_get_read clients (length clients) c.args.client client refl (omega (arith, c.requires.client, c.requires.ready.many)) c.index.ensures in
    has-delivery c.args.self.now c.args.client client c.has_delivery.result stands c.has_delivery.ensures c.if-has_delivery.true

pub take_next-requires-clause-none : goal.take_next-requires-clause-none
take_next-requires-clause-none g c =
    let clients = c.args.self.now.clients.items in
    let client = c.index.result.now in
    let stands : slice_get clients c.args.client ≡ Some client = slice_get_read clients (length clients) c.args.client client refl (omega (arith, c.requires.client, c.requires.ready.many)) c.index.ensures in
    has-none c.args.self.now c.args.client client c.has_delivery.result stands c.has_delivery.ensures c.if-has_delivery.false
