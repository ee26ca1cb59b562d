-- A delivery is made, or not; behind the last one its reply is said, or not.
use Rattle.std.proofs.Common.{◌+◌, drop, length, IsErr, sym, ap, ◌∙◌, arith, ◌<◌, ◌≤◌}
use Rattle.std.specs.Result.{is_err}
use Rattle.std.proofs.lemmas.Bool.{false≢true, ltb-false, ltb-true}
use Rattle.std.proofs.lemmas.Result.{err_from_is_err_and}
use Rattle.chv_flight.proofs.AdvanceLemmas.{advance_end, advance_failed, advance_on, advance_unsaid, next_there, room_there, rooms_used}
use Rattle.chv_flight.proofs.deliver.deliver_next.Goals as goal

pub deliver-requires-clause-room : goal.deliver-requires-clause-room
deliver-requires-clause-room g c =
    let client = c.args.client.now in
    let held = c.index-as_slice-made.result in
    room_there client held c.args.store.now (next_there c.as_slice.result.now client.plan client.made held c.as_slice.ensures c.requires.left c.index-as_slice-made.is) c.requires.rooms

-- the delivery failed
pub returns-in_err-written : goal.returns-in_err-written
returns-in_err-written g c =
    let S = g.W.Site in
    let client = c.args.client.now in
    let held = c.index-as_slice-made.result in
    let there = next_there c.as_slice.result.now client.plan client.made held c.as_slice.ensures c.requires.left c.index-as_slice-made.is in
    let p = err_from_is_err_and c.from_residual.result c.from_residual.ensures.1 in
    let err : IsErr c.deliver.result = ap is_err c.in_err-written.was in
    rw (p.1, p.2)
    (advance_failed S.tells c.args.number client held there c.args.store.now c.deliver.new.store (S.outside c.args.site.now) (S.outside c.deliver.new.site)
    c.deliver.result c.deliver.ensures.delivers client err c.deliver.ensures.counts)

-- others are left
pub returns-then-has_delivery : goal.returns-then-has_delivery
returns-then-has_delivery g c =
    let S = g.W.Site in
    let client = c.args.client.now in
    let held = c.index-as_slice-made.result in
    let there = next_there c.as_slice.result.now client.plan client.made held c.as_slice.ensures c.requires.left c.index-as_slice-made.is in
    let was = c.args.store.now in
    let mid = c.deliver.new.store in
    let made = c.in_ok-written.ensures in
    let more : client.made + 1 < length client.plan = ltb-true (client.made + 1) (length client.plan) (sym c.has_delivery.ensures ∙ c.if-has_delivery.true) in
    advance_on S.tells c.args.number client held there was mid (S.outside c.args.site.now) (S.outside c.deliver.new.site)
    c.requires.planned c.in_ok-written.written made.delivers made.noted made.schema made.usable (made.counts.same (λ err. false≢true err)) made.counts.other
    (rooms_used held (drop (client.made + 1) client.plan) was mid made.room made.rooms) more (omega (arith, c.requires.written, made.counted))

-- it was the last one, and the reply was not said
pub returns-in_err-acknowledge : goal.returns-in_err-acknowledge
returns-in_err-acknowledge g c =
    let S = g.W.Site in
    let client = c.args.client.now in
    let held = c.index-as_slice-made.result in
    let there = next_there c.as_slice.result.now client.plan client.made held c.as_slice.ensures c.requires.left c.index-as_slice-made.is in
    let was = c.args.store.now in
    let mid = c.deliver.new.store in
    let made = c.in_ok-written.ensures in
    let most : length client.plan ≤ client.made + 1 = ltb-false (client.made + 1) (length client.plan) (sym c.has_delivery.ensures ∙ c.if-has_delivery.false) in
    let p = err_from_is_err_and c.from_residual-in_err-acknowledge.result c.from_residual-in_err-acknowledge.ensures.1 in
    rw (p.1, p.2)
    (advance_unsaid S.tells c.args.number client held there was mid (S.outside c.args.site.now) (S.outside c.deliver.new.site)
    c.requires.planned c.in_ok-written.written made.delivers made.noted made.schema made.usable (made.counts.same (λ err. false≢true err)) made.counts.other
    (rooms_used held (drop (client.made + 1) client.plan) was mid made.room made.rooms) (omega (arith, most, c.requires.left)) (S.outside c.acknowledge.new.site)
    c.in_err-acknowledge.field-0.0 (record client { made = client.made + 1; written = client.written + c.in_ok-written.written }) c.in_err-acknowledge.ensures)

-- the reply was said
pub returns : goal.returns
returns g c =
    let S = g.W.Site in
    let client = c.args.client.now in
    let held = c.index-as_slice-made.result in
    let there = next_there c.as_slice.result.now client.plan client.made held c.as_slice.ensures c.requires.left c.index-as_slice-made.is in
    let was = c.args.store.now in
    let mid = c.deliver.new.store in
    let made = c.in_ok-written.ensures in
    let most : length client.plan ≤ client.made + 1 = ltb-false (client.made + 1) (length client.plan) (sym c.has_delivery.ensures ∙ c.if-has_delivery.false) in
    advance_end S.tells c.args.number client held there was mid (S.outside c.args.site.now) (S.outside c.deliver.new.site)
    c.requires.planned c.in_ok-written.written made.delivers made.noted made.schema made.usable (made.counts.same (λ err. false≢true err)) made.counts.other
    (rooms_used held (drop (client.made + 1) client.plan) was mid made.room made.rooms) (omega (arith, most, c.requires.left)) (S.outside c.acknowledge.new.site)
    c.in_ok-acknowledge.field-0 c.in_ok-acknowledge.ensures c.end.new.self c.end.ensures.place c.end.ensures.plan c.end.ensures.made c.end.ensures.written
