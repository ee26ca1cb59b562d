-- A count stays below the number of deliveries.
use Rattle.std.proofs.Common.{◌≡◌, ◌-◌, Some, length, slice_get, refl, sym, subst, arith}
use Rattle.std.proofs.lemmas.Option.{get_or_from_slice_get, slice_get_read}
use Rattle.chv_flight.specs.Rooms.{IsNumbered}
use Rattle.chv_flight.proofs.RoomLemmas.{count_few}
use Rattle.chv_flight.proofs.room.counts_of.Goals as goal

pub overflow_add-index_mut : goal.overflow_add-index_mut
overflow_add-index_mut c =
    let so_far = c.loop-delivery.invariant in
    let counts = c.loop-delivery.counts.items in
    let item = c.delivery-item.result in
    let place = c.loop-delivery.delivery-index in
    let plan = c.args.plan.now in
    let there : slice_get plan place ≡ Some item = slice_get_read plan (length plan) place item refl c.loop-delivery-test.true c.delivery-item.is in
    let numbered : IsNumbered c.args.tables item = subst (IsNumbered c.args.tables) (sym c.delivery-item.is) (c.requires.tables place item c.loop-delivery-test.true) in
    let few = count_few counts c.args.tables plan place item so_far.many there numbered so_far.counts in
    let read = slice_get_read counts (length counts) (item.table - 1) c.index_mut.result.now refl (omega (arith, so_far.many, numbered.first, numbered.last)) c.index_mut.ensures.value in
    omega (arith, few, get_or_from_slice_get counts (item.table - 1) c.index_mut.result.now 0 read, c.loop-delivery-test.true, c.loop-delivery.auto.delivery-index-end)
