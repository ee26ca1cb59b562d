-- A count stays below the number of deliveries.
use Rattle.std.proofs.Common.{take, arith}
use Rattle.chv_flight.proofs.BesideLemmas.{take_few}
use Rattle.chv_flight.proofs.RoomLemmas.{held_most}
use Rattle.chv_flight.proofs.room.held_to.Goals as goal

pub overflow_add-count : goal.overflow_add-count
overflow_add-count c =
    let so_far = take c.loop-delivery.delivery-index c.args.plan.now in
    omega (
      arith,
      c.loop-delivery.invariant,
      held_most c.args.table so_far,
      take_few c.args.plan.now c.loop-delivery.delivery-index,
      c.loop-delivery-test.true,
      c.loop-delivery.auto.delivery-index-end,
    )
