-- The deliveries so far are counted.
use Rattle.std.proofs.Common.{◌≡◌, take}
use Rattle.chv_flight.specs.Rooms.{deliveries_held}
use Rattle.chv_flight.proofs.room.held_to.Given as goal

abbrev pub invariant-loop-delivery : goal.invariant-loop-delivery
invariant-loop-delivery l = l.count ≡ deliveries_held l.table (take l.delivery-index l.plan)
