-- What is counted, and what is still to count.
use Rattle.std.proofs.Common.{◌≡◌, ◌+◌, drop}
use Rattle.chv_flight.specs.Flights.{left_in}
use Rattle.chv_flight.specs.Rooms.{deliveries_held}
use Rattle.chv_flight.proofs.room.left_to.Given as goal

abbrev pub invariant-loop-client : goal.invariant-loop-client
invariant-loop-client l = l.count + deliveries_held l.table (left_in (drop l.client-index l.clients)) ≡ deliveries_held l.table (left_in l.clients)
