-- What is left at the place that is reached is what is left at the first.
use Rattle.std.proofs.Common.{◌≡◌, ◌-◌, ◌<◌, ◌≤◌, length}
use Rattle.chv_history.specs.Script.{left_at}
use Rattle.chv_flight.proofs.order.next_piece.Given as goal

abbrev pub invariant-clients : goal.invariant-clients
invariant-clients l = record {
  client : l.current < 16;
  place : l.from ≤ length l.pieces;
  same : left_at l.current l.from l.pieces ≡ left_at l.client l.place l.pieces;
}

abbrev pub decreases-clients : goal.decreases-clients
decreases-clients l = 16 - l.current
