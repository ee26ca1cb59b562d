-- The deliveries so far are counted.
use Rattle.std.proofs.Common.{◌≡◌, ◌+◌, ◌<◌, ℕ, length, get_or, take}
use Rattle.chv_flight.specs.Rooms.{deliveries_held}
use Rattle.chv_flight.proofs.room.counts_of.Given as goal

abbrev pub invariant-loop-delivery : goal.invariant-loop-delivery
invariant-loop-delivery l = record {
  many : length l.counts.items ≡ l.tables;
  counts : (place : ℕ) → place < l.tables → get_or l.counts.items place 0 ≡ deliveries_held (place + 1) (take l.delivery-index l.plan);
}
