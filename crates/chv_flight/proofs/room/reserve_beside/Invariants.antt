-- The tables so far have room.
use Rattle.std.proofs.Common.{ℕ, ◌+◌, ◌<◌, ◌≤◌}
use Rattle.chv_store.specs.Calls.{HoldsSame}
use Rattle.chv_store.specs.Stores.{HasRoom}
use Rattle.chv_flight.specs.Flights.{left_in}
use Rattle.chv_flight.specs.Rooms.{deliveries_held}
use Rattle.chv_flight.proofs.room.reserve_beside.Given as goal

abbrev pub invariant-loop-table : goal.invariant-loop-table
invariant-loop-table l = record {
  same : HoldsSame l.initial.store l.store;
  kept : (other room : ℕ) → HasRoom room l.initial.store other → HasRoom room l.store other;
  rooms : (table : ℕ) → 1 ≤ table → table < l.table → 1 ≤ deliveries_held table l.plan → HasRoom (deliveries_held table (left_in l.clients) + deliveries_held table l.plan) l.store table;
}
