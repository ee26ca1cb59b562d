-- So many clients are there, none of which was heard yet.
use Rattle.std.proofs.Common.{◌≡◌, replicate}
use Rattle.chv_flight.specs.Flights.{fresh}
use Rattle.chv_flight.proofs.flight.fresh_clients.Given as goal

abbrev pub invariant-loop : goal.invariant-loop
invariant-loop l = l.clients.items ≡ replicate l.counter fresh
