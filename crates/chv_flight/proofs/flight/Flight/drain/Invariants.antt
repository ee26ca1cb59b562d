-- Turns were had, and whatever comes of the rest comes of all.
use Rattle.std.proofs.Common.{◌≡◌, ◌-◌, ◌<◌, ◌≤◌, length}
use Rattle.chv_flight.specs.Flights.{IsReady, left_of}
use Rattle.chv_flight.proofs.DrainLemmas.{LeadsOn}
use Rattle.chv_flight.proofs.IdleLemmas.{AreIdle}
use Rattle.chv_flight.proofs.MoveLemmas.{client_at}
use Rattle.chv_flight.proofs.flight.Flight.drain.Given as goal

abbrev pub invariant-deliveries : goal.invariant-deliveries
invariant-deliveries g l = record {
  within : l.client < 16;
  ready : IsReady g.W.Site.tells l.self (g.W.Site.outside l.site);
  below : AreIdle l.self l.client;
  leads : LeadsOn {S = g.row.W.Denot} g.W.Site.tells g.W.Site.outside l.fn.self l.self l.fn.site l.site;
  place : (client_at l.self l.client).place ≡ (client_at l.initial.self l.client).place;
  pieces : l.self.pieces ≡ l.initial.self.pieces;
}

abbrev pub decreases-deliveries : goal.decreases-deliveries
decreases-deliveries g l = length (left_of (client_at l.self l.client))

abbrev pub invariant-statements : goal.invariant-statements
invariant-statements g l = record {
  within : l.client < 16;
  ready : IsReady g.W.Site.tells l.self (g.W.Site.outside l.site);
  below : AreIdle l.self l.client;
  leads : LeadsOn {S = g.row.W.Denot} g.W.Site.tells g.W.Site.outside l.fn.self l.self l.fn.site l.site;
}

abbrev pub decreases-statements : goal.decreases-statements
decreases-statements g l = length l.self.pieces - (client_at l.self l.client).place

abbrev pub invariant-clients : goal.invariant-clients
invariant-clients g l = record {
  within : l.client ≤ 16;
  ready : IsReady g.W.Site.tells l.self (g.W.Site.outside l.site);
  below : AreIdle l.self l.client;
  leads : LeadsOn {S = g.row.W.Denot} g.W.Site.tells g.W.Site.outside l.fn.self l.self l.fn.site l.site;
}

abbrev pub decreases-clients : goal.decreases-clients
decreases-clients g l = 16 - l.client
