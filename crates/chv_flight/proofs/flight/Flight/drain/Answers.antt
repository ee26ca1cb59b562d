-- The first client that has something to do has its turns, and then the next one, until none has.
use Rattle.std.proofs.Common.{◌≡◌, ◌<◌, ◌+◌, Bool, length, Err, refl, sym, ap, subst, ◌∙◌, arith}
use Rattle.std.specs.Prelude.{Result}
use Rattle.std.proofs.lemmas.Result.{err_from_is_err_and}
use Rattle.chv_flight.specs.Turns.{Drains}
use Rattle.chv_flight.specs.declared.fault.RunFault.{RunFault}
use Rattle.chv_flight.proofs.DrainLemmas.{leads_next, nothing_left, turn_failed}
use Rattle.chv_flight.proofs.MoveLemmas.{client_at, found_client, has_made, has_taken, has_turn, idle_on, idle_then, moves_on, its_client, none_left, place_within, some_left}
use Rattle.chv_flight.proofs.flight.Flight.drain.Goals as goal

-- no turn was had yet
pub clients-init : goal.clients-init
clients-init g c = record { within = omega arith; ready = c.requires.ready; below = λ other less. absurd (omega (arith, less)); leads = λ r is new rest. rest }

pub statements-init : goal.statements-init
statements-init g c = record { within = c.clients-test.true; ready = c.clients.invariant.ready; below = c.clients.invariant.below; leads = c.clients.invariant.leads }

pub deliveries-init : goal.deliveries-init
deliveries-init g c =
    let now = c.statements.invariant in
    record { within = now.within; ready = now.ready; below = now.below; leads = now.leads; place = refl; pieces = refl }

pub index-requires : goal.index-requires
index-requires g c = omega (arith, c.deliveries.invariant.ready.many, c.deliveries.invariant.within)

pub turn-requires-clause-ready : goal.turn-requires-clause-ready
turn-requires-clause-ready g c = c.deliveries.invariant.ready

-- a delivery is made
pub deliveries-smaller : goal.deliveries-smaller
deliveries-smaller g c =
    let now = c.deliveries.invariant in
    let acts = c.in_ok-turn.ensures in
    let number = c.clients.client in
    let some = some_left (client_at c.deliveries.self number) c.index.result.now (found_client c.deliveries.self number 16 c.index.result.now now.ready.many now.within c.index.ensures) (sym c.has_delivery.ensures ∙ c.deliveries-test.true) in
    (has_made number 16 c.deliveries.self c.turn.new.self now.ready.many acts.ready.many now.within some
    (moves_on number c.in_ok-turn.field-0 c.deliveries.self c.turn.new.self (client_at c.deliveries.self number) (its_client c.deliveries.self number 16 now.ready.many now.within) some acts.moved acts.idle.0)).fewer

pub deliveries-preserved : goal.deliveries-preserved
deliveries-preserved g c =
    let S = g.W.Site in
    let now = c.deliveries.invariant in
    let acts = c.in_ok-turn.ensures in
    let number = c.clients.client in
    let was = c.deliveries.self in
    let is = c.turn.new.self in
    let some = some_left (client_at was number) c.index.result.now (found_client was number 16 c.index.result.now now.ready.many now.within c.index.ensures) (sym c.has_delivery.ensures ∙ c.deliveries-test.true) in
    let made = has_made number 16 was is now.ready.many acts.ready.many now.within some
    (moves_on number c.in_ok-turn.field-0 was is (client_at was number) (its_client was number 16 now.ready.many now.within) some acts.moved acts.idle.0) in
    record {
      within = now.within;
      ready = acts.ready;
      below = idle_on number c.in_ok-turn.field-0 was is acts.moved (λ same. (acts.still same).0) now.below;
      leads = leads_next S.tells S.outside number c.in_ok-turn.field-0 c.args.self.now was is c.args.site.now c.deliveries.site c.turn.new.site now.leads (has_turn was number 16 now.ready.many now.within now.below) acts;
      place = made.place ∙ now.place;
      pieces = made.pieces ∙ now.pieces;
    }

-- a delivery ended the run
pub returns-in_err-turn : goal.returns-in_err-turn
returns-in_err-turn g c =
    let S = g.W.Site in
    let now = c.deliveries.invariant in
    let number = c.clients.client in
    let was = c.deliveries.self in
    let is = c.turn.new.self in
    let fault = c.in_err-turn.field-0.0 in
    let p = err_from_is_err_and c.from_residual.result c.from_residual.ensures.1 in
    subst (λ (r : Result Bool RunFault). Drains S.tells r c.args.self.now is (S.outside c.args.site.now) (S.outside c.turn.new.site)) (sym (p.1 ∙ ap Err p.2))
    (now.leads (Err fault) is c.turn.new.site
    (turn_failed S.tells number fault was is (S.outside c.deliveries.site) (S.outside c.turn.new.site) (has_turn was number 16 now.ready.many now.within now.below) now.ready.usable.within c.in_err-turn.ensures))

pub turn-requires-in-statements-clause-ready : goal.turn-requires-in-statements-clause-ready
turn-requires-in-statements-clause-ready g c = c.deliveries.invariant.ready

-- a statement ended the run
pub returns-in_err-turn-2 : goal.returns-in_err-turn-2
returns-in_err-turn-2 g c =
    let S = g.W.Site in
    let now = c.deliveries.invariant in
    let number = c.clients.client in
    let was = c.deliveries.self in
    let is = c.turn-in-statements.new.self in
    let fault = c.in_err-turn-2.field-0.0 in
    let p = err_from_is_err_and c.from_residual-in_err-turn-2.result c.from_residual-in_err-turn-2.ensures.1 in
    subst (λ (r : Result Bool RunFault). Drains S.tells r c.args.self.now is (S.outside c.args.site.now) (S.outside c.turn-in-statements.new.site)) (sym (p.1 ∙ ap Err p.2))
    (now.leads (Err fault) is c.turn-in-statements.new.site
    (turn_failed S.tells number fault was is (S.outside c.deliveries.site) (S.outside c.turn-in-statements.new.site) (has_turn was number 16 now.ready.many now.within now.below) now.ready.usable.within c.in_err-turn-2.ensures))

-- a piece of the script was taken
pub statements-smaller : goal.statements-smaller
statements-smaller g c =
    let S = g.W.Site in
    let now = c.deliveries.invariant in
    let acts = c.in_ok-turn-2.ensures in
    let number = c.clients.client in
    let was = c.deliveries.self in
    let is = c.turn-in-statements.new.self in
    let moves = acts.moved c.in-Moved.is in
    omega (
      arith,
      has_taken number 16 was is now.ready.many acts.ready.many now.within (none_left (client_at was number) c.index.result.now (found_client was number 16 c.index.result.now now.ready.many now.within c.index.ensures) (sym c.has_delivery.ensures ∙ c.deliveries-test.false)) moves,
      now.place,
      ap length now.pieces,
      ap length moves.pieces,
      place_within S.tells is (S.outside c.turn-in-statements.new.site) number acts.ready now.within,
    )

pub statements-preserved : goal.statements-preserved
statements-preserved g c =
    let S = g.W.Site in
    let now = c.deliveries.invariant in
    let acts = c.in_ok-turn-2.ensures in
    let number = c.clients.client in
    let was = c.deliveries.self in
    let is = c.turn-in-statements.new.self in
    record {
      within = now.within;
      ready = acts.ready;
      below = idle_on number c.in_ok-turn-2.field-0 was is acts.moved (λ same. (acts.still same).0) now.below;
      leads = leads_next S.tells S.outside number c.in_ok-turn-2.field-0 c.args.self.now was is c.args.site.now c.deliveries.site c.turn-in-statements.new.site now.leads (has_turn was number 16 now.ready.many now.within now.below) acts;
    }

-- the client has nothing left
pub clients-preserved : goal.clients-preserved
clients-preserved g c =
    let S = g.W.Site in
    let now = c.deliveries.invariant in
    let acts = c.in_ok-turn-2.ensures in
    let number = c.clients.client in
    let was = c.deliveries.self in
    let is = c.turn-in-statements.new.self in
    record {
      within = omega (arith, now.within);
      ready = acts.ready;
      below = idle_then number was is (acts.still c.in-Idle.is).0 now.below (acts.idle.0 c.in-Idle.is);
      leads = leads_next S.tells S.outside number c.in_ok-turn-2.field-0 c.args.self.now was is c.args.site.now c.deliveries.site c.turn-in-statements.new.site now.leads (has_turn was number 16 now.ready.many now.within now.below) acts;
    }

-- no client has anything left
pub returns : goal.returns
returns g c =
    let S = g.W.Site in
    let now = c.clients.invariant in
    let last : c.clients.client ≡ 16 = omega (arith, now.within, c.clients-test.false) in
    now.leads _ c.clients.self c.clients.site
    (nothing_left S.tells c.clients.self (S.outside c.clients.site) 16 now.ready.many (λ other less. now.below other (omega (arith, less, last))) now.ready.usable (λ tells. g.met.W.Site.only_now c.clients.site))
