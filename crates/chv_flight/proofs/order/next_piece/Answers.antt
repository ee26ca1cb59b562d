-- A client's next piece is the next of all, and behind its last one comes the first of the client behind it.
use Rattle.std.proofs.Common.{◌≡◌, ◌<◌, ℕ, [], ◌∙◌, sym, subst, drop, arith}
use Rattle.chv_history.specs.Script.{of_client, left_at}
use Rattle.chv_flight.proofs.OrderLemmas.{left_at-next, left_at-later, left_at-last}
use Rattle.chv_flight.proofs.order.next_piece.Goals as goal

pub returns-in-Some-clause-next : goal.returns-in-Some-clause-next
returns-in-Some-clause-next c =
    sym c.clients.invariant.same
    ∙ left_at-next c.clients.current c.clients.from c.in-Some.next.1 c.args.pieces.now c.in-Some.next.0 c.in-Some.ensures.next c.in-Some.ensures.client

pub returns-then-current-eq-LAST_CLIENT-clause-next : goal.returns-then-current-eq-LAST_CLIENT-clause-next
returns-then-current-eq-LAST_CLIENT-clause-next c =
    let none : of_client (drop c.clients.from c.args.pieces.now) c.clients.current ≡ [] = rw c.in_default.is at c.next_of.ensures.next in
    sym c.clients.invariant.same
    ∙ subst (λ (n : ℕ). left_at n c.clients.from c.args.pieces.now ≡ []) (sym c.if-current-eq-LAST_CLIENT.true)
    (left_at-last c.clients.from c.args.pieces.now (subst (λ (n : ℕ). of_client (drop c.clients.from c.args.pieces.now) n ≡ []) c.if-current-eq-LAST_CLIENT.true none))

pub clients-preserved : goal.clients-preserved
clients-preserved c =
    let none : of_client (drop c.clients.from c.args.pieces.now) c.clients.current ≡ [] = rw c.in_default.is at c.next_of.ensures.next in
    let below : c.clients.current < 15 = omega (arith, c.clients.invariant.client, c.if-current-eq-LAST_CLIENT.false) in
    record {
      client = omega (arith, c.clients.invariant.client, c.if-current-eq-LAST_CLIENT.false);
      place = omega arith;
      same = sym (left_at-later c.clients.current c.clients.from c.args.pieces.now below none) ∙ c.clients.invariant.same;
    }
