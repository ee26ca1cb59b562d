-- The next piece of a client is taken, where it has one.
use Rattle.std.proofs.Common.{◌≡◌, ◌≤◌, List, [], ◌∷◌, Some, drop, length, slice_get, Contains, refl, sym, subst, ◌∙◌, ap, arith}
use Rattle.std.proofs.lemmas.Option.{slice_get_read}
use Rattle.chv_lex.specs.declared.piece.Piece.{Piece}
use Rattle.chv_history.specs.Script.{of_client}
use Rattle.chv_flight.proofs.TurnLemmas.{idle_turn, its_place, takes_piece}
use Rattle.chv_flight.proofs.flight.Flight.take_next.Goals as goal

pub next_of-requires : goal.next_of-requires
next_of-requires g c =
    let self = c.args.self.now in
    let client = c.index.result.now in
    let stands : slice_get self.clients.items c.args.client ≡ Some client = slice_get_read self.clients.items (length self.clients.items) c.args.client client refl (omega (arith, c.requires.client, c.requires.ready.many)) c.index.ensures in
    subst (λ (pieces : List Piece). client.place ≤ length pieces) (sym c.as_slice.ensures)
    (its_place g.W.Site.tells c.args.client self (g.W.Site.outside c.args.site.now) client c.requires.ready stands c.requires.none)

pub take-requires-clause-takes : goal.take-requires-clause-takes
take-requires-clause-takes g c =
    let self = c.args.self.now in
    let client = c.index.result.now in
    let next = c.in-Some.ensures in
    let piece = c.in-Some.piece in
    let behind = c.in-Some.behind in
    let stands : slice_get self.clients.items c.args.client ≡ Some client = slice_get_read self.clients.items (length self.clients.items) c.args.client client refl (omega (arith, c.requires.client, c.requires.ready.many)) c.index.ensures in
    takes_piece g.W.Site.tells c.args.client self (g.W.Site.outside c.args.site.now) client c.requires.ready stands c.requires.none piece behind
    (subst (λ (pieces : List Piece). of_client (drop client.place pieces) c.args.client ≡ piece ∷ of_client (drop behind pieces) c.args.client) c.as_slice.ensures next.next)
    next.later
    (subst (λ (pieces : List Piece). Contains pieces piece) c.as_slice.ensures next.within.0)
    (subst (λ (pieces : List Piece). behind ≤ length pieces) c.as_slice.ensures next.within.1)

pub returns-in_default : goal.returns-in_default
returns-in_default g c =
    let self = c.args.self.now in
    let client = c.index.result.now in
    let stands : slice_get self.clients.items c.args.client ≡ Some client = slice_get_read self.clients.items (length self.clients.items) c.args.client client refl (omega (arith, c.requires.client, c.requires.ready.many)) c.index.ensures in
    let none : of_client (drop client.place c.as_slice.result.now) c.args.client ≡ [] = rw c.in_default.is at c.next_of.ensures.next in
    idle_turn g.W.Site.tells c.args.client self (g.W.Site.outside c.args.site.now) client c.requires.ready stands c.requires.none
    (subst (λ (pieces : List Piece). of_client (drop client.place pieces) c.args.client ≡ []) c.as_slice.ensures none) (λ tell. g.met.W.Site.only_now c.args.site.now)
