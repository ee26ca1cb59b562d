-- The place is that of the first piece of the client.
use Rattle.std.proofs.Common.{sym, arith}
use Rattle.std.proofs.lemmas.List.{take_rest}
use Rattle.chv_lex.specs.declared.piece.Piece.{Piece}
use Rattle.chv_flight.proofs.OrderLemmas.{next_is, next_client, next_below, next_among, none_next}
use Rattle.chv_flight.proofs.order.next_of.Goals as goal

-- the piece that is read past the end
abbrev NO_PIECE : Piece
NO_PIECE = record { client = 0; start = 0; end = 0 }

pub returns-in-Some-clause-next : goal.returns-in-Some-clause-next
returns-in-Some-clause-next c = next_is c.args.client c.args.place c.in-Some.next c.args.pieces.now NO_PIECE (sym (rw (take_rest c.args.pieces.now c.args.place) at c.in-Some.ensures))

pub returns-in-Some-clause-client : goal.returns-in-Some-clause-client
returns-in-Some-clause-client c = next_client c.args.client c.args.place c.in-Some.next c.args.pieces.now NO_PIECE (sym (rw (take_rest c.args.pieces.now c.args.place) at c.in-Some.ensures))

pub returns-in-Some-clause-within : goal.returns-in-Some-clause-within
returns-in-Some-clause-within c = (
  next_among c.args.client c.args.place c.in-Some.next c.args.pieces.now NO_PIECE (sym (rw (take_rest c.args.pieces.now c.args.place) at c.in-Some.ensures)),
  omega (arith, next_below c.args.client c.args.place c.in-Some.next c.args.pieces.now NO_PIECE (sym (rw (take_rest c.args.pieces.now c.args.place) at c.in-Some.ensures))),
)

pub returns-in-None-clause-next : goal.returns-in-None-clause-next
returns-in-None-clause-next c = none_next c.args.client c.args.place c.args.pieces.now (sym (rw (take_rest c.args.pieces.now c.args.place) at c.in-None.ensures))
