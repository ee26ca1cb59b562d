use Rattle.std.proofs.Common.{◌≡◌, ◌+◌, length, rules}
use Rattle.chv_query.proofs.CellLemmas.{AreCells-call}
use Rattle.chv_query.proofs.cells.push_call.Goals as goal

pub returns : goal.returns
returns c = λ source before called are is.
    let cells = c.args.cells.now in
    let place : c.in_ok-place.place ≡ c.args.keys + length cells.calls = search rules in
    rw (c.in_ok-push.ensures.ok, c.in_ok-push-2.ensures.ok, c.in_ok-push-3.ensures.ok, c.in_ok-push-4.ensures.ok, place, c.call_kind-kind.ensures)
    (AreCells-call source cells before c.args.name c.args.keys c.args.call called are is)
