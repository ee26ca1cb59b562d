use Rattle.std.proofs.Common.{◌≡◌, None, Some, rules, slice_get}
use Rattle.chv_print.specs.ExprTexts.{expr_text}
use Rattle.chv_query.proofs.CellLemmas.{key_shown-bound, key_shown-none}
use Rattle.chv_types.specs.Names.{place_of}
use Rattle.chv_query.proofs.cells.key_shown.Goals as goal

pub returns-in-Some-get : goal.returns-in-Some-get
returns-in-Some-get c = λ known are.
    let keys = c.args.keys.now in
    let bound = c.in_ok-bind_one.ensures in
    let found : place_of (expr_text c.args.expr.now) keys.texts ≡ Some c.in-Some.place = search rules in
    let at : slice_get keys.bounds c.in-Some.place ≡ Some c.in-Some-get.bound.now = search rules in
    rw c.kind.ensures
    (key_shown-bound c.args.columns.now keys known c.args.expr.now bound.0 c.in-Some.place c.in-Some-get.bound.now are bound.1 found at)

pub returns-in-Some : goal.returns-in-Some
returns-in-Some c = λ known are.
    let keys = c.args.keys.now in
    let bound = c.in_ok-bind_one.ensures in
    let found : place_of (expr_text c.args.expr.now) keys.texts ≡ Some c.in-Some.place = search rules in
    let at : slice_get keys.bounds c.in-Some.place ≡ None = search rules in
    key_shown-none c.args.columns.now keys known c.args.expr.now bound.0 c.in-Some.place are bound.1 found at
