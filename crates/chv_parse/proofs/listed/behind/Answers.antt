use Rattle.std.proofs.Common.{◌≡◌, ◌<◌, ◌≤◌, true, false, sym, ap, ◌∙◌, arith}
use Rattle.std.specs.Prelude.{codes}
use Rattle.chv_parse.specs.ExprReading.{sign_next}
use Rattle.chv_parse.specs.StatementReading.{read_behind_some}
use Rattle.std.proofs.lemmas.Result.{err_from_is_err_and}
use Rattle.chv_parse.proofs.ListedLemmas.{behind_ends, behind_goes_on, behind_breaks, behind_done, reads_err}
use Rattle.chv_parse.proofs.listed.behind.Goals as goal

pub returns-then-not-next_is_sign : goal.returns-then-not-next_is_sign
returns-then-not-next_is_sign g c =
    let h : c.loop.counter < c.args.count = omega arith in
    let e : sign_next (codes ",") c.loop.cursor ≡ false = cc in
    sym c.loop.invariant ∙ behind_ends _ _ _ _ _ h e

pub returns-in_err-value : goal.returns-in_err-value
returns-in_err-value g c =
    let h : c.loop.counter < c.args.count = omega arith in
    let e : sign_next (codes ",") c.loop.cursor ≡ true = cc in
    let p = err_from_is_err_and c.from_residual.result c.from_residual.ensures.1 in
    rw (p.1, p.2) (reads_err g.T.Member.reader (read_behind_some c.args.front g.T.Member.reader c.args.count) c.pass.new.self c.read.new.cursor c.args.cursor.now c.read.new.cursor _
    c.in_err-value.ensures (λ n. sym c.loop.invariant ∙ behind_breaks _ _ _ _ _ h e (ap g.T.Member.reader (sym c.pass.ensures) ∙ n)))

pub loop-preserved : goal.loop-preserved
loop-preserved g c =
    let h : c.loop.counter < c.args.count = omega arith in
    let e : sign_next (codes ",") c.loop.cursor ≡ true = cc in
    let k = ap g.T.Member.reader (sym c.pass.ensures) ∙ c.in_ok-value.ensures in
    rw c.in_ok-push.ensures.ok (behind_goes_on _ _ _ _ _ _ _ h e k ∙ c.loop.invariant)

pub returns : goal.returns
returns g c =
    let h : c.args.count ≤ c.loop.counter = omega arith in
    sym c.loop.invariant ∙ behind_done _ _ _ _ _ h
