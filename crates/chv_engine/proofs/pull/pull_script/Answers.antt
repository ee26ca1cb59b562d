-- The bytes pulled so far, in front of those that are left.
use Rattle.std.proofs.Common.{arith}
use Rattle.chv_engine.proofs.PullLemmas.{pulled_all, pulled_too_much}
use Rattle.chv_engine.proofs.pull.pull_script.Goals as goal

pub returns-then-count-eq0-clause-script : goal.returns-then-count-eq0-clause-script
returns-then-count-eq0-clause-script g c = λ tells.
    let left = g.S.Source.left c.pulls.source in
    pulled_all (g.S.Source.left c.args.source.now) c.pulls.script.items left (g.S.Source.left c.pull.new.self) c.pull.new.buf c.in_ok-count.count
    (c.pulls.invariant.pulled tells) (c.in_ok-count.ensures.pulled tells) c.if-count-eq0.true ((c.in_ok-count.ensures.end tells).0 c.if-count-eq0.true)

pub returns-then-count-len-clause-err : goal.returns-then-count-len-clause-err
returns-then-count-len-clause-err g c = λ tells.
    pulled_too_much (g.S.Source.left c.args.source.now) c.pulls.script.items (g.S.Source.left c.pulls.source) (g.S.Source.left c.pull.new.self) c.pull.new.buf c.in_ok-count.count
    (c.pulls.invariant.pulled tells) (c.in_ok-count.ensures.pulled tells) c.pulls.invariant.within (omega (arith, c.in_ok-count.ensures.within)) (omega (arith, c.in_ok-count.ensures.within))
    (omega (arith, c.if-count-len.true))
