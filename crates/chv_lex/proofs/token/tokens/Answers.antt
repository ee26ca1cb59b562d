use Rattle.std.proofs.Common.{arith}
use Rattle.chv_lex.proofs.TokenLemmas.{more_read, all_read, all_only, all_unstuck, fault_of, fault_only, fault_stuck, spaced}
use Rattle.std.proofs.lemmas.Result.{err_from_is_err_and}
use Rattle.chv_lex.proofs.token.tokens.Goals as goal

pub loop-at-preserved : goal.loop-at-preserved
loop-at-preserved c =
    more_read c.args.piece.now c.split_at.result.1.now c.loop-at.at c.in_ok-at.field-0 c.loop-at.tokens c.take_front.new.tokens c.split_at.ensures.back
    c.in_ok-at.ensures.within.1 c.in_ok-at.ensures.front c.loop-at.invariant

pub returns-clause-found : goal.returns-clause-found
returns-clause-found c = all_read c.args.piece.now c.loop-at.at c.loop-at.tokens (omega arith) c.loop-at.invariant

pub returns-clause-only : goal.returns-clause-only
returns-clause-only c = λ all cut. all_only c.args.piece.now c.loop-at.at c.loop-at.tokens all (omega arith) c.loop-at.invariant cut

pub returns-clause-stuck : goal.returns-clause-stuck
returns-clause-stuck c = λ place stuck. absurd (all_unstuck c.args.piece.now c.loop-at.at c.loop-at.tokens place (omega arith) c.loop-at.invariant stuck)

pub returns-clause-within : goal.returns-clause-within
returns-clause-within c =
    spaced 0 _ c.args.piece.now c.loop-at.tokens (omega arith) (all_read c.args.piece.now c.loop-at.at c.loop-at.tokens (omega arith) c.loop-at.invariant)

pub returns-in_err-at-clause-bad : goal.returns-in_err-at-clause-bad
returns-in_err-at-clause-bad c =
    let p = err_from_is_err_and c.from_residual.result c.from_residual.ensures.1 in
    rw (p.1, p.2) (fault_of c.args.piece.now c.split_at.result.1.now c.loop-at.at c.loop-at.tokens c.in_err-at.field-0.0 c.split_at.ensures.back c.loop-at.invariant c.in_err-at.ensures.bad)

pub returns-in_err-at-clause-only : goal.returns-in_err-at-clause-only
returns-in_err-at-clause-only c = λ all cut.
    let p = err_from_is_err_and c.from_residual.result c.from_residual.ensures.1 in
    rw (p.1, p.2) (fault_only c.args.piece.now c.split_at.result.1.now c.loop-at.at c.loop-at.tokens all c.in_err-at.field-0.0 c.split_at.ensures.back c.loop-at.invariant c.in_err-at.ensures.bad cut)

pub returns-in_err-at-clause-stuck : goal.returns-in_err-at-clause-stuck
returns-in_err-at-clause-stuck c = λ place stuck.
    let p = err_from_is_err_and c.from_residual.result c.from_residual.ensures.1 in
    rw (p.1, p.2) (fault_stuck c.args.piece.now c.split_at.result.1.now c.loop-at.at c.loop-at.tokens place c.in_err-at.field-0.0 c.split_at.ensures.back c.loop-at.invariant c.in_err-at.ensures.bad stuck)
