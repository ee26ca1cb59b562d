use Rattle.std.proofs.Common.{◌≡◌, ◌<◌, ◌+◌, ◌-◌, Some, None, sym, ◌∙◌, arith}
use Rattle.std.specs.Prelude.{drop}
use Rattle.std.proofs.lemmas.Result.{err_from_is_err_and}
use Rattle.chv_ast.specs.Grammar.{level_of}
use Rattle.chv_parse.specs.ExprReading.{between, climb, onward, read_at, read_chain, read_inside, read_more, read_next}
use Rattle.chv_parse.proofs.ExprTurns.{climb_ends, climb_done, climb_goes_on, climb_breaks, read_at_none, read_at_some, read_inside_none, read_inside_some, read_more_none, read_more_some, reads_as}
use Rattle.chv_parse.proofs.ListedLemmas.{reads_err}
use Rattle.chv_parse.proofs.expr_reading.+expr.Goals as goal

pub read_at-returns-then-room-eq0-clause-read : goal.read_at-returns-then-room-eq0-clause-read
read_at-returns-then-room-eq0-clause-read t c = read_at_none _ _ _ _ c.if-room-eq0.true

pub read_at-returns-clause-read : goal.read_at-returns-clause-read
read_at-returns-clause-read t c =
    reads_as (read_at c.args.nest c.args.room c.args.level) (read_chain (read_at c.args.nest (c.args.room - 1)) c.args.nest (read_inside c.args.nest) (c.args.room - 1) c.args.level) _ _ _
    (read_at_some c.args.nest c.args.room c.args.level c.args.cursor.now (omega arith)) c.chain.ensures.read

pub inside-returns-then-nest-eq0-clause-read : goal.inside-returns-then-nest-eq0-clause-read
inside-returns-then-nest-eq0-clause-read t c = read_inside_none _ _ _ c.if-nest-eq0.true

pub inside-returns-clause-read : goal.inside-returns-clause-read
inside-returns-clause-read t c =
    reads_as (read_inside c.args.nest c.args.room) (read_at (c.args.nest - 1) c.args.room 0) _ _ _ (read_inside_some c.args.nest c.args.room c.args.cursor.now (omega arith)) c.read_at.ensures.read

pub more-returns-then-count-eq0-clause-read : goal.more-returns-then-count-eq0-clause-read
more-returns-then-count-eq0-clause-read t c = rw c.no_arguments.ensures (read_more_none _ _ _ c.if-count-eq0.true)

pub more-returns-clause-read : goal.more-returns-clause-read
more-returns-clause-read t c =
    reads_as (read_more (read_inside c.args.nest c.args.room) c.args.count) (read_next (read_inside c.args.nest c.args.room) (read_more (read_inside c.args.nest c.args.room) (c.args.count - 1))) _ _ _
    (read_more_some (read_inside c.args.nest c.args.room) c.args.count c.args.cursor.now (omega arith)) c.next.ensures.read

pub climb-returns-in_err-right-in-Some-clause-read : goal.climb-returns-in_err-right-in-Some-clause-read
climb-returns-in_err-right-in-Some-clause-read t c =
    let h : c.loop.counter < c.args.room = omega arith in
    let e : onward c.args.room c.args.level c.loop.left c.loop.cursor ≡ Some c.in-Some.op = cc in
    let l : c.level_of.result ≡ level_of c.in-Some.op = c.level_of.ensures in
    let s : c.pass.new.self ≡ drop 1 c.loop.cursor = c.pass.ensures in
    let p = err_from_is_err_and c.from_residual.result c.from_residual.ensures.1 in
    rw (p.1, p.2) (reads_err (read_at c.args.nest c.args.room (c.level_of.result + 1)) (climb (read_at c.args.nest c.args.room) c.args.room c.args.level c.args.room c.args.first)
    c.pass.new.self c.read_at.new.cursor c.args.cursor.now c.read_at.new.cursor _ c.in_err-right-in-Some.ensures.read
    (λ n. let k : read_at c.args.nest c.args.room (level_of c.in-Some.op + 1) (drop 1 c.loop.cursor) ≡ None = rw (← l, ← s) n in
    sym c.loop.invariant.reads ∙ climb_breaks _ _ _ _ _ _ _ _ h e k))

pub climb-returns-in-None-clause-read : goal.climb-returns-in-None-clause-read
climb-returns-in-None-clause-read t c =
    let e : onward c.args.room c.args.level c.loop.left c.loop.cursor ≡ None = cc in
    sym c.loop.invariant.reads ∙ climb_ends _ _ _ _ _ _ _ e

pub climb-returns-clause-read : goal.climb-returns-clause-read
climb-returns-clause-read t c = sym c.loop.invariant.reads ∙ climb_done _ _ _ _ _ _ _ (omega arith)

pub climb-loop-preserved : goal.climb-loop-preserved
climb-loop-preserved t c =
    let h : c.loop.counter < c.args.room = omega arith in
    let e : onward c.args.room c.args.level c.loop.left c.loop.cursor ≡ Some c.in-Some.op = cc in
    let l : c.level_of.result ≡ level_of c.in-Some.op = c.level_of.ensures in
    let s : c.pass.new.self ≡ drop 1 c.loop.cursor = c.pass.ensures in
    let k : read_at c.args.nest c.args.room (level_of c.in-Some.op + 1) (drop 1 c.loop.cursor) ≡ Some (c.in_ok-right-in-Some.right, c.read_at.new.cursor) =
    rw (← l, ← s) c.in_ok-right-in-Some.ensures.read in
    let joined : c.in_ok-left-in-Some.left ≡ between c.in-Some.op c.loop.left c.in_ok-right-in-Some.right = c.in_ok-left-in-Some.ensures in
    record {
      reads = rw joined (climb_goes_on _ _ _ _ _ _ _ _ _ _ h e k ∙ c.loop.invariant.reads);
      shallow = rw joined (omega (arith, c.in-Some.ensures.shallow, c.in_ok-right-in-Some.ensures.shallow));
    }
