use Rattle.std.proofs.Common.{◌≤◌, ℕ, List, length, get_or, subst, sym, ap, ◌∙◌, arith}
use Rattle.chv_lex.specs.Scripts.{unit_length}
use Rattle.chv_lex.proofs.ScriptLemmas.{goes, ends_at, ends}
use Rattle.chv_lex.proofs.script.piece_length.Goals as goal

pub returns-then-rest-eq59-clause-cut : goal.returns-then-rest-eq59-clause-cut
returns-then-rest-eq59-clause-cut c =
    let back = c.split_at.ensures.back in
    ends_at c.args.text.now c.loop-at.at c.loop-at-test.true
    (ap (λ (l : List ℕ). get_or l 0 0) (sym back) ∙ c.if-rest-eq59.true) c.loop-at.invariant.so_far

pub loop-at-preserved : goal.loop-at-preserved
loop-at-preserved c =
    let back = c.split_at.ensures.back in
    let n = c.unit_length-at.result in record {
      so_far = goes c.args.text.now c.loop-at.at n c.loop-at-test.true
          (λ is. c.if-rest-eq59.false (ap (λ (l : List ℕ). get_or l 0 0) back ∙ is))
          (c.unit_length-at.ensures.value ∙ ap (λ (l : List ℕ). unit_length l) back)
          c.unit_length-at.ensures.some
          (subst (λ (l : List ℕ). n ≤ length l) back c.unit_length-at.ensures.within)
          c.loop-at.invariant.so_far;
      within = omega arith;
    }

pub returns-clause-cut : goal.returns-clause-cut
returns-clause-cut c = ends c.args.text.now c.loop-at.at (omega arith) c.loop-at.invariant.within c.loop-at.invariant.so_far
