use Rattle.std.proofs.Common.{◌≡◌, ◌∙◌, ◌<◌, length, get_or, inl, inr, arith}
use Rattle.chv_site.proofs.Ranges.{untouched_next, touched_next}
use Rattle.chv_site.proofs.copying.fill_all.Goals as goal

pub loop-range-preserved : goal.loop-range-preserved
loop-range-preserved c = record {
  same_length = c.fill.ensures.length ∙ c.loop-range.invariant.same_length;
  touched = λ place below h.
      let within : place < length c.loop-range.bytes = omega (arith, c.loop-range.invariant.same_length) in
      elim (touched_next c.args.ranges.now c.loop-range.range-index place (0, 0) c.loop-range-test.true h) as (λ _. get_or c.fill.new.bytes place 0 ≡ c.args.byte) [
        | inl front ↦ c.fill.ensures.either place (c.loop-range.invariant.touched place below front)
        | inr last ↦ c.fill.ensures.inside place last.0 last.1 within
      ];
  untouched = λ place h.
      let parts = untouched_next c.args.ranges.now c.loop-range.range-index place (0, 0) c.loop-range-test.true h in
      c.fill.ensures.outside place parts.1 ∙ c.loop-range.invariant.untouched place parts.0;
  either = λ place h. c.fill.ensures.either place (c.loop-range.invariant.either place h);
}
