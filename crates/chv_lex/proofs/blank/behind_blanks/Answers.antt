use Rattle.std.proofs.Common.{ℕ, List, ◌<◌, ap, ◌∙◌, drop, arith}
use Rattle.chv_lex.specs.Blanks.{blank_length, behind_blanks}
use Rattle.chv_lex.proofs.BlankLemmas.{behind_goes}
use Rattle.chv_lex.proofs.blank.behind_blanks.Goals as goal

pub loop-text-preserved : goal.loop-text-preserved
loop-text-preserved c =
    let text = c.loop-text.text.now in
    let n = c.blank_length-length.result in
    let some : 0 < blank_length text = omega (arith, c.if-length-eq0.false, c.blank_length-length.ensures.value) in (
      ap (λ (l : List ℕ). behind_blanks 0 l) (c.split_at.ensures.back ∙ ap (λ (k : ℕ). drop k text) c.blank_length-length.ensures.value)
          ∙ behind_goes text some
          ∙ c.loop-text.invariant.0,
      omega arith,
    )
