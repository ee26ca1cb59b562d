use Rattle.std.proofs.Common.{ℕ, List, ◌+◌, get_or, drop, ◌∙◌}
use Rattle.chv_lex.proofs.TextLemmas.{text_on, in_text, behind_quote, behind_backslash}
use Rattle.chv_lex.proofs.text.text_length.Goals as goal
use Rattle.chv_lex.proofs.text.text_length.Goals.{in-Text, in-Quote+else-byte-ne39, in-Backslash}

pub loop-at-preserved : goal.loop-at-preserved
loop-at-preserved c =
    let at = c.loop-at.at in
    let bytes = c.args.bytes.now in
    let place = c.loop-at.within in
    let later = c.match-within.within in
    let byte : ℕ = get_or bytes at 0 in
    let rest : List ℕ = drop (at + 1) bytes in
    text_on place later bytes at _ c.loop-at-test.true c.loop-at.invariant (
    elim c.match-within.branch [
      | in-Text w ↦ in_text place later byte rest w.in-Text.is (w.within-is ∙ w.next_in_text-within.ensures)
      | in-Quote+else-byte-ne39 w ↦ behind_quote place later byte rest w.in-Quote.is w.within-is w.if-byte-ne39.false
      | in-Backslash w ↦ behind_backslash place later byte rest w.in-Backslash.is w.within-is
    ]
    )
