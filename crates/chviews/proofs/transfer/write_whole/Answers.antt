use Rattle.std.proofs.Common.{rules, ◌++◌, take, sym, ap, ◌∙◌, subst}
use Rattle.std.proofs.Math.Seq.{take-add}
use Rattle.std.proofs.lemmas.List.{take_rest}
use Rattle.std.specs.Io.KnownBytes.{Appends}
use Rattle.chviews.proofs.TransferLemmas.{Appends-trans}
use Rattle.chviews.proofs.transfer.write_whole.Goals as goal

pub loop-done-preserved : goal.loop-done-preserved
loop-done-preserved g c =
    let bytes = c.args.bytes.now in
    let done = c.loop-done.done in
    let n = c.in_ok-n.n in
    let rest = ap (λ xs. take done bytes ++ take n xs) (take_rest bytes done) in
    (search rules, subst (Appends _ _) (rest ∙ sym (take-add done n bytes)) (Appends-trans _ _ _ _ _ c.loop-done.invariant.1 c.in_ok-n.ensures.bytes))
