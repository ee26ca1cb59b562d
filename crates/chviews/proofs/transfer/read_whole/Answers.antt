use Rattle.std.proofs.Common.{rules, sym, subst}
use Rattle.std.specs.Io.KnownBytes.{Consumes}
use Rattle.chviews.proofs.TransferLemmas.{Consumes-trans, take-put_mid_more}
use Rattle.chviews.proofs.transfer.read_whole.Goals as goal

pub loop-done-preserved : goal.loop-done-preserved
loop-done-preserved g c =
    let (same, within, consumed) = c.loop-done.invariant in
    let read = c.in_ok-n.ensures in
    let more = take-put_mid_more c.loop-done.done _ c.in_ok-n.n c.loop-done.buf c.read.new.buf within read.bound.0 in
    (search rules, search rules, subst (Consumes _ _) (sym more) (Consumes-trans _ _ _ _ _ consumed read.bytes.0))
