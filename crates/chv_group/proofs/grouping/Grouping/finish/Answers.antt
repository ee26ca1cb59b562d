use Rattle.std.proofs.lemmas.Result.{IfOk-weaker}
use Rattle.chv_group.proofs.grouping.Grouping.finish.Goals as goal

pub finished-requires : goal.finished-requires
finished-requires c = record {
  placed = c.self.invariant.placed;
  whole = rw c.as_slice.ensures c.self.invariant.whole;
  over = rw c.as_slice.ensures c.self.invariant.over;
}

pub returns : goal.returns
returns c =
    rw (← c.self.view_is)
    (IfOk-weaker c.finished.result _ _ (λ rows said taken of. said c.self.inside.names taken of) (rw c.as_slice.ensures at c.finished.ensures))
