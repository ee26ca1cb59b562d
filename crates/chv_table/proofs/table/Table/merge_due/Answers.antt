-- What is picked is what is due.
use Rattle.std.proofs.Common.{rules, ◌≡◌, Option, IsSome, IsTrue, map, subst}
use Rattle.chv_commit.specs.Replays.{span_of}
use Rattle.chv_merge.specs.declared.run.Run.{Run}
use Rattle.chv_part.specs.Merging.{due}
use Rattle.chv_table.proofs.MergeLemmas.{picked_is}
use Rattle.chv_table.proofs.table.Table.merge_due.Goals as goal

pub returns : goal.returns
returns c =
    let layout = c.args.self.now.replay.state.layout in
    let same : c.pick.result ≡ due (map span_of layout) = picked_is layout c.layout.result.now c.pick.result c.pick.ensures c.layout.ensures in
    let is : (IsTrue c.is_some.result → IsSome c.pick.result) × (IsSome c.pick.result → IsTrue c.is_some.result) = search rules in
    subst (λ (o : Option Run). (IsTrue c.is_some.result → IsSome o) × (IsSome o → IsTrue c.is_some.result)) same is
