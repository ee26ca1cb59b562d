use Rattle.std.proofs.Common.{◌≡◌, ◌++◌, length}
use Rattle.std.specs.List.{flat_map}
use Rattle.chv_merge.proofs.blocks.append_all.Given as goal

abbrev pub invariant-loop-block : goal.invariant-loop-block
invariant-loop-block l = l.rows ++ flat_map (λ block. block) l.others.items ≡ l.initial.rows ++ flat_map (λ block. block) l.initial.others.items

abbrev pub decreases-loop-block : goal.decreases-loop-block
decreases-loop-block l = length l.others.items
