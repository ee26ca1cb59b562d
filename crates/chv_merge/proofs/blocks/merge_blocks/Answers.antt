use Rattle.std.proofs.Common.{subst, sym}
use Rattle.chv_agg.specs.OfKinds.{AllAreOf}
use Rattle.chv_merge.proofs.AdjacentLemmas.{AllAreOf-joined}
use Rattle.chv_merge.proofs.blocks.merge_blocks.Goals as goal

pub normal_by-requires : goal.normal_by-requires
normal_by-requires c = record { rows = subst (AllAreOf c.args.kinds.now) (sym c.in_ok-joined.ensures) (AllAreOf-joined c.args.kinds.now c.args.blocks.items c.requires.rows) }
