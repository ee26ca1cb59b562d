use Rattle.std.proofs.Common.{false, subst}
use Rattle.std.proofs.lemmas.List.{take_rest}
use Rattle.chv_merge.specs.Picks.{AreLowest, levels_of}
use Rattle.chv_merge.proofs.PickLemmas.{AreHigher-none, AreHigher-some, AreLowest-lower, AreLowest-next, AreLowest-past, level_indexed, share-from_rest, share-to_rest}
use Rattle.chv_merge.proofs.picking.lower.Goals as goal

pub returns-then-not-share_level : goal.returns-then-not-share_level
returns-then-not-share_level c =
    let layout = c.args.layout.now in
    AreLowest-past (levels_of layout) c.args.from _ c.args.before (level_indexed layout c.args.from _ c.requires.place)
    (λ share. let shared = (rw take_rest at c.share_level.ensures).1 (share-to_rest layout c.args.from _ share) in cc) c.requires.before

pub returns-in-Some : goal.returns-in-Some
returns-in-Some c =
    let layout = c.args.layout.now in
    AreLowest-lower (levels_of layout) c.args.from _ c.in-Some.run' (level_indexed layout c.args.from _ c.requires.place) c.if-run-level.true
    (subst (AreLowest (levels_of layout) c.args.from) c.in-Some.is c.requires.before)

pub returns-in_default : goal.returns-in_default
returns-in_default c =
    let layout = c.args.layout.now in
    AreLowest-next (levels_of layout) c.args.from _ (share-from_rest layout c.args.from _ ((rw take_rest at c.share_level.ensures).0 c.if-not-share_level.false))
    (AreHigher-some (levels_of layout) c.args.from _ c.in-Some.run' (subst (AreLowest (levels_of layout) c.args.from) c.in-Some.is c.requires.before) c.if-run-level.false)

pub returns-in_default-2 : goal.returns-in_default-2
returns-in_default-2 c =
    let layout = c.args.layout.now in
    AreLowest-next (levels_of layout) c.args.from _ (share-from_rest layout c.args.from _ ((rw take_rest at c.share_level.ensures).0 c.if-not-share_level.false))
    (AreHigher-none (levels_of layout) c.args.from _ (subst (AreLowest (levels_of layout) c.args.from) c.in_default.is c.requires.before))
