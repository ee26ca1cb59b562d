use Rattle.std.proofs.Common.{Some, None, ap, ◌∙◌, arith}
use Rattle.std.proofs.lemmas.Option.{same_Some}
use Rattle.chv_merge.specs.Picks.{levels_of}
use Rattle.chv_merge.proofs.PickLemmas.{level_found, level_missing, not_shared, shared_all, shared_more}
use Rattle.chv_merge.proofs.picking.share_level.Goals as goal

pub loop-place-init : goal.loop-place-init
loop-place-init c = λ i low. absurd (omega (arith, low))

pub returns-then-part-level : goal.returns-then-part-level
returns-then-part-level c = (
  λ h. cc,
  λ share. absurd (not_shared (levels_of c.args.parts.now) c.args.level c.loop-place.place (Some c.in-Some.part.now.level) c.loop-place-test.true
      (level_found c.args.parts.now c.loop-place.place c.at.result c.in-Some.part c.at.ensures c.in-Some.is)
      (λ e. c.if-part-level.true (same_Some c.in-Some.part.now.level c.args.level e)) share),
)

pub returns-in-None : goal.returns-in-None
returns-in-None c = (
  λ h. cc,
  λ share. absurd (not_shared (levels_of c.args.parts.now) c.args.level c.loop-place.place None c.loop-place-test.true
      (level_missing c.args.parts.now c.loop-place.place c.at.result c.at.ensures c.in-None.is)
      (λ e. cc) share),
)

pub loop-place-preserved : goal.loop-place-preserved
loop-place-preserved c =
    shared_more (levels_of c.args.parts.now) c.args.level c.loop-place.place c.loop-place.invariant
    (level_found c.args.parts.now c.loop-place.place c.at.result c.in-Some.part c.at.ensures c.in-Some.is ∙ ap Some c.if-part-level.false)

pub returns : goal.returns
returns c = (
  λ h. shared_all (levels_of c.args.parts.now) c.args.level c.loop-place.place (omega (arith, c.loop-place-test.false)) c.loop-place.invariant,
  λ share. search,
)
