-- One view more on the path is bound.
use Rattle.std.proofs.Common.{◌≡◌, ◌<◌, length, subst, take, arith}
use Rattle.std.specs.List.{All}
use Rattle.std.proofs.lemmas.List.{take_all}
use Rattle.std.proofs.lemmas.List.Elements.{All-get_or, All-nil}
use Rattle.chv_plan.specs.Bound.{IsThere}
use Rattle.chv_plan.proofs.BoundLemmas.{BindsMore-same, BindsMore-then, there-more}
use Rattle.chv_plan.proofs.views.bind_along.Goals as goal

pub loop-view-init : goal.loop-view-init
loop-view-init c = record {
  more = BindsMore-same c.args.schema.now.catalog c.args.bound.now.items c.requires.bound;
  there = All-nil (IsThere c.args.bound.now.items);
}

pub bind_once-requires-clause-last : goal.bind_once-requires-clause-last
bind_once-requires-clause-last c = All-get_or (λ view. view < length c.args.schema.now.catalog.views) c.args.path.now c.loop-view.view-index 0 c.loop-view-test.true c.requires.there

pub bind_once-requires-clause-bound : goal.bind_once-requires-clause-bound
bind_once-requires-clause-bound c = c.loop-view.invariant.more.bound

pub loop-view-preserved : goal.loop-view-preserved
loop-view-preserved c =
    let catalog = c.args.schema.now.catalog in
    let mid = c.loop-view.bound.items in
    let new = c.bind_once.new.bound.items in
    let more = c.in_ok-bind_once.ensures.more in
    record {
      more = BindsMore-then catalog c.args.bound.now.items mid new c.loop-view.invariant.more more;
      there = there-more catalog mid new c.args.path.now c.loop-view.view-index 0 more c.loop-view.invariant.there c.loop-view-test.true c.in_ok-bind_once.ensures.there;
    }

pub returns-clause-there : goal.returns-clause-there
returns-clause-there c =
    let path = c.args.path.now in
    let whole : take c.loop-view.view-index path ≡ path = take_all c.loop-view.view-index path (omega (arith, c.loop-view-test.false)) in
    subst (All (IsThere c.loop-view.bound.items)) whole c.loop-view.invariant.there
