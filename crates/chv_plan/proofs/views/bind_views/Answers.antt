-- The views on a path more are bound.
use Rattle.std.proofs.Common.{◌≡◌, ◌∙◌, subst, take, arith}
use Rattle.std.specs.List.{All}
use Rattle.std.proofs.lemmas.List.{take_all}
use Rattle.std.proofs.lemmas.List.Elements.{All-nil}
use Rattle.chv_plan.specs.Bound.{AreThere, IsThere}
use Rattle.chv_plan.proofs.BoundLemmas.{AreThere-more, none_bound, path_there}
use Rattle.chv_plan.proofs.views.bind_views.Goals as goal

pub loop-path-init : goal.loop-path-init
loop-path-init c = record {
  bound = none_bound c.args.schema.now.catalog c.in_ok-bound.bound.items (c.in_ok-bound.ensures.places ∙ c.views.ensures.count) c.in_ok-bound.ensures.none;
  there = All-nil (All (IsThere c.in_ok-bound.bound.items));
}

pub bind_along-requires-clause-there : goal.bind_along-requires-clause-there
bind_along-requires-clause-there c =
    path_there c.args.schema.now.catalog c.args.table c.as_slice-path-items.result.now c.loop-path.path-index c.as_slice.result.now c.path-item.result
    (c.as_slice-path-items.ensures ∙ c.in_ok-paths.ensures) c.loop-path-test.true (c.as_slice.ensures ∙ c.path-item.is)

pub loop-path-preserved : goal.loop-path-preserved
loop-path-preserved c =
    let more = c.in_ok-bind_along.ensures.more in
    record {
      bound = more.bound;
      there =
          AreThere-more c.args.schema.now.catalog c.loop-path.bound.items c.bind_along.new.bound.items c.as_slice-path-items.result.now c.loop-path.path-index c.as_slice.result.now c.path-item.result
          more c.loop-path.invariant.there c.loop-path-test.true (c.as_slice.ensures ∙ c.path-item.is) c.in_ok-bind_along.ensures.there;
    }

pub returns-clause-all : goal.returns-clause-all
returns-clause-all c =
    let whole : take c.loop-path.path-index c.as_slice-path-items.result.now ≡ c.as_slice-path-items.result.now = take_all c.loop-path.path-index c.as_slice-path-items.result.now (omega (arith, c.loop-path-test.false)) in
    subst (AreThere c.loop-path.bound.items) (whole ∙ c.as_slice-path-items.ensures ∙ c.in_ok-paths.ensures) c.loop-path.invariant.there
