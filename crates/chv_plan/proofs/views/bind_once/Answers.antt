-- The view is bound already, or it is bound now.
use Rattle.std.proofs.Common.{◌∙◌, ◌<◌, length, is_some, ap, refl, sym, arith}
use Rattle.chv_plan.proofs.BoundLemmas.{BindsMore-one, BindsMore-same, already_there, bound_there}
use Rattle.chv_plan.proofs.views.bind_once.Goals as goal

pub index-requires : goal.index-requires
index-requires c = omega (arith, c.requires.last, c.requires.bound.places)

pub index_mut-requires : goal.index_mut-requires
index_mut-requires c = omega (arith, c.requires.last, c.requires.bound.places)

pub returns-then-is_some-clause-more : goal.returns-then-is_some-clause-more
returns-then-is_some-clause-more c = BindsMore-same c.args.schema.now.catalog c.args.bound.now.items c.requires.bound

pub returns-then-is_some-clause-there : goal.returns-then-is_some-clause-there
returns-then-is_some-clause-there c =
    let within : c.args.view < length c.args.bound.now.items = omega (arith, c.requires.last, c.requires.bound.places) in
    already_there c.args.bound.now.items c.args.view c.index.result.now within (ap is_some (sym c.index.ensures) ∙ sym c.is_some.ensures ∙ c.if-is_some.true)

pub returns-clause-more : goal.returns-clause-more
returns-clause-more c =
    let within : c.args.view < length c.args.bound.now.items = omega (arith, c.requires.last, c.requires.bound.places) in
    BindsMore-one c.args.schema.now.catalog c.args.bound.now.items _ c.args.view c.in_ok-new.new within refl c.requires.bound c.in_ok-new.ensures.bound

pub returns-clause-there : goal.returns-clause-there
returns-clause-there c =
    let within : c.args.view < length c.args.bound.now.items = omega (arith, c.requires.last, c.requires.bound.places) in
    bound_there c.args.schema.now.catalog c.args.bound.now.items _ c.args.view c.in_ok-new.new within refl
