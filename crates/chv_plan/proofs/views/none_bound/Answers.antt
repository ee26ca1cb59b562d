-- One place more, and nothing is in it.
use Rattle.std.proofs.Common.{◌≡◌, Option, None, length, refl, sym, ap, subst, arith}
use Rattle.std.specs.List.{All}
use Rattle.std.proofs.lemmas.List.{length_push}
use Rattle.std.proofs.lemmas.List.Elements.{All-push}
use Rattle.chv_plan.specs.declared.views.BoundView.{BoundView}
use Rattle.chv_plan.proofs.views.none_bound.Goals as goal

pub loop-preserved : goal.loop-preserved
loop-preserved c =
    let IsNone = λ (view : Option BoundView). view ≡ None in
    record {
      places = omega (arith, ap length c.in_ok-push.ensures.items, length_push c.loop.bound.items None, c.loop.invariant.places);
      none = subst (All IsNone) (sym c.in_ok-push.ensures.items) (All-push IsNone c.loop.bound.items None c.loop.invariant.none refl);
    }
