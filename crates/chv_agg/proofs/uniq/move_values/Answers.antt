use Rattle.std.proofs.Common.{rules, arith, ◌≡◌, ◌++◌, ◌∷◌, [], length, length-append, ap}
use Rattle.chv_agg.proofs.DistinctLemmas.{IsPermutation-moved}
use Rattle.chv_agg.proofs.uniq.move_values.Goals as goal

pub loop-value-preserved : goal.loop-value-preserved
loop-value-preserved c =
    let taken : c.loop-value.values ≡ c.pop.new.self ++ c.in-Some.value ∷ [] = search rules in
    let put : c.push.new.self.items ≡ c.loop-value.to.items ++ c.in-Some.value ∷ [] = search rules in
    record {
      room = omega (arith, c.in_ok-push.ensures.len, c.push.ensures.capacity, c.loop-value.invariant.room, ap length taken, length-append c.pop.new.self (c.in-Some.value ∷ []));
      moved = rw put (IsPermutation-moved _ c.pop.new.self c.loop-value.to.items c.in-Some.value (rw taken at c.loop-value.invariant.moved));
    }
