use Rattle.std.proofs.Common.{arith}
use Rattle.std.proofs.lemmas.List.{length_push}
use Rattle.chv_plan.proofs.HeldLemmas.{held_more, sound_more}
use Rattle.chv_plan.proofs.insert.deliveries_of.Goals as goal

pub loop-block-preserved : goal.loop-block-preserved
loop-block-preserved c =
    let catalog = c.args.schema.now.catalog in
    record {
      can_next = tt;
      is_finite = tt;
      number = omega (arith, c.loop-block.invariant.number, length_push c.loop-block.yielded c.in-Some.block);
      held =
          held_more catalog c.args.table c.args.kinds.now c.args.token.now c.loop-block.number c.loop-block.yielded c.in-Some.block c.loop-block.deliveries.items c.in_ok-more.more.items c.append.new.self.items
          c.loop-block.invariant.number c.loop-block.invariant.held c.in_ok-more.ensures.held c.in_ok-append.ensures.items;
      sound = sound_more catalog c.args.table c.loop-block.yielded c.in-Some.block c.loop-block.invariant.sound c.in_ok-more.ensures.sound;
    }
