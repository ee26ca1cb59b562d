use Rattle.std.proofs.Common.{rules, ◌≡◌}
use Rattle.chv_agg.proofs.TallyLemmas.{members-gathered}
use Rattle.chv_types.specs.Members.{members}
use Rattle.chv_types.specs.Order.{value_cmp}
use Rattle.chv_agg.proofs.gathering.gather_set.Goals as goal

pub returns : goal.returns
returns c =
    let room : members value_cmp c.make_room.new.values.items ≡ members value_cmp c.args.values.now.items = search rules in
    members-gathered c.move_values.result c.args.values.now.items c.make_room.new.values.items c.args.set c.move_values.new.to.items room c.move_values.ensures.moved
