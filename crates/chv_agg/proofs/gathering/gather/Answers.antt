use Rattle.std.proofs.Common.{rules, ◌≡◌, ◌++◌, ◌∷◌, [], List, ap, sym, ◌∙◌}
use Rattle.chv_agg.specs.UniqLaws.{members-settled_first}
use Rattle.chv_types.specs.Members.{members}
use Rattle.chv_types.specs.Order.{value_cmp}
use Rattle.chv_types.specs.declared.value.Value.{Value}
use Rattle.chv_agg.proofs.gathering.gather.Goals as goal

pub returns : goal.returns
returns c =
    let value = c.args.value in
    let put : c.push.new.self.items ≡ c.make_room.new.values.items ++ value ∷ [] = search rules in
    let room : members value_cmp c.make_room.new.values.items ≡ members value_cmp c.args.values.now.items = search rules in
    ap (members value_cmp) put ∙ sym (members-settled_first c.make_room.new.values.items (value ∷ []))
    ∙ ap (λ (xs : List Value). members value_cmp (xs ++ value ∷ [])) room
