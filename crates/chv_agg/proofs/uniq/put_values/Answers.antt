use Rattle.std.proofs.Common.{◌++◌, ◌∙◌, sym}
use Rattle.std.specs.List.Sorted.{IsPermutation}
use Rattle.chv_agg.proofs.DistinctLemmas.{members-moved}
use Rattle.chv_agg.proofs.uniq.put_values.Goals as goal

pub returns-clause-put : goal.returns-clause-put
returns-clause-put c =
    let moved : IsPermutation (c.args.values.now ++ c.args.more.items) c.move_values.new.to.items = c.in_ok-move_values.ensures.moved in
    c.from_vec.ensures ∙ c.settle.ensures ∙ sym (members-moved _ _ moved)
