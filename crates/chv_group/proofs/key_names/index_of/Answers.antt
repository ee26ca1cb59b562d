use Rattle.std.proofs.Common.{◌≡◌, ◌∙◌, ℤ, ap, rules, to_z, of_z}
use Rattle.std.specs.Int.{w128}
use Rattle.std.specs.List.{position}
use Rattle.std.specs.Ordering.{int_eq}
use Rattle.chv_group.proofs.key_names.index_of.Goals as goal

pub returns-clause-place : goal.returns-clause-place
returns-clause-place c =
    let same : to_z w128 (of_z w128 c.args.n) ≡ c.args.n = search rules in
    c.get_index_of.ensures.index ∙ ap (λ (n : ℤ). position (int_eq n) c.args.numbers.now.keys) same
