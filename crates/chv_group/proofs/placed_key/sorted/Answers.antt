use Rattle.std.proofs.Common.{rules}
use Rattle.std.proofs.lemmas.Fn.{always_returns_same}
use Rattle.chv_group.proofs.FinishLemmas.{key_below-IsStrictWeakOrder}
use Rattle.chv_group.specs.Keys.{key_below}
use Rattle.chv_group.proofs.placed_key.sorted.Goals as goal

pub returns-clause-sorted : goal.returns-clause-sorted
returns-clause-sorted c =
    c.sort_unstable_by.ensures.sorted key_below key_below-IsStrictWeakOrder (always_returns_same _ _ _ (λ a r f called. search rules))
