-- The parts of the table of a number.
use Rattle.std.proofs.Common.{sym, ap, ◌∙◌, arith}
use Rattle.chv_commit.specs.Replays.{State}
use Rattle.chv_store.proofs.PlaceLemmas.{items_within, its_state, table_of}
use Rattle.chv_store.proofs.store.Store.parts.Goals as goal

pub index-requires : goal.index-requires
index-requires c = omega (arith, items_within c.args.self.now c.args.table c.requires.within c.requires.table)

pub returns : goal.returns
returns c =
    let self = c.args.self.now in
    let at = table_of self c.args.table c.index.result.now c.requires.within c.requires.table c.index.ensures in
    c.parts.ensures ∙ sym (ap (λ (s : State). s.layout) (its_state self c.args.table c.index.result.now at))
