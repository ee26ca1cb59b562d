use Rattle.chv_merge.proofs.PickLemmas.{AreLowest-picked, picked-AreLowest}
use Rattle.chv_merge.proofs.pick_laws.law_picked.Goals as goal

pub returns : goal.returns
returns c = record { lowest = picked-AreLowest; only = AreLowest-picked }
