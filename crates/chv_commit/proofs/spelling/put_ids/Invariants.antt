use Rattle.std.proofs.Common.{◌≡◌, ◌++◌, take}
use Rattle.std.specs.List.{flat_map}
use Rattle.chv_commit.specs.Commits.{id_spelling}
use Rattle.chv_commit.proofs.spelling.put_ids.Given as goal

abbrev pub invariant-loop-id : goal.invariant-loop-id
invariant-loop-id l = l.bytes.items ≡ l.fn.bytes.items ++ flat_map id_spelling (take l.id-index l.ids)
