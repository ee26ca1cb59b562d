use Rattle.std.proofs.Common.{◌≡◌, drop}
use Rattle.chv_query.specs.Keys.{aliased}
use Rattle.chv_query.proofs.keys.aliased.Given as goal

abbrev pub invariant-loop-item : goal.invariant-loop-item
invariant-loop-item l = aliased l.name l.items ≡ aliased l.name (drop l.item-index l.items)
