use Rattle.std.proofs.Common.{◌≡◌, ◌++◌, drop}
use Rattle.chv_text.proofs.RowLemmas.{behind_tabs}
use Rattle.chv_text.proofs.rows.put_behind_tabs.Given as goal

abbrev pub invariant-loop-i : goal.invariant-loop-i
invariant-loop-i l = l.out.items ++ behind_tabs (drop l.i l.kinds) (drop l.i l.values) ≡ l.fn.out.items ++ behind_tabs l.kinds l.values
