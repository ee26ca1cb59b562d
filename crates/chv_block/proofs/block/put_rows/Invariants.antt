use Rattle.std.proofs.Common.{◌≡◌, ◌++◌, drop}
use Rattle.chv_block.specs.Spellings.{AllAreOf, rows_spelling}
use Rattle.chv_block.proofs.block.put_rows.Given as goal

abbrev pub invariant-loop-i : goal.invariant-loop-i
invariant-loop-i l = record {
  put : l.out.items ++ rows_spelling l.kinds (drop l.i l.rows) ≡ l.fn.out.items ++ rows_spelling l.kinds l.rows;
  rows : AllAreOf l.kinds (drop l.i l.rows);
}
