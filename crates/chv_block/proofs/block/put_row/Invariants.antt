use Rattle.std.proofs.Common.{◌≡◌, ◌++◌, drop}
use Rattle.chv_block.specs.Spellings.{AreOf, row_spelling}
use Rattle.chv_block.proofs.block.put_row.Given as goal

abbrev pub invariant-loop-i : goal.invariant-loop-i
invariant-loop-i l = record {
  put : l.out.items ++ row_spelling (drop l.i l.kinds) (drop l.i l.row) ≡ l.fn.out.items ++ row_spelling l.kinds l.row;
  row : AreOf (drop l.i l.kinds) (drop l.i l.row);
}
