use Rattle.std.proofs.Common.{◌≡◌, ◌+◌, ◌*◌, ◌≤◌, length, drop}
use Rattle.chv_block.specs.Spellings.{AreOf, row_spelling}
use Rattle.chv_block.proofs.size.row_size.Given as goal

abbrev pub invariant-loop-i : goal.invariant-loop-i
invariant-loop-i l = record {
  sum : l.size + length (row_spelling (drop l.i l.kinds) (drop l.i l.values)) ≡ length (row_spelling l.kinds l.values);
  row : AreOf (drop l.i l.kinds) (drop l.i l.values);
  most : l.size ≤ l.i * 1048580;
}
