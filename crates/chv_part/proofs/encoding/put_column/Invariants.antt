use Rattle.std.proofs.Common.{◌≡◌, ◌++◌, drop}
use Rattle.chv_part.specs.Columns.{ColumnIsOf}
use Rattle.chv_part.specs.Parts.{column_spelling}
use Rattle.chv_part.proofs.encoding.put_column.Given as goal

abbrev pub invariant-loop-i : goal.invariant-loop-i
invariant-loop-i l = record {
  put : l.out.items ++ column_spelling l.kind l.place (drop l.i l.rows) ≡ l.fn.out.items ++ column_spelling l.kind l.place l.rows;
  values : ColumnIsOf l.kind l.place (drop l.i l.rows);
}
