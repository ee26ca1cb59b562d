use Rattle.std.proofs.Common.{◌≡◌, ◌++◌, drop}
use Rattle.chv_part.specs.Parts.{columns_spelling}
use Rattle.chv_part.proofs.encoding.put_columns.Given as goal

abbrev pub invariant-loop-place : goal.invariant-loop-place
invariant-loop-place l = l.out.items ++ columns_spelling l.place (drop l.place l.kinds) l.rows ≡ l.fn.out.items ++ columns_spelling 0 l.kinds l.rows
