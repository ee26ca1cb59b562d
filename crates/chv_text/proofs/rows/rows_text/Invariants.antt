use Rattle.std.proofs.Common.{◌≡◌, take}
use Rattle.std.specs.List.{flat_map}
use Rattle.chv_text.specs.Rows.{row_text}
use Rattle.chv_text.proofs.rows.rows_text.Given as goal

abbrev pub invariant-loop-row : goal.invariant-loop-row
invariant-loop-row l = l.out.items ≡ flat_map (row_text l.kinds) (take l.row-index l.block)
