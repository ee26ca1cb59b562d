-- How the live parts of a table are told.
use Rattle.std.specs.Prelude.{pos, List, [], ◌∷◌}
use Rattle.chv_commit.specs.declared.part_row.PartRow.{PartRow}
use Rattle.chv_types.specs.declared.value.Value.{Value}
use Rattle.chv_types.specs.declared.value.Value.TheVariants.{Whole}

-- a live part as a row of four numbers: its first entry and its last, its level, and its rows
abbrev pub row_told : PartRow → List Value
row_told row = Whole (pos row.lo) ∷ (Whole (pos row.hi) ∷ (Whole (pos row.level) ∷ (Whole (pos row.rows) ∷ [])))
