use Rattle.std.proofs.Common.{◌≡◌, length, drop}
use Rattle.std.specs.List.{All}
use Rattle.chv_block.specs.Spellings.{AreOf, IsSmall}
use Rattle.chv_plan.specs.Places.{ArePlaces, written}
use Rattle.chv_plan.proofs.row.written_row.Given as goal

abbrev pub invariant-loop-i : goal.invariant-loop-i
invariant-loop-i l = record {
  left : written l.kinds (drop l.i l.places) (drop l.i l.literals) l.row.items ≡ written l.kinds l.places l.literals l.fn.row.items;
  kinds : AreOf l.kinds l.row.items;
  small : All IsSmall l.row.items;
  places : ArePlaces (length l.kinds) (drop l.i l.places);
}
