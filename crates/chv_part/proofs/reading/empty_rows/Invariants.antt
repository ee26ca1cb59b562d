use Rattle.std.proofs.Common.{◌≡◌, [], length}
use Rattle.chv_block.specs.Spellings.{AllAreOf}
use Rattle.chv_part.proofs.reading.empty_rows.Given as goal

abbrev pub invariant-loop : goal.invariant-loop
invariant-loop l = record {
  count : length l.rows.items ≡ l.counter;
  empty : AllAreOf [] l.rows.items;
}
