use Rattle.std.proofs.Common.{◌≡◌, ◌++◌, ◌+◌, ◌*◌, length}
use Rattle.std.specs.List.{All, flat_map}
use Rattle.chv_commit.specs.Commits.{id_spelling, AreWords}
use Rattle.chv_commit.proofs.reading.read_ids.Given as goal

abbrev pub invariant-loop : goal.invariant-loop
invariant-loop l = record {
  count : length l.ids.items ≡ l.counter;
  left : 16 * l.counter + length l.rest ≡ 16 * l.count;
  words : All AreWords l.ids.items;
  spelled : l.bytes ≡ flat_map id_spelling l.ids.items ++ l.rest;
}
