use Rattle.std.proofs.Common.{◌≡◌, length}
use Rattle.chv_agg.specs.StateReading.{RiseAt}
use Rattle.chv_agg.proofs.reading.read_rising.Given as goal

abbrev pub invariant-loop : goal.invariant-loop
invariant-loop l = record {
  rise : RiseAt l.arg l.values l.bytes l.at l.place;
  count : length l.values ≡ l.counter;
}
