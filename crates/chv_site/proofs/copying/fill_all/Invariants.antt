use Rattle.std.proofs.Common.{◌≡◌, ℕ, ◌<◌, length, take, get_or}
use Rattle.chv_site.specs.Files.{IsUntouched}
use Rattle.chv_site.specs.Crash.{IsTouched}
use Rattle.chv_site.proofs.copying.fill_all.Given as goal

abbrev pub invariant-loop-range : goal.invariant-loop-range
invariant-loop-range l = record {
  same_length : length l.bytes ≡ length l.fn.bytes;
  touched : (place : ℕ) → place < length l.fn.bytes → IsTouched (take l.range-index l.ranges) place → get_or l.bytes place 0 ≡ l.byte;
  untouched : (place : ℕ) → IsUntouched (take l.range-index l.ranges) place → get_or l.bytes place 0 ≡ get_or l.fn.bytes place 0;
  either : (place : ℕ) → get_or l.fn.bytes place 0 ≡ l.byte → get_or l.bytes place 0 ≡ l.byte;
}
