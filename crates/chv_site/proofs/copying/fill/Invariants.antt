use Rattle.std.proofs.Common.{◌≡◌, ◌⊎◌, ℕ, ◌<◌, ◌≤◌, length, get_or, max}
use Rattle.chv_site.proofs.copying.fill.Given as goal

abbrev pub invariant-loop-place : goal.invariant-loop-place
invariant-loop-place l = record {
  same_length : length l.bytes ≡ length l.fn.bytes;
  so_far : l.place ≤ max l.fn.from l.end;
  inside : (k : ℕ) → l.fn.from ≤ k → k < l.place → get_or l.bytes k 0 ≡ l.byte;
  outside : (k : ℕ) → (k < l.fn.from) ⊎ (l.place ≤ k) → get_or l.bytes k 0 ≡ get_or l.fn.bytes k 0;
}
