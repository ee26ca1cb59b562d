-- Bytes at a place of other bytes.
use Rattle.std.specs.Prelude.{ℕ, ◌≡◌, ◌≤◌, ◌<◌, ◌+◌, List, ◌++◌, length, drop, slice_index}

-- each number of a list is a byte
abbrev pub AreBytes : List ℕ → Type 0
AreBytes bytes = (i : ℕ) → slice_index bytes i < 256

-- at this place of bytes stands this spelling, and `behind` is the place behind it
pub record StandsAt (spelling bytes : List ℕ) (at behind : ℕ) : Type 0 where
  pub next : behind ≡ at + length spelling
  pub within : behind ≤ length bytes
  pub spelled : drop at bytes ≡ spelling ++ drop behind bytes
