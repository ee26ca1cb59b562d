-- Runs of bytes, each with its length in front.
use Rattle.std.specs.Prelude.{ℕ, ◌≡◌, ◌≤◌, ◌<◌, ◌+◌, ◌-◌, ◌^◌, List, ◌++◌, length, take, drop}
use Rattle.byteorder.specs.Endian.{little_bytes, little_number}
use Rattle.chv_bytes.specs.Places.{StandsAt}

-- a run: its length in 4 bytes, and its bytes
abbrev pub run_bytes : List ℕ → List ℕ
run_bytes run = little_bytes 4 (length run) ++ run

-- the bytes from a place up to another
abbrev pub between : ℕ → ℕ → List ℕ → List ℕ
between start end bytes = take (end - start) (drop start bytes)

-- the length that begins at a place is there, and so are as many bytes behind it
pub record RunFits (bytes : List ℕ) (at : ℕ) : Type 0 where
  pub length_fits : at + 4 ≤ length bytes
  pub run_fits : at + 4 + little_number 4 (drop at bytes) ≤ length bytes

-- a run stands at a place, behind its length, and has this start and this end
pub record RunStandsAt (bytes : List ℕ) (at start end : ℕ) : Type 0 where
  pub behind_length : start ≡ at + 4
  pub in_order : start ≤ end
  pub short : end < start + 2 ^ 32
  pub stands : StandsAt (run_bytes (between start end bytes)) bytes at end
