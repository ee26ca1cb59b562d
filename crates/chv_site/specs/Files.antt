-- What a file is to a contract, and what the calls of a site do to it: docs/FORMATS.md, "Crash rules".
use Rattle.std.specs.Prelude.{ℕ, ◌≡◌, ◌≢◌, ◌⊎◌, ◌+◌, ◌<◌, ◌≤◌, min, max, List, [], ◌∷◌, ◌++◌, length, take, drop}
use Rattle.chv_site.specs.declared.file_id.FileId.{FileId}

-- a file: what a read gives, and what was done to it since its last sync that answered Ok
pub record FileState : Type 0 where
  pub bytes : List ℕ
  pub least : ℕ
  pub most : ℕ
  pub touched : List (ℕ × ℕ)

-- nothing is pending: a crash leaves what a read gives
abbrev pub settled : List ℕ → FileState
settled bytes = record { bytes = bytes; least = length bytes; most = length bytes; touched = [] }

-- the place lies in none of these ranges, each from its first place to the one behind its last
abbrev pub IsUntouched : List (ℕ × ℕ) → ℕ → Type 0
IsUntouched [] place = Unit {0}
IsUntouched (range ∷ ranges) place = ((place < range.0) ⊎ (range.1 ≤ place)) × IsUntouched ranges place

-- the old bytes with new ones from a place on
abbrev pub over_written : ℕ → List ℕ → List ℕ → List ℕ
over_written at bytes old = take at old ++ bytes ++ drop (at + length bytes) old

-- a put of n bytes, which may have been cut short: outside its range the bytes are as they were, the length lies
-- between the old one and the new, and no more may be lost by a crash than that range
pub record IsPut (at n : ℕ) (old new : FileState) : Type 0 where
  pub before : take at new.bytes ≡ take at old.bytes
  pub behind : drop (at + n) new.bytes ≡ drop (at + n) old.bytes
  pub no_shorter : length old.bytes ≤ length new.bytes
  pub no_longer : length new.bytes ≤ max (length old.bytes) (at + n)
  pub least : old.least ≤ new.least
  pub most : new.most ≤ max old.most (at + n)
  pub touched : (place : ℕ) → IsUntouched old.touched place → (place < at) ⊎ (at + n ≤ place) → IsUntouched new.touched place

-- a cut to a length, which may have stopped between the old length and that one
pub record IsCut (len : ℕ) (old new : FileState) : Type 0 where
  pub front : new.bytes ≡ take (length new.bytes) old.bytes
  pub no_shorter : len ≤ length new.bytes
  pub least : min old.least len ≤ new.least
  pub most : new.most ≤ old.most
  pub touched : (place : ℕ) → IsUntouched old.touched place → IsUntouched new.touched place

-- every file is as it was
abbrev pub KeepsFiles : (FileId → FileState) → (FileId → FileState) → Type 0
KeepsFiles old new = (f : FileId) → new f ≡ old f

-- every other file is as it was
abbrev pub KeepsOthers : FileId → (FileId → FileState) → (FileId → FileState) → Type 0
KeepsOthers f old new = (g : FileId) → g ≢ f → new g ≡ old g

-- a front of some bytes follows the old text
abbrev pub IsFrontOf : List ℕ → List ℕ → List ℕ → Type 0
IsFrontOf bytes old new = (k : ℕ) × (new ≡ old ++ take k bytes)
