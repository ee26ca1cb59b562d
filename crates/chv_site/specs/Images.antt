-- What a crash may leave of the files: docs/FORMATS.md, "Crash rules".
use Rattle.std.specs.Prelude.{ℕ, ◌≡◌, ◌+◌, ◌<◌, ◌≤◌, max, List, length, take, drop, slice_index}
use Rattle.chv_site.specs.declared.file_id.FileId.{FileId}
use Rattle.chv_site.specs.Files.{FileState, IsUntouched, IsFrontOf}

-- the bytes of each file
abbrev pub Image : Type 0
Image = FileId → List ℕ

-- a crash may leave these bytes of a file: their number lies between its least and its most, and what is below the
-- least and was not touched is as it reads
pub record IsFileImage (state : FileState) (image : List ℕ) : Type 0 where
  pub no_shorter : state.least ≤ length image
  pub no_longer : length image ≤ state.most
  pub safe : (place : ℕ) → place < state.least → IsUntouched state.touched place → slice_index image place ≡ slice_index state.bytes place

-- a crash may leave these files
abbrev pub IsImage : (FileId → FileState) → Image → Type 0
IsImage files image = (f : FileId) → IsFileImage (files f) (image f)

-- a crash may leave these files beside the text that was said
abbrev pub IsLeft : (FileId → FileState) → List ℕ → Image → List ℕ → Type 0
IsLeft files said image text = IsImage files image × (text ≡ said)

-- a crash may leave these files beside the text that was said and a front of these bytes
abbrev pub IsLeftSaying : (FileId → FileState) → List ℕ → List ℕ → Image → List ℕ → Type 0
IsLeftSaying files said bytes image text = IsImage files image × IsFrontOf bytes said text

-- a crash may leave this of bytes that were on the disk, where since then n bytes were put at a place
pub record IsTorn (at n : ℕ) (old image : List ℕ) : Type 0 where
  pub before : take at image ≡ take at old
  pub behind : drop (at + n) image ≡ drop (at + n) old
  pub no_shorter : length old ≤ length image
  pub no_longer : length image ≤ max (length old) (at + n)

-- the number of bytes that a read gives is one that a crash may leave
pub record HasLengths (state : FileState) : Type 0 where
  pub no_shorter : state.least ≤ length state.bytes
  pub no_longer : length state.bytes ≤ state.most
