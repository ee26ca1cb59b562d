-- The images that a site in memory gives for a crash.
use Rattle.std.specs.Prelude.{ℕ, ◌≡◌, ◌⊎◌, ◌<◌, ◌≤◌, List, [], ◌∷◌, false, length, slice_index}
use Rattle.chv_site.specs.declared.file_id.FileId.{FileId}
use Rattle.chv_site.specs.declared.pick.Pick.{Pick}
use Rattle.chv_site.specs.declared.pick.Pick.TheVariants.{Old, New, Torn}
use Rattle.chv_site.specs.Files.{FileState, IsUntouched}
use Rattle.chv_site.specs.Calls.{Kept, restored, is_file}

-- the place lies in one of these ranges
abbrev pub IsTouched : List (ℕ × ℕ) → ℕ → Type 0
IsTouched [] place = ⊥
IsTouched (range ∷ ranges) place = ((range.0 ≤ place) × (place < range.1)) ⊎ IsTouched ranges place

-- the file at its greatest length, with this byte in every place that a crash may change
pub record IsTornBy (byte : ℕ) (state : FileState) (image : List ℕ) : Type 0 where
  pub longest : length image ≡ state.most
  pub safe : (place : ℕ) → place < state.least → IsUntouched state.touched place → slice_index image place ≡ slice_index state.bytes place
  pub torn : (place : ℕ) → place < state.most → (state.least ≤ place) ⊎ IsTouched state.touched place → slice_index image place ≡ byte

-- the bytes that are taken of a file
abbrev pub IsPicked : Pick → Kept → List ℕ → Type 0
IsPicked Old kept image = image ≡ kept.synced
IsPicked New kept image = image ≡ kept.state.bytes
IsPicked (Torn byte) kept image = IsTornBy byte kept.state image

-- after a crash, the file has the bytes that were picked, and nothing is pending
pub record IsRestored (pick : Pick) (old new : Kept) : Type 0 where
  pub image : List ℕ
  pub picked : IsPicked pick old image
  pub now : new ≡ restored image

-- none of these names is that of the file
abbrev pub IsAbsent : FileId → List FileId → Type 0
IsAbsent g [] = Unit {0}
IsAbsent g (f ∷ names) = (is_file g f ≡ false) × IsAbsent g names
