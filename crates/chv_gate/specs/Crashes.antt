-- What a crash may leave while one log is written: docs/FORMATS.md, "Crash rules".
use Rattle.std.specs.Prelude.{ℕ, ◌≡◌, ◌≢◌, ◌⊎◌, List, [], ◌∷◌, ◌++◌}
use Rattle.chv_site.specs.declared.file_id.FileId.{FileId}
use Rattle.chv_site.specs.Files.{FileState}
use Rattle.chv_site.specs.Images.{Image, IsFileImage}
use Rattle.chv_site.specs.Outside.{Outside}
use Rattle.chv_site.specs.During.{During}
use Rattle.chv_gate.specs.GateLog.{HasFrames}

-- each other file is as a crash may leave it
abbrev pub AsImages : FileId → (FileId → FileState) → Image → Type 0
AsImages f files image = (g : FileId) → g ≢ f → IsFileImage (files g) (image g)

-- a crash may leave the other files like this, and the text that was said, beside what has P in this file
abbrev pub IsLeftWith : FileId → (List ℕ → Type 0) → (FileId → FileState) → List ℕ → Image → List ℕ → Type 0
IsLeftWith f P files said image text = AsImages f files image × P (image f) × (text ≡ said)

-- whatever a crash leaves of a file has these frames
abbrev pub LeavesFrames : List (List ℕ) → FileState → Type 0
LeavesFrames payloads state = (image : List ℕ) → IsFileImage state image → HasFrames payloads image

-- a file has these frames, with this one behind them or without
abbrev pub HasFramesOrMore : List (List ℕ) → List ℕ → List ℕ → Type 0
HasFramesOrMore payloads payload file = HasFrames payloads file ⊎ HasFrames (payloads ++ payload ∷ []) file

-- whatever a crash from old to new leaves of this file has P, the other files are as one may have left them before, and the
-- text is what was said
abbrev pub Leaves : FileId → (List ℕ → Type 0) → Outside → Outside → Type 0
Leaves f P old new = During old new (IsLeftWith f P old.files old.said)
