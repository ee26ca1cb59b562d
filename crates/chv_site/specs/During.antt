-- What crashes during some calls may leave.
use Rattle.std.specs.Prelude.{ℕ, ◌⊎◌, ◌≤◌, List}
use Rattle.chv_site.specs.Images.{Image}
use Rattle.chv_site.specs.Outside.{Outside}

-- whatever a crash at a moment from old to new may leave, files and text, has P
pub record During (old new : Outside) (P : Image → List ℕ → Type 0) : Type 0 where
  pub later : old.moment ≤ new.moment
  pub each : (image : Image) (text : List ℕ) → new.left_since old.moment image text → P image text
  -- for a time that began earlier
  pub before : (t : ℕ) (image : Image) (text : List ℕ) → t ≤ old.moment → new.left_since t image text → old.left_since t image text ⊎ P image text
