-- What calls on one file leave of the others.
use Rattle.std.proofs.Common.{ℕ, ◌≡◌, List, refl, subst, ◌∙◌}
use Rattle.std.specs.Prelude.{⊤}
use Rattle.chv_site.specs.declared.file_id.FileId.{FileId}
use Rattle.chv_site.specs.Files.{FileState, KeepsOthers}
use Rattle.chv_site.specs.Images.{Image, IsFileImage, IsLeft}
use Rattle.chv_site.specs.Outside.{Outside}
use Rattle.chv_site.specs.During.{During}
use Rattle.chv_site.proofs.Moments.{weakened, goes_on}
use Rattle.chv_gate.specs.Crashes.{IsLeftWith, Leaves}

-- an image of files of which only one changed
pub others_left : (f : FileId) (old new : FileId → FileState) (said now : List ℕ) (image : Image) (text : List ℕ) → KeepsOthers f old new → now ≡ said → IsLeft new now image text → IsLeftWith f (λ bytes. ⊤) old said image text
others_left f old new said now image text kept same left = (
  λ g other. subst (λ (s : FileState). IsFileImage s (image g)) (kept g other) (left.0 g),
  tt,
  left.1 ∙ same,
)

-- others that were kept twice were kept
pub others_kept_on : (f : FileId) (old mid new : FileId → FileState) → KeepsOthers f old mid → KeepsOthers f mid new → KeepsOthers f old new
others_kept_on f old mid new first second g other = second g other ∙ first g other

module _ (f : FileId) (old : Outside) where
  -- the first call that only changes this file
  pub first_on_one : (new : Outside) → During old new (IsLeft new.files old.said) → KeepsOthers f old.files new.files → Leaves f (λ bytes. ⊤) old new
  first_on_one new call kept =
      weakened old new (IsLeft new.files old.said) (IsLeftWith f (λ bytes. ⊤) old.files old.said) call
      (λ image t left. others_left f old.files new.files old.said old.said image t kept refl left)

  -- and the next one
  pub next_on_one : (mid new : Outside) (now : FileId → FileState) → Leaves f (λ bytes. ⊤) old mid → During mid new (IsLeft now mid.said) → KeepsOthers f old.files now → mid.said ≡ old.said
      → Leaves f (λ bytes. ⊤) old new
  next_on_one mid new now so_far call kept same =
      goes_on old mid new (IsLeftWith f (λ bytes. ⊤) old.files old.said) (IsLeft now mid.said) so_far call
      (λ image t left. others_left f old.files now old.said mid.said image t kept same left)
