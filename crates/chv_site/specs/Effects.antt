-- What a call does outside, beside its own answer; each statement on content is for a site that tells.
use Rattle.std.specs.Prelude.{ℕ, ◌≡◌, List, ◌++◌, Result, IsErr, OnOk, OnErr}
use Rattle.chv_site.specs.declared.file_id.FileId.{FileId}
use Rattle.chv_site.specs.Files.{KeepsFiles, KeepsOthers, IsFrontOf}
use Rattle.chv_site.specs.Images.{IsLeft, IsLeftSaying}
use Rattle.chv_site.specs.Outside.{Outside}
use Rattle.chv_site.specs.During.{During}
use Rattle.chv_site.specs.Faults.{CountsDisk, CountsSay}

-- it reads alone: the files and the text stay, and a crash leaves what it might have left before
pub record OnlyReads (tells failed : Type 0) (old new : Outside) : Type 0 where
  pub files : tells → KeepsFiles old.files new.files
  pub said : tells → new.said ≡ old.said
  pub during : tells → During old new (IsLeft old.files old.said)
  pub counts : CountsDisk failed old new

-- it changes this file alone: the other files and the text stay
pub record ChangesOnly (tells failed : Type 0) (f : FileId) (old new : Outside) : Type 0 where
  pub others : tells → KeepsOthers f old.files new.files
  pub said : tells → new.said ≡ old.said
  pub counts : CountsDisk failed old new

-- it says bytes, and after an error a front of them: the files stay, and a crash leaves a front of the bytes said
pub record Says {T E : Type 0} (tells : Type 0) (bytes : List ℕ) (result : Result T E) (old new : Outside) : Type 0 where
  pub said : tells → OnOk result (new.said ≡ old.said ++ bytes)
  pub err : tells → OnErr result (IsFrontOf bytes old.said new.said)
  pub files : tells → KeepsFiles old.files new.files
  pub during : tells → During old new (IsLeftSaying old.files old.said bytes)
  pub counts : CountsSay (IsErr result) old new
