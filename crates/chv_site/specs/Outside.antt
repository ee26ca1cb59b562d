-- All that is outside, as contracts see it.
use Rattle.std.specs.Prelude.{ℕ, List}
use Rattle.chv_site.specs.declared.file_id.FileId.{FileId}
use Rattle.chv_site.specs.Files.{FileState}
use Rattle.chv_site.specs.Images.{Image}

-- the files, the bytes said, the moment as a number that does not fall, the files and the texts that a crash from an earlier
-- moment on may have left, and how often a call on files and a say have failed
pub record Outside : Type 1 where
  pub files : FileId → FileState
  pub said : List ℕ
  pub moment : ℕ
  pub left_since : ℕ → Image → List ℕ → Type 0
  pub disk_faults : ℕ
  pub say_faults : ℕ

-- the bytes of a file
abbrev pub bytes_in : Outside → FileId → List ℕ
bytes_in outside f = (outside.files f).bytes
