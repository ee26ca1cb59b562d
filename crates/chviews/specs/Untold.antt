-- What the real site shows of what is outside.
use Rattle.std.specs.Prelude.{ℕ, []}
use Rattle.chv_site.specs.Files.{settled}
use Rattle.chv_site.specs.Images.{IsLeft}
use Rattle.chv_site.specs.Outside.{Outside}

-- how many calls on files and says failed; the rest tells nothing, and no clause on it is claimed
abbrev pub untold : ℕ → ℕ → Outside
untold disk say = record {
  files = λ _. settled [];
  said = [];
  moment = 0;
  left_since = λ _ image text. IsLeft (λ _. settled []) [] image text;
  disk_faults = disk;
  say_faults = say;
}
