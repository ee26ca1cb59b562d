-- What writes leave in files.
use Rattle.std.proofs.Common.{◌≡◌, ℕ, ◌+◌, List, [], ◌++◌, length, ap, ◌∙◌}
use Rattle.std.proofs.Math.Seq.{drop-nil}
use Rattle.std.proofs.lemmas.List.{append-nil}
use Rattle.chv_site.specs.Files.{over_written}

-- over nothing the bytes stand alone
pub over_written-nil : (bytes : List ℕ) → over_written 0 bytes [] ≡ bytes
over_written-nil bytes = ap (λ (rest : List ℕ). bytes ++ rest) (drop-nil (0 + length bytes)) ∙ append-nil bytes
