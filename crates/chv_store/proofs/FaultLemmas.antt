-- Counts of faults where no call was made, and by another name of the failure.
use Rattle.std.proofs.Common.{◌≡◌, Result, Err, refl, arith}
use Rattle.chv_site.specs.Faults.{CountsDisk}
use Rattle.chv_site.specs.Effects.{ChangesOnly}
use Rattle.chv_site.specs.Outside.{Outside}
use Rattle.chv_site.specs.declared.file_id.FileId.{FileId}

-- one error is one
pub same_error : {T E : Type 0} (r : Result T E) (a b : E) → r ≡ Err a → r ≡ Err b → a ≡ b
same_error r a b x y = cc

-- no call
pub counts_none : (failed : Type 0) (old : Outside) → (failed → ⊥) → CountsDisk failed old old
counts_none failed old none = record { keeps = omega arith; cause = λ f. absurd (none f); same = λ _. refl; other = refl }

-- what failed by another name
pub counts_as : (failed named : Type 0) (old new : Outside) → (named → failed) → (failed → named) → CountsDisk failed old new → CountsDisk named old new
counts_as failed named old new so back counts = record { keeps = counts.keeps; cause = λ f. counts.cause (so f); same = λ none. counts.same (λ f. none (back f)); other = counts.other }

pub changes_as : (tells failed named : Type 0) (f : FileId) (old new : Outside) → (named → failed) → (failed → named) → ChangesOnly tells failed f old new → ChangesOnly tells named f old new
changes_as tells failed named f old new so back changes = record { others = changes.others; said = changes.said; counts = counts_as failed named old new so back changes.counts }
