-- What calls of a site in memory do outside.
use Rattle.std.proofs.Common.{ℕ, List, refl}
use Rattle.chv_site.specs.declared.call.Call.{Call}
use Rattle.chv_site.specs.Faults.{CountsDisk}
use Rattle.chv_site.specs.Effects.{OnlyReads}
use Rattle.chv_site.specs.MemSite.{outside_after}
use Rattle.chv_site.proofs.Clock.{of_calls, no_call}

-- a call that changed nothing but the counts of faults only reads
pub only_read : (calls : List Call) (d s e t : ℕ) (failed : Type 0) → CountsDisk failed (outside_after calls d s) (outside_after calls e t)
    → OnlyReads (Unit {0}) failed (outside_after calls d s) (outside_after calls e t)
only_read calls d s e t failed counts = record {
  files = λ _ f. refl;
  said = λ _. refl;
  during = λ _. of_calls calls calls d s e t _ (no_call calls _ (λ image text left. left));
  counts = counts;
}
