-- What calls do outside, one after the other.
use Rattle.std.proofs.Common.{ℕ, subst, ◌∙◌, arith}
use Rattle.chv_site.specs.declared.file_id.FileId.{FileId}
use Rattle.chv_site.specs.Faults.{CountsDisk, HasRisen}
use Rattle.chv_site.specs.Outside.{Outside}
use Rattle.chv_site.specs.Effects.{OnlyReads, ChangesOnly}
use Rattle.chv_gate.proofs.DuringLemmas.{during_reads}

module _ (first late failed : Type 0) (old mid new : Outside) (none : first → ⊥) (to : failed → late) (from : late → failed) where
  -- calls that did not fail, and then one that may
  pub counts_on : CountsDisk first old mid → CountsDisk late mid new → CountsDisk failed old new
  counts_on before after =
      let still = before.same none in
      record {
        keeps = omega (arith, still, after.keeps);
        cause = λ is. subst (λ (n : ℕ). HasRisen n new.disk_faults) still (after.cause (to is));
        same = λ well. after.same (λ is. well (from is)) ∙ still;
        other = after.other ∙ before.other;
      }

  -- calls that only read
  pub reads_on : (tells : Type 0) → OnlyReads tells first old mid → OnlyReads tells late mid new → OnlyReads tells failed old new
  reads_on tells before after = record {
    files = λ tell f. after.files tell f ∙ before.files tell f;
    said = λ tell. after.said tell ∙ before.said tell;
    during = λ tell. during_reads old mid new (before.files tell) (before.said tell) (before.during tell) (after.during tell);
    counts = counts_on before.counts after.counts;
  }

  -- calls that change this file alone
  pub changes_on : (tells : Type 0) (f : FileId) → ChangesOnly tells first f old mid → ChangesOnly tells late f mid new → ChangesOnly tells failed f old new
  changes_on tells f before after = record {
    others = λ tell g apart. after.others tell g apart ∙ before.others tell g apart;
    said = λ tell. after.said tell ∙ before.said tell;
    counts = counts_on before.counts after.counts;
  }

  -- calls that change this file alone, and then one that only reads
  pub changes_then_reads : (tells : Type 0) (f : FileId) → ChangesOnly tells first f old mid → OnlyReads tells late mid new → ChangesOnly tells failed f old new
  changes_then_reads tells f before after = record {
    others = λ tell g apart. after.files tell g ∙ before.others tell g apart;
    said = λ tell. after.said tell ∙ before.said tell;
    counts = counts_on before.counts after.counts;
  }
