-- Calls that begin logs, one after the other.
use Rattle.std.proofs.Common.{◌≡◌, inl, inr, ℕ, ◌≤◌, List, length, refl, sym, ◌∙◌, ap, subst}
use Rattle.chv_site.specs.declared.file_id.FileId.{FileId}
use Rattle.chv_site.specs.Effects.{ChangesOnly}
use Rattle.chv_site.specs.Files.{FileState}
use Rattle.chv_site.specs.Outside.{Outside, bytes_in}
use Rattle.chv_gate.proofs.EffectLemmas.{counts_on}
use Rattle.chv_store.specs.Calls.{BeginsLogs}
use Rattle.chv_store.proofs.FaultLemmas.{counts_as, counts_none}
use Rattle.chv_store.proofs.SettleLemmas.{file_cases}

-- no call
pub begins_none : (tells failed : Type 0) (old : Outside) → (failed → ⊥) → BeginsLogs tells failed old old
begins_none tells failed old none = record { others = λ t f apart. refl; logs = λ t f long. refl; said = λ t. refl; counts = counts_none failed old none }

-- calls that did not fail, and then one that may
pub begins_then : (tells first late failed : Type 0) (old mid new : Outside) → (first → ⊥) → (failed → late) → (late → failed) → BeginsLogs tells first old mid → BeginsLogs tells late mid new → BeginsLogs tells failed old new
begins_then tells first late failed old mid new none to from before after = record {
  others = λ t f apart. after.others t f apart ∙ before.others t f apart;
  logs = λ t f long.
      let same = before.logs t f long in
      after.logs t f (subst (λ (bytes : List ℕ). 2 ≤ length bytes) (sym same) long) ∙ same;
  said = λ t. after.said t ∙ before.said t;
  counts = counts_on first late failed old mid new none to from before.counts after.counts;
}

-- what failed by another name
pub begins_as : (tells failed named : Type 0) (old new : Outside) → (named → failed) → (failed → named) → BeginsLogs tells failed old new → BeginsLogs tells named old new
begins_as tells failed named old new so back begins = record { others = begins.others; logs = begins.logs; said = begins.said; counts = counts_as failed named old new so back begins.counts }

-- one log is begun
pub begins_log : (tells failed : Type 0) (f : FileId) (old new : Outside) → f.part ≡ 0 → (tells → 2 ≤ length (bytes_in old f) → bytes_in new f ≡ bytes_in old f) → ChangesOnly tells failed f old new
    → BeginsLogs tells failed old new
begins_log tells failed f old new is_log kept changes = record {
  others = λ t g apart. changes.others t g (λ same. apart (ap (λ (h : FileId). h.part) same ∙ is_log));
  logs = λ t g long. elim (file_cases f g) as (λ _. bytes_in new g ≡ bytes_in old g) [
    | inl same ↦ subst (λ (h : FileId). bytes_in new h ≡ bytes_in old h) (sym same) (kept t (subst (λ (h : FileId). 2 ≤ length (bytes_in old h)) same long))
    | inr apart ↦ ap (λ (s : FileState). s.bytes) (changes.others t g apart)
  ];
  said = changes.said;
  counts = changes.counts;
}
