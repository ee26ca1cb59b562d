-- What a crash during a call of a site in memory may leave.
use Rattle.std.proofs.Common.{ℕ, ◌≡◌, ◌⊎◌, List, ◌∷◌, ◌++◌, length, sym, ap, subst, ◌∙◌, inl, inr, arith, append-nil, take_all}
use Rattle.std.specs.Prelude.{Result, OnOk, OnErr}
use Rattle.std.specs.declared.result.Result.TheVariants.{Ok, Err}
use Rattle.std.specs.declared.alloc.AllocError.{AllocError}
use Rattle.chv_site.specs.declared.file_id.FileId.{FileId}
use Rattle.chv_site.specs.declared.call.Act.{Act}
use Rattle.chv_site.specs.declared.call.Act.TheVariants.{Sync}
use Rattle.chv_site.specs.declared.call.Call.{Call}
use Rattle.chv_site.specs.declared.call.Call.TheVariants.{OnFile, Say}
use Rattle.chv_site.specs.MemSite.{outside_after}
use Rattle.chv_site.specs.Images.{Image, IsLeft, IsLeftSaying}
use Rattle.chv_site.specs.During.{During}
use Rattle.chv_site.specs.Calls.{state_after, text_after, IsLeftBy, IsCutShort, HasLeft, IsEnded}
use Rattle.chv_site.specs.Laws.{left_last}
use Rattle.chv_site.proofs.Moments.{started}
use Rattle.chv_site.proofs.Acts.{Widens, widened, synced_image}

-- whatever a crash between two states of the record of the calls may leave, files and text, has P
abbrev pub DuringCalls : List Call → List Call → (Image → List ℕ → Type 0) → Type 0
DuringCalls old new P = During (outside_after old 0 0) (outside_after new 0 0) P

-- the counts of faults have no part in it
pub of_calls : (old new : List Call) (d s e t : ℕ) (P : Image → List ℕ → Type 0) → DuringCalls old new P → During (outside_after old d s) (outside_after new e t) P
of_calls old new d s e t P during = record { later = during.later; each = during.each; before = during.before }

-- no call that changed something
pub no_call : (calls : List Call) (P : Image → List ℕ → Type 0) → ((image : Image) (text : List ℕ) → IsLeftBy calls image text → P image text) → DuringCalls calls calls P
no_call calls P now = started (outside_after calls 0 0) P (λ image text left. now image text (left_last calls image text left))

-- the same, where the record is known to be as it was
pub same_calls : (old new : List Call) → new ≡ old → DuringCalls old new (IsLeft (state_after new) (text_after old))
same_calls old new same =
    subst (λ (calls : List Call). DuringCalls old calls (IsLeft (state_after calls) (text_after old))) (sym same) (no_call old _ (λ image text left. left))

-- one call
pub one_call : (call : Call) (old : List Call) (P : Image → List ℕ → Type 0)
    → ((image : Image) (text : List ℕ) → IsLeftBy (call ∷ old) image text → P image text)
    → ((image : Image) (text : List ℕ) → IsCutShort call old image text → P image text)
    → ((image : Image) (text : List ℕ) → IsLeftBy old image text → P image text)
    → DuringCalls old (call ∷ old) P
one_call call old P now short was = record {
  later = omega arith;
  each = λ image text left. elim left as (λ _. P image text) [
    | inl here ↦ now image text here
    | inr past ↦ elim past.1 as (λ _. P image text) [ inl cut ↦ short image text cut | inr earlier ↦ was image text (left_last old image text earlier) ]
  ];
  before = λ t image text le left. elim left as (λ _. HasLeft old t image text ⊎ P image text) [
    | inl here ↦ inr (now image text here)
    | inr past ↦ elim past.1 as (λ _. HasLeft old t image text ⊎ P image text) [ inl cut ↦ inr (short image text cut) | inr earlier ↦ inl earlier ]
  ];
}

-- a call on a file that widens what a crash may leave
pub ended_call : (f : FileId) (act begun : Act) (old new : List Call) → Widens act → Widens begun → IsEnded f act begun old new
    → DuringCalls old new (IsLeft (state_after new) (text_after old))
ended_call f act begun old new wide wide_begun ended =
    let one : (a : Act) → Widens a → DuringCalls old (OnFile f a ∷ old) (IsLeft (state_after (OnFile f a ∷ old)) (text_after old)) =
    λ a w. one_call (OnFile f a) old _ (λ image text left. left) (λ image text short. absurd short) (λ image text left. (widened f a old image w left.0, left.1)) in
    elim ended.how as (λ _. DuringCalls old new (IsLeft (state_after new) (text_after old))) [
      | inl e ↦ subst (λ (calls : List Call). DuringCalls old calls (IsLeft (state_after calls) (text_after old))) (sym e) (one act wide)
      | inr (inl e) ↦ subst (λ (calls : List Call). DuringCalls old calls (IsLeft (state_after calls) (text_after old))) (sym e) (one begun wide_begun)
      | inr (inr e) ↦ same_calls old new e
    ]

one_sync : (f : FileId) (old : List Call) → DuringCalls old (OnFile f Sync ∷ old) (IsLeft (state_after old) (text_after old))
one_sync f old = one_call (OnFile f Sync) old _ (λ image text left. (synced_image f old image left.0, left.1)) (λ image text short. absurd short) (λ image text left. left)

-- a sync, which is noted where it is done
pub sync_call : (f : FileId) (old new : List Call) (done : Result (Unit {0}) AllocError) → OnOk done (new ≡ OnFile f Sync ∷ old) → OnErr done (new ≡ old)
    → DuringCalls old new (IsLeft (state_after old) (text_after old))
sync_call f old new (Ok u) ok err = subst (λ (calls : List Call). DuringCalls old calls (IsLeft (state_after old) (text_after old))) (sym ok) (one_sync f old)
sync_call f old new (Err e) ok err = subst (λ (calls : List Call). DuringCalls old calls (IsLeft (state_after old) (text_after old))) (sym err) (no_call old _ (λ image text left. left))

-- what was said before a say is a front of it
pub unsaid : (bytes : List ℕ) (old : List Call) (image : Image) (text : List ℕ) → IsLeftBy old image text → IsLeftSaying (state_after old) (text_after old) bytes image text
unsaid bytes old image text left = (left.0, (0, left.1 ∙ sym (append-nil (text_after old))))

one_say : (bytes : List ℕ) (old : List Call) → DuringCalls old (Say bytes ∷ old) (IsLeftSaying (state_after old) (text_after old) bytes)
one_say bytes old =
    one_call (Say bytes) old _
    (λ image text left. (left.0, (length bytes, left.1 ∙ ap (λ (xs : List ℕ). text_after old ++ xs) (sym (take_all (length bytes) bytes (omega arith))))))
    (λ image text short. short)
    (unsaid bytes old)

-- a say, which is noted where it is done
pub say_call : (bytes : List ℕ) (old new : List Call) (done : Result (Unit {0}) AllocError) → OnOk done (new ≡ Say bytes ∷ old) → OnErr done (new ≡ old)
    → DuringCalls old new (IsLeftSaying (state_after old) (text_after old) bytes)
say_call bytes old new (Ok u) ok err = subst (λ (calls : List Call). DuringCalls old calls (IsLeftSaying (state_after old) (text_after old) bytes)) (sym ok) (one_say bytes old)
say_call bytes old new (Err e) ok err = subst (λ (calls : List Call). DuringCalls old calls (IsLeftSaying (state_after old) (text_after old) bytes)) (sym err) (no_call old _ (unsaid bytes old))
