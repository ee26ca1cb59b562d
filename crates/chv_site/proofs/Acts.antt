-- What acts on a file do to it, and to what a crash may leave of it.
use Rattle.std.proofs.Common.{ℕ, ◌≡◌, ◌⊎◌, ◌+◌, ◌-◌, ◌<◌, ◌≤◌, Bool, true, false, cond, List, ◌∷◌, ◌++◌, length, take, drop, get_or, refl, sym, ap, subst, ◌∙◌, inl, inr, arith, append_assoc, length-append, length-take, length-drop, take_at, drop_at}
use Rattle.std.proofs.lemmas.List.{get_or_append_left, get_or-append_right, get_or-take, get_or-drop}
use Rattle.chv_site.specs.declared.file_id.FileId.{FileId}
use Rattle.chv_site.specs.declared.call.Act.{Act}
use Rattle.chv_site.specs.declared.call.Act.TheVariants.{Put, BeginPut, Cut, BeginCut, Sync}
use Rattle.chv_site.specs.declared.call.Call.{Call}
use Rattle.chv_site.specs.declared.call.Call.TheVariants.{OnFile}
use Rattle.chv_site.specs.Files.{FileState, over_written, IsPut}
use Rattle.chv_site.specs.Images.{Image, IsFileImage, IsImage, HasLengths}
use Rattle.chv_site.specs.Calls.{Kept, put_begun, put_done, after_act, is_file, kept_after, state_after, IsEnded}
use Rattle.chv_site.specs.Laws.{lengths_after}
use Rattle.chv_site.proofs.Ids.{is_file-same}
use Rattle.chv_site.proofs.Ranges.{untouched_front, untouched_more}
use Rattle.chv_site.proofs.Images.{reads_image, settled_image}

-- outside its range a put leaves the bytes
pub get-over_written : (at : ℕ) (bytes old : List ℕ) (place : ℕ) → place < length old → (place < at) ⊎ (at + length bytes ≤ place)
    → get_or (over_written at bytes old) place 0 ≡ get_or old place 0
get-over_written at bytes old place below (inl before) =
    get_or_append_left (take at old ++ bytes) (drop (at + length bytes) old) 0 place (omega (arith, length-append {A = ℕ}, length-take {A = ℕ}))
    ∙ get_or_append_left (take at old) bytes 0 place (omega (arith, length-take {A = ℕ}))
    ∙ get_or-take at old place 0 before
get-over_written at bytes old place below (inr behind) =
    get_or-append_right (take at old ++ bytes) (drop (at + length bytes) old) (at + length bytes) place 0 (omega (arith, length-append {A = ℕ}, length-take {A = ℕ})) behind
    ∙ get_or-drop (at + length bytes) old (place - (at + length bytes)) 0
    ∙ ap (λ n. get_or old n 0) {x = at + length bytes + (place - (at + length bytes))} {y = place} (omega arith)

-- in front of a put, and behind it, the bytes are as they were
pub take-over_written : (at : ℕ) (bytes old : List ℕ) → at ≤ length old → take at (over_written at bytes old) ≡ take at old
take-over_written at bytes old within =
    ap (take at) (append_assoc (take at old) bytes (drop (at + length bytes) old))
    ∙ take_at (take at old) (bytes ++ drop (at + length bytes) old) at (omega (arith, length-take {A = ℕ}))

pub drop-over_written : (at : ℕ) (bytes old : List ℕ) → at ≤ length old → drop (at + length bytes) (over_written at bytes old) ≡ drop (at + length bytes) old
drop-over_written at bytes old within =
    drop_at (take at old ++ bytes) (drop (at + length bytes) old) (at + length bytes) (omega (arith, length-append {A = ℕ}, length-take {A = ℕ}))

pub put_done-IsPut : (at : ℕ) (bytes : List ℕ) (state : FileState) → at ≤ length state.bytes → IsPut at (length bytes) state (put_done at bytes state)
put_done-IsPut at bytes state within = record {
  before = take-over_written at bytes state.bytes within;
  behind = drop-over_written at bytes state.bytes within;
  no_shorter = omega (arith, length-append {A = ℕ}, length-take {A = ℕ}, length-drop {A = ℕ});
  no_longer = omega (arith, length-append {A = ℕ}, length-take {A = ℕ}, length-drop {A = ℕ});
  least = omega arith;
  most = omega arith;
  touched = λ place h out. untouched_more state.touched at (at + length bytes) place h out;
}

pub put_begun-IsPut : (at n : ℕ) (state : FileState) → IsPut at n state (put_begun at n state)
put_begun-IsPut at n state = record {
  before = refl;
  behind = refl;
  no_shorter = omega arith;
  no_longer = omega arith;
  least = omega arith;
  most = omega arith;
  touched = λ place h out. untouched_more state.touched at (at + n) place h out;
}

pub same-IsPut : (at n : ℕ) (state : FileState) → IsPut at n state state
same-IsPut at n state = record {
  before = refl;
  behind = refl;
  no_shorter = omega arith;
  no_longer = omega arith;
  least = omega arith;
  most = omega arith;
  touched = λ place h out. h;
}

-- an act changes its file
pub acted_here : (f : FileId) (act : Act) (earlier : List Call) → kept_after (OnFile f act ∷ earlier) f ≡ after_act act (kept_after earlier f)
acted_here f act earlier = ap (λ (b : Bool). cond b (after_act act (kept_after earlier f)) (kept_after earlier f)) (is_file-same f)

-- where a fact holds of a file once acted on, and of it once the act was begun, and of it as it was, it holds at the end
pub at_the_end : (f : FileId) (act begun : Act) (old new : List Call) (P : Kept → Type 0) → IsEnded f act begun old new
    → P (after_act act (kept_after old f)) → P (after_act begun (kept_after old f)) → P (kept_after old f) → P (kept_after new f)
at_the_end f act begun old new P ended done short none =
    elim ended.how as (λ _. P (kept_after new f)) [
      | inl e ↦ subst (λ (calls : List Call). P (kept_after calls f)) (sym e) (subst P (sym (acted_here f act old)) done)
      | inr (inl e) ↦ subst (λ (calls : List Call). P (kept_after calls f)) (sym e) (subst P (sym (acted_here f begun old)) short)
      | inr (inr e) ↦ subst (λ (calls : List Call). P (kept_after calls f)) (sym e) none
    ]

-- a put that has ended, done or not
pub ended-IsPut : (f : FileId) (at : ℕ) (bytes : List ℕ) (old new : List Call) → IsEnded f (Put at bytes) (BeginPut at (length bytes)) old new → at ≤ length (state_after old f).bytes
    → IsPut at (length bytes) (state_after old f) (state_after new f)
ended-IsPut f at bytes old new ended within =
    at_the_end f (Put at bytes) (BeginPut at (length bytes)) old new (λ k. IsPut at (length bytes) (state_after old f) k.state) ended
    (put_done-IsPut at bytes (state_after old f) within) (put_begun-IsPut at (length bytes) (state_after old f)) (same-IsPut at (length bytes) (state_after old f))

-- what a crash may leave of a file it may leave, too, once the file is acted on
abbrev pub Widens : Act → Type 0
Widens act = (kept : Kept) (image : List ℕ) → HasLengths kept.state → IsFileImage kept.state image → IsFileImage (after_act act kept).state image

pub put-Widens : (at : ℕ) (bytes : List ℕ) → Widens (Put at bytes)
put-Widens at bytes kept image lengths is =
    let a = lengths.no_shorter in let b = is.no_shorter in let d = is.no_longer in
    record {
      no_shorter = omega arith;
      no_longer = omega arith;
      safe = λ place below untouched.
          let parts = untouched_front kept.state.touched at (at + length bytes) place untouched in
          is.safe place below parts.0 ∙ sym (get-over_written at bytes kept.state.bytes place (omega arith) parts.1);
    }

pub begin_put-Widens : (at n : ℕ) → Widens (BeginPut at n)
begin_put-Widens at n kept image lengths is =
    let b = is.no_shorter in let d = is.no_longer in
    record {
      no_shorter = omega arith;
      no_longer = omega arith;
      safe = λ place below untouched. is.safe place below (untouched_front kept.state.touched at (at + n) place untouched).0;
    }

pub cut-Widens : (len : ℕ) → Widens (Cut len)
cut-Widens len kept image lengths is =
    let b = is.no_shorter in let d = is.no_longer in
    record {
      no_shorter = omega arith;
      no_longer = omega arith;
      safe = λ place below untouched. is.safe place (omega arith) untouched ∙ sym (get_or-take len kept.state.bytes place 0 (omega arith));
    }

pub begin_cut-Widens : (len : ℕ) → Widens (BeginCut len)
begin_cut-Widens len kept image lengths is =
    let b = is.no_shorter in let d = is.no_longer in
    record { no_shorter = omega arith; no_longer = omega arith; safe = λ place below untouched. is.safe place (omega arith) untouched }

widened_by : (b : Bool) (act : Act) (kept : Kept) (image : List ℕ) → Widens act → HasLengths kept.state → IsFileImage kept.state image → IsFileImage (cond b (after_act act kept) kept).state image
widened_by true act kept image widens lengths is = widens kept image lengths is
widened_by false act kept image widens lengths is = is

-- the same of all files
pub widened : (f : FileId) (act : Act) (old : List Call) (image : Image) → Widens act → IsImage (state_after old) image → IsImage (state_after (OnFile f act ∷ old)) image
widened f act old image widens is g = widened_by (is_file f g) act (kept_after old g) (image g) widens (lengths_after old g) (is g)

-- a sync leaves less to a crash
synced_by : (b : Bool) (kept : Kept) (image : List ℕ) → HasLengths kept.state → IsFileImage (cond b (after_act Sync kept) kept).state image → IsFileImage kept.state image
synced_by true kept image lengths is = subst (IsFileImage kept.state) (sym (settled_image kept.state.bytes image is)) (reads_image kept.state lengths)
synced_by false kept image lengths is = is

pub synced_image : (f : FileId) (old : List Call) (image : Image) → IsImage (state_after (OnFile f Sync ∷ old)) image → IsImage (state_after old) image
synced_image f old image is g = synced_by (is_file f g) (kept_after old g) (image g) (lengths_after old g) (is g)
