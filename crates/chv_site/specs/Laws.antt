-- The laws of a clock that counts the calls of a record.
use Rattle.std.specs.Prelude.{ℕ, ◌≤◌, Bool, true, false, cond, List, [], ◌∷◌, length}
use Rattle.std.proofs.Common.{inl, inr, refl, arith}
use Rattle.std.proofs.lemmas.List.{length-append, length-take, length-drop}
use Rattle.chv_site.specs.declared.file_id.FileId.{FileId}
use Rattle.chv_site.specs.declared.call.Act.{Act}
use Rattle.chv_site.specs.declared.call.Act.TheVariants.{Put, BeginPut, Cut, BeginCut, Sync, Restore}
use Rattle.chv_site.specs.declared.call.Call.{Call}
use Rattle.chv_site.specs.declared.call.Call.TheVariants.{OnFile, Say}
use Rattle.chv_site.specs.Files.{settled}
use Rattle.chv_site.specs.Images.{Image, IsImage, HasLengths}
use Rattle.chv_site.specs.Calls.{Kept, after_act, is_file, kept_after, state_after, text_after, IsLeftBy, HasLeft}

-- this moment is one of those since an earlier one
pub left_now : (calls : List Call) (t : ℕ) (image : Image) → IsImage (state_after calls) image → HasLeft calls t image (text_after calls)
left_now [] t image is = (is, refl)
left_now (call ∷ earlier) t image is = inl (is, refl)

-- since this moment there is no other
pub left_last : (calls : List Call) (image : Image) (text : List ℕ) → HasLeft calls (length calls) image text → IsLeftBy calls image text
left_last [] image text left = left
left_last (call ∷ earlier) image text (inl now) = now
left_last (call ∷ earlier) image text (inr past) = let late : length (call ∷ earlier) ≤ length earlier = past.0 in absurd (omega arith)

-- a file with nothing pending reads as long as a crash leaves it
pub settled_lengths : (bytes : List ℕ) → HasLengths (settled bytes)
settled_lengths bytes = record { no_shorter = omega arith; no_longer = omega arith }

lengths_kept : (act : Act) (kept : Kept) → HasLengths kept.state → HasLengths (after_act act kept).state
lengths_kept (Put at bytes) kept h =
    let a = h.no_shorter in let b = h.no_longer in
    record { no_shorter = omega (arith, length-append {A = ℕ}, length-take {A = ℕ}, length-drop {A = ℕ}); no_longer = omega (arith, length-append {A = ℕ}, length-take {A = ℕ}, length-drop {A = ℕ}) }
lengths_kept (BeginPut at n) kept h = let a = h.no_shorter in let b = h.no_longer in record { no_shorter = h.no_shorter; no_longer = omega arith }
lengths_kept (Cut len) kept h =
    let a = h.no_shorter in let b = h.no_longer in
    record { no_shorter = omega (arith, length-take {A = ℕ}); no_longer = omega (arith, length-take {A = ℕ}) }
lengths_kept (BeginCut len) kept h = let a = h.no_shorter in let b = h.no_longer in record { no_shorter = omega arith; no_longer = h.no_longer }
lengths_kept Sync kept h = settled_lengths kept.state.bytes
lengths_kept (Restore bytes) kept h = settled_lengths bytes

lengths_either : (b : Bool) (act : Act) (kept : Kept) → HasLengths kept.state → HasLengths (cond b (after_act act kept) kept).state
lengths_either true act kept h = lengths_kept act kept h
lengths_either false act kept h = h

-- what reads is as long as a crash may leave it
pub lengths_after : (calls : List Call) (f : FileId) → HasLengths (state_after calls f)
lengths_after [] f = settled_lengths []
lengths_after (OnFile g act ∷ earlier) f = lengths_either (is_file g f) act (kept_after earlier f) (lengths_after earlier f)
lengths_after (Say bytes ∷ earlier) f = lengths_after earlier f
