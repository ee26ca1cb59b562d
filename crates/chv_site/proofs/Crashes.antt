-- The images that a site in memory gives for a crash.
use Rattle.std.proofs.Common.{◌≡◌, ◌≢◌, ◌⊎◌, ℕ, ◌+◌, ◌<◌, Bool, true, false, cond, None, Some, List, [], ◌∷◌, ◌++◌, length, take, get_or, refl, sym, ap, subst, ◌∙◌, inl, inr, arith}
use Rattle.std.proofs.lemmas.List.{take_more}
use Rattle.std.proofs.lemmas.Bool.{false≢true}
use Rattle.std.specs.BTreeMap as tree
use Rattle.std.specs.BTreeMap.{BTreeMap, is_at, keys}
use Rattle.std.specs.Map.{lookup, keys_of}
use Rattle.chv_site.specs.declared.file_id.FileId.{FileId}
use Rattle.chv_site.specs.declared.pick.Pick.{Pick}
use Rattle.chv_site.specs.declared.pick.Pick.TheVariants.{Old, New, Torn}
use Rattle.chv_site.specs.declared.call.Act.{Act}
use Rattle.chv_site.specs.declared.call.Act.TheVariants.{Put, BeginPut, Cut, BeginCut, Sync, Restore}
use Rattle.chv_site.specs.declared.call.Call.{Call}
use Rattle.chv_site.specs.declared.call.Call.TheVariants.{OnFile, Say}
use Rattle.chv_site.specs.declared.mem_file.MemFile.{MemFile}
use Rattle.chv_site.specs.Images.{IsFileImage, IsImage, HasLengths}
use Rattle.chv_site.specs.Calls.{Kept, restored, fresh, after_act, id_cmp, is_file, kept_after, state_after, bytes_after}
use Rattle.chv_site.specs.Crash.{IsPicked, IsRestored, IsAbsent}
use Rattle.chv_site.specs.Laws.{settled_lengths, lengths_after}
use Rattle.chv_site.proofs.Acts.{acted_here, put-Widens, begin_put-Widens, cut-Widens, begin_cut-Widens}
use Rattle.chv_site.proofs.Ids.{is_file-same, is_file-exact, is_file-apart}
use Rattle.chv_site.proofs.Images.{reads_image}

restored_image : (bytes : List ℕ) → IsFileImage (restored bytes).state bytes
restored_image bytes = reads_image (restored bytes).state (settled_lengths bytes)

synced_kept : (act : Act) (kept : Kept) → HasLengths kept.state → IsFileImage kept.state kept.synced → IsFileImage (after_act act kept).state (after_act act kept).synced
synced_kept (Put at bytes) kept lengths is = put-Widens at bytes kept kept.synced lengths is
synced_kept (BeginPut at n) kept lengths is = begin_put-Widens at n kept kept.synced lengths is
synced_kept (Cut len) kept lengths is = cut-Widens len kept kept.synced lengths is
synced_kept (BeginCut len) kept lengths is = begin_cut-Widens len kept kept.synced lengths is
synced_kept Sync kept lengths is = restored_image kept.state.bytes
synced_kept (Restore bytes) kept lengths is = restored_image bytes

synced_by : (b : Bool) (act : Act) (kept : Kept) → HasLengths kept.state → IsFileImage kept.state kept.synced
    → IsFileImage (cond b (after_act act kept) kept).state (cond b (after_act act kept) kept).synced
synced_by true act kept lengths is = synced_kept act kept lengths is
synced_by false act kept lengths is = is

-- a crash may leave a file as at its last sync
pub last_sync_image : (calls : List Call) (g : FileId) → IsFileImage (state_after calls g) (kept_after calls g).synced
last_sync_image [] g = restored_image []
last_sync_image (OnFile f act ∷ earlier) g = synced_by (is_file f g) act (kept_after earlier g) (lengths_after earlier g) (last_sync_image earlier g)
last_sync_image (Say bytes ∷ earlier) g = last_sync_image earlier g

-- what is picked is an image
pub picked_image : (pick : Pick) (calls : List Call) (g : FileId) (image : List ℕ) → IsPicked pick (kept_after calls g) image → IsFileImage (state_after calls g) image
picked_image Old calls g image picked = subst (IsFileImage (state_after calls g)) (sym picked) (last_sync_image calls g)
picked_image New calls g image picked = subst (IsFileImage (state_after calls g)) (sym picked) (reads_image (state_after calls g) (lengths_after calls g))
picked_image (Torn byte) calls g image picked =
    let lengths = lengths_after calls g in
    let a = lengths.no_shorter in let b = lengths.no_longer in
    record { no_shorter = omega (arith, picked.longest); no_longer = omega (arith, picked.longest); safe = picked.safe }

-- and so are the files after the crash
pub restored_files : (pick : Pick) (old new : List Call) → ((g : FileId) → IsRestored pick (kept_after old g) (kept_after new g)) → IsImage (state_after old) (bytes_after new)
restored_files pick old new each g =
    let r = each g in
    subst (λ (k : Kept). IsFileImage (state_after old g) k.state.bytes) (sym r.now) (picked_image pick old g r.image r.picked)

absent_push : (g f : FileId) (names : List FileId) → IsAbsent g names → is_file g f ≡ false → IsAbsent g (names ++ f ∷ [])
absent_push g f [] absent apart = (apart, record {})
absent_push g f (name ∷ names) absent apart = (absent.0, absent_push g f names absent.1 apart)

absent_lookup : (g : FileId) (es : List (FileId × MemFile)) → IsAbsent g (keys_of es) → lookup (is_at (id_cmp g)) es ≡ None
absent_lookup g [] absent = refl
absent_lookup g (e ∷ es) absent = subst (λ (b : Bool). cond b (Some e.1) (lookup (is_at (id_cmp g)) es) ≡ None) (sym absent.0) (absent_lookup g es absent.1)

-- so far: a file whose name was met is restored, and any other is fresh
abbrev pub IsSoFar : Pick → List Call → List Call → List FileId → FileId → Type 0
IsSoFar pick old made names g = IsRestored pick (kept_after old g) (kept_after made g) ⊎ ((kept_after made g ≡ fresh) × IsAbsent g names)

other_kept : (x g : FileId) (image : List ℕ) (made : List Call) → is_file g x ≡ false → kept_after (OnFile x (Restore image) ∷ made) g ≡ kept_after made g
other_kept x g image made apart =
    let same : g ≢ x = λ e. absurd (false≢true (sym apart ∙ subst (λ (y : FileId). is_file g y ≡ true) e (is_file-same g))) in
    ap (λ (b : Bool). cond b (restored image) (kept_after made g)) (is_file-apart x g same)

so_far_by : (b : Bool) (pick : Pick) (old made : List Call) (names : List FileId) (x g : FileId) (image : List ℕ) → is_file g x ≡ b → IsPicked pick (kept_after old x) image
    → IsSoFar pick old made names g → IsSoFar pick old (OnFile x (Restore image) ∷ made) (names ++ x ∷ []) g
so_far_by true pick old made names x g image here picked so_far =
    let e : x ≡ g = is_file-exact g x here in
    inl (subst (λ (y : FileId). IsRestored pick (kept_after old y) (kept_after (OnFile x (Restore image) ∷ made) y)) e (record { image = image; picked = picked; now = acted_here x (Restore image) made }))
so_far_by false pick old made names x g image apart picked so_far =
    elim so_far as (λ _. IsSoFar pick old (OnFile x (Restore image) ∷ made) (names ++ x ∷ []) g) [
      | inl r ↦ inl (record { image = r.image; picked = r.picked; now = other_kept x g image made apart ∙ r.now })
      | inr p ↦ inr (other_kept x g image made apart ∙ p.0, absent_push g x names p.1 apart)
    ]

-- one more name
pub so_far_more : (pick : Pick) (old made : List Call) (names : List FileId) (i : ℕ) (d g : FileId) (image : List ℕ) → i < length names → IsPicked pick (kept_after old (get_or names i d)) image
    → IsSoFar pick old made (take i names) g → IsSoFar pick old (OnFile (get_or names i d) (Restore image) ∷ made) (take (i + 1) names) g
so_far_more pick old made names i d g image below picked so_far =
    subst (λ (xs : List FileId). IsSoFar pick old (OnFile (get_or names i d) (Restore image) ∷ made) xs g) (sym (take_more names i d below))
    (so_far_by _ pick old made (take i names) (get_or names i d) g image refl picked so_far)

fresh_picked : (pick : Pick) → IsPicked pick fresh []
fresh_picked Old = refl
fresh_picked New = refl
fresh_picked (Torn byte) = record { longest = refl; safe = λ place below untouched. absurd (omega (arith, below)); torn = λ place below touched. absurd (omega (arith, below)) }

-- all names
pub so_far_all : (pick : Pick) (old made : List Call) (m : BTreeMap FileId MemFile) (g : FileId) → (tree.get id_cmp m g ≡ None → kept_after old g ≡ fresh)
    → IsSoFar pick old made (keys m) g → IsRestored pick (kept_after old g) (kept_after made g)
so_far_all pick old made m g none so_far =
    elim so_far as (λ _. IsRestored pick (kept_after old g) (kept_after made g)) [
      | inl r ↦ r
      | inr p ↦ record { image = []; picked = subst (λ (k : Kept). IsPicked pick k []) (sym (none (absent_lookup g m.entries p.1))) (fresh_picked pick); now = p.0 }
    ]
