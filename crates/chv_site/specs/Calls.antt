-- What the calls of a site in memory make of its files and its text.
use Rattle.std.specs.Prelude.{ℕ, ◌≡◌, ◌⊎◌, ◌+◌, ◌^◌, ◌<◌, ◌≤◌, min, max, Bool, cond, List, [], ◌∷◌, ◌++◌, length, take}
use Rattle.std.specs.Ordering.{nat_cmp, ordering_then}
use Rattle.std.specs.declared.cmp.Ordering.{Ordering}
use Rattle.std.specs.BTreeMap.{is_at}
use Rattle.chv_site.specs.declared.file_id.FileId.{FileId}
use Rattle.chv_site.specs.declared.call.Act.{Act}
use Rattle.chv_site.specs.declared.call.Act.TheVariants.{Put, BeginPut, Cut, BeginCut, Sync, Restore}
use Rattle.chv_site.specs.declared.call.Call.{Call}
use Rattle.chv_site.specs.declared.call.Call.TheVariants.{OnFile, Say}
use Rattle.chv_site.specs.Files.{FileState, settled, over_written, IsFrontOf}
use Rattle.chv_site.specs.Images.{Image, IsImage, IsLeft}

-- by table, and then by part
abbrev pub id_cmp : FileId → FileId → Ordering
id_cmp a b = ordering_then (nat_cmp a.table b.table) (nat_cmp a.part b.part)

-- whether two names are those of one file
abbrev pub is_file : FileId → FileId → Bool
is_file f g = is_at (id_cmp f) g

-- a file, and its bytes at its last sync
pub record Kept : Type 0 where
  pub state : FileState
  pub synced : List ℕ

-- a file with these bytes, and nothing pending
abbrev pub restored : List ℕ → Kept
restored bytes = record { state = settled bytes; synced = bytes }

-- an absent file
abbrev pub fresh : Kept
fresh = restored []

-- a file once a put of n bytes was begun
abbrev pub put_begun : ℕ → ℕ → FileState → FileState
put_begun at n state = record state { most = max state.most (at + n); touched = state.touched ++ (at, at + n) ∷ [] }

-- a file after a put
abbrev pub put_done : ℕ → List ℕ → FileState → FileState
put_done at bytes state = record (put_begun at (length bytes) state) { bytes = over_written at bytes state.bytes }

-- a file once a cut was begun
abbrev pub cut_begun : ℕ → FileState → FileState
cut_begun len state = record state { least = min state.least len }

-- a file after a cut
abbrev pub cut_done : ℕ → FileState → FileState
cut_done len state = record (cut_begun len state) { bytes = take len state.bytes }

-- a file after it was acted on
abbrev pub after_act : Act → Kept → Kept
after_act (Put at bytes) kept = record kept { state = put_done at bytes kept.state }
after_act (BeginPut at n) kept = record kept { state = put_begun at n kept.state }
after_act (Cut len) kept = record kept { state = cut_done len kept.state }
after_act (BeginCut len) kept = record kept { state = cut_begun len kept.state }
after_act Sync kept = restored kept.state.bytes
after_act (Restore bytes) kept = restored bytes

-- the act keeps to the file's length, and all its places to a usize
abbrev pub IsPossible : Act → FileState → Type 0
IsPossible (Put at bytes) state = (at ≤ length state.bytes) × (at + length bytes < 2 ^ 64)
IsPossible (BeginPut at n) state = at + n < 2 ^ 64
IsPossible (Cut len) state = Unit {0}
IsPossible (BeginCut len) state = Unit {0}
IsPossible Sync state = Unit {0}
IsPossible (Restore bytes) state = Unit {0}

-- each file after these calls, the newest of them first
abbrev pub kept_after : List Call → FileId → Kept
kept_after [] g = fresh
kept_after (OnFile f act ∷ earlier) g = cond (is_file f g) (after_act act (kept_after earlier g)) (kept_after earlier g)
kept_after (Say bytes ∷ earlier) g = kept_after earlier g

-- each file as a site shows it
abbrev pub state_after : List Call → FileId → FileState
state_after calls g = (kept_after calls g).state

-- each file as it reads
abbrev pub bytes_after : List Call → Image
bytes_after calls g = (state_after calls g).bytes

-- the text after these calls, the newest of them first
abbrev pub text_after : List Call → List ℕ
text_after [] = []
text_after (OnFile f act ∷ earlier) = text_after earlier
text_after (Say bytes ∷ earlier) = text_after earlier ++ bytes

-- a crash right after these calls may leave this
abbrev pub IsLeftBy : List Call → Image → List ℕ → Type 0
IsLeftBy calls image text = IsLeft (state_after calls) (text_after calls) image text

-- a crash during a call may leave a text that it had not yet said to its end
abbrev pub IsCutShort : Call → List Call → Image → List ℕ → Type 0
IsCutShort (OnFile f act) earlier image text = ⊥
IsCutShort (Say bytes) earlier image text = IsImage (state_after earlier) image × IsFrontOf bytes (text_after earlier) text

-- a crash after the first t of these calls, or later, may have left this
abbrev pub HasLeft : List Call → ℕ → Image → List ℕ → Type 0
HasLeft [] t image text = IsLeftBy [] image text
HasLeft (call ∷ earlier) t image text =
    IsLeftBy (call ∷ earlier) image text ⊎ ((t ≤ length earlier) × (IsCutShort call earlier image text ⊎ HasLeft earlier t image text))

-- a call that is to act on a file has acted, or begun to, or changed nothing
pub record IsEnded (f : FileId) (act begun : Act) (old new : List Call) : Type 0 where
  pub how : (new ≡ OnFile f act ∷ old) ⊎ (new ≡ OnFile f begun ∷ old) ⊎ (new ≡ old)
