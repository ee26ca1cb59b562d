-- What a crash leaves of a log that is begun, and then read.
use Rattle.std.proofs.Common.{◌≡◌, ◌∙◌, ℕ, List, sym, subst}
use Rattle.chv_site.specs.declared.file_id.FileId.{FileId}
use Rattle.chv_site.specs.Files.{FileState, settled, KeepsOthers}
use Rattle.chv_site.specs.Images.{Image, IsFileImage, IsLeft, HasLengths}
use Rattle.chv_site.specs.Outside.{Outside, bytes_in}
use Rattle.chv_site.specs.During.{During}
use Rattle.chv_site.proofs.Images.{reads_image, settled_image}
use Rattle.chv_site.proofs.Moments.{goes_on}
use Rattle.chv_gate.specs.GateLog.{HasFrames, begun}
use Rattle.chv_gate.specs.Crashes.{IsLeftWith, Leaves, LeavesFrames}
use Rattle.chv_gate.proofs.CrashLemmas.{others_kept}
use Rattle.chv_gate.proofs.DamageLaws.{frames_begun}

-- once a log is begun, a crash during calls that change nothing leaves the frames from before
pub begun_left : (f : FileId) (payloads : List (List ℕ)) (old mid : FileId → FileState) (said : List ℕ) (image : Image) (text : List ℕ) → LeavesFrames payloads (old f) → HasLengths (old f)
    → mid f ≡ settled (begun (old f).bytes) → KeepsOthers f old mid → IsLeft mid said image text → IsLeftWith f (HasFrames payloads) old said image text
begun_left f payloads old mid said image text leaves lengths begun_now others left =
    let same : image f ≡ begun (old f).bytes = settled_image (begun (old f).bytes) (image f) (subst (λ (s : FileState). IsFileImage s (image f)) begun_now (left.0 f)) in (
      others_kept f old mid image others (λ g apart. left.0 g),
      subst (HasFrames payloads) (sym same) (frames_begun payloads (old f).bytes (leaves (old f).bytes (reads_image (old f) lengths))),
      left.1,
    )

-- calls that change nothing, once a log is begun
pub during_begun : (f : FileId) (payloads : List (List ℕ)) (old mid new : Outside) → LeavesFrames payloads (old.files f) → HasLengths (old.files f)
    → mid.files f ≡ settled (begun (bytes_in old f)) → KeepsOthers f old.files mid.files → mid.said ≡ old.said
    → Leaves f (HasFrames payloads) old mid → During mid new (IsLeft mid.files mid.said) → Leaves f (HasFrames payloads) old new
during_begun f payloads old mid new leaves lengths begun_now others same first later =
    goes_on old mid new (IsLeftWith f (HasFrames payloads) old.files old.said) (IsLeft mid.files mid.said) first later
    (λ image text left. begun_left f payloads old.files mid.files old.said image text leaves lengths begun_now others (left.0, left.1 ∙ same))
