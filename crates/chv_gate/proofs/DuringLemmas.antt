-- What the calls on a log may leave, one after the other.
use Rattle.std.proofs.Common.{◌≡◌, ◌∙◌, inl, ℕ, ◌+◌, ◌≤◌, List, length, subst}
use Rattle.chv_site.specs.declared.file_id.FileId.{FileId}
use Rattle.chv_site.specs.Files.{settled, over_written, IsPut, KeepsFiles, KeepsOthers}
use Rattle.chv_site.specs.Images.{IsFileImage, IsLeft, IsTorn, HasLengths}
use Rattle.chv_site.specs.Outside.{Outside, bytes_in}
use Rattle.chv_site.specs.During.{During}
use Rattle.chv_site.proofs.Images.{kept_image}
use Rattle.chv_site.proofs.Moments.{weakened, goes_on}
use Rattle.chv_gate.specs.GateLog.{IsPayload, frame_of, IsReady}
use Rattle.chv_gate.specs.Crashes.{IsLeftWith, Leaves, HasFramesOrMore}
use Rattle.chv_gate.proofs.CrashLemmas.{others_kept, put_left, synced_left, torn_behind, torn_open}

-- calls that change nothing, and then others
pub during_reads : (old mid new : Outside) → KeepsFiles old.files mid.files → mid.said ≡ old.said → During old mid (IsLeft old.files old.said) → During mid new (IsLeft mid.files mid.said)
    → During old new (IsLeft old.files old.said)
during_reads old mid new kept same first later =
    goes_on old mid new (IsLeft old.files old.said) (IsLeft mid.files mid.said) first later
    (λ image text left. (kept_image old.files mid.files image kept left.0, left.1 ∙ same))

module _ (f : FileId) (old : Outside) where
  -- a put into a file of which nothing is pending
  pub during_put : (at n : ℕ) (new : Outside) → at ≤ length (bytes_in old f) → old.files f ≡ settled (bytes_in old f) → IsPut at n (old.files f) (new.files f) → KeepsOthers f old.files new.files
      → During old new (IsLeft new.files old.said) → Leaves f (IsTorn at n (bytes_in old f)) old new
  during_put at n new inside whole put others during =
      weakened old new (IsLeft new.files old.said) (IsLeftWith f (IsTorn at n (bytes_in old f)) old.files old.said) during
      (λ image text left. put_left f at n old.files new.files old.said image text inside whole put others left)

  -- and then a sync
  pub during_write : (at n : ℕ) (mid new : Outside) → at ≤ length (bytes_in old f) → old.files f ≡ settled (bytes_in old f) → IsPut at n (old.files f) (mid.files f) → KeepsOthers f old.files mid.files → mid.said ≡ old.said
      → During old mid (IsLeft mid.files old.said) → During mid new (IsLeft mid.files mid.said) → Leaves f (IsTorn at n (bytes_in old f)) old new
  during_write at n mid new inside whole put others same during later =
      goes_on old mid new (IsLeftWith f (IsTorn at n (bytes_in old f)) old.files old.said) (IsLeft mid.files mid.said)
      (during_put at n mid inside whole put others during) later
      (λ image text left. put_left f at n old.files mid.files old.said image text inside whole put others (left.0, left.1 ∙ same))

  module _ (P : List ℕ → Type 0) (leaves : (bytes : List ℕ) → IsFileImage (old.files f) bytes → P bytes) where
    -- a sync of a file
    pub during_sync : (new : Outside) → During old new (IsLeft old.files old.said) → Leaves f P old new
    during_sync new during =
        weakened old new (IsLeft old.files old.said) (IsLeftWith f P old.files old.said) during
        (λ image text left. (λ g apart. left.0 g, leaves (image f) (left.0 f), left.1))

    -- and then calls that change nothing
    pub during_read : (mid new : Outside) → HasLengths (old.files f) → mid.files f ≡ settled (bytes_in old f) → KeepsOthers f old.files mid.files → mid.said ≡ old.said
        → During old mid (IsLeft old.files old.said) → During mid new (IsLeft mid.files mid.said) → Leaves f P old new
    during_read mid new lengths durable others same during later =
        goes_on old mid new (IsLeftWith f P old.files old.said) (IsLeft mid.files mid.said) (during_sync mid during) later
        (λ image text left. synced_left f P old.files mid.files old.said image text leaves lengths durable others (left.0, left.1 ∙ same))

    -- and then the one gate of a torn log closed
    pub during_close : (mid new : Outside) → Leaves f P old mid → ((bytes : List ℕ) → IsTorn 0 1 (bytes_in old f) bytes → P bytes) → bytes_in mid f ≡ bytes_in old f → KeepsOthers f old.files mid.files
        → mid.said ≡ old.said → Leaves f (IsTorn 0 1 (bytes_in mid f)) mid new → Leaves f P old new
    during_close mid new first closes bytes others same later =
        goes_on old mid new (IsLeftWith f P old.files old.said) (IsLeftWith f (IsTorn 0 1 (bytes_in mid f)) mid.files mid.said) first later
        (λ image text left. (
          others_kept f old.files mid.files image others left.0,
          closes (image f) (subst (λ (l : List ℕ). IsTorn 0 1 l (image f)) bytes left.1),
          left.2 ∙ same,
        ))

  module _ (payloads : List (List ℕ)) (gate : ℕ) (payload : List ℕ) (ready : IsReady gate payloads (old.files f)) where
    -- bytes put behind the standing gate
    pub during_frame : (n : ℕ) (new : Outside) → Leaves f (IsTorn (gate + 1) n (bytes_in old f)) old new → Leaves f (HasFramesOrMore payloads payload) old new
    during_frame n new during =
        weakened old new (IsLeftWith f (IsTorn (gate + 1) n (bytes_in old f)) old.files old.said) (IsLeftWith f (HasFramesOrMore payloads payload) old.files old.said) during
        (λ image text left. (left.0, inl (torn_behind gate n payloads (old.files f) (image f) ready left.1), left.2))

    -- and then that gate written, where they were a frame
    pub during_open : (mid new : Outside) → IsPayload payload → Leaves f (HasFramesOrMore payloads payload) old mid → bytes_in mid f ≡ over_written (gate + 1) (frame_of payload) (bytes_in old f)
        → KeepsOthers f old.files mid.files → mid.said ≡ old.said → Leaves f (IsTorn gate 1 (bytes_in mid f)) mid new → Leaves f (HasFramesOrMore payloads payload) old new
    during_open mid new sized first staged others same later =
        goes_on old mid new (IsLeftWith f (HasFramesOrMore payloads payload) old.files old.said) (IsLeftWith f (IsTorn gate 1 (bytes_in mid f)) mid.files mid.said) first later
        (λ image text left. (
          others_kept f old.files mid.files image others left.0,
          torn_open gate payloads payload (old.files f) (image f) ready sized (subst (λ (l : List ℕ). IsTorn gate 1 l (image f)) staged left.1),
          left.2 ∙ same,
        ))
