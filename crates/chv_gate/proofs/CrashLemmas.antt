-- What a crash may leave of a log while it is begun, or appended to.
use Rattle.std.proofs.Common.{true, ◌≡◌, inl, inr, ℕ, ◌+◌, ◌≤◌, List, [], ◌∷◌, ◌++◌, length, get_or, take, drop, refl, sym, ◌∙◌, ap, subst, arith, append_assoc, length-append, take-append-drop}
use Rattle.std.specs.List.{All}
use Rattle.std.proofs.lemmas.Bool.{cases_eq, false≢true}
use Rattle.std.proofs.lemmas.List.{take_at, drop_at, drop_more}
use Rattle.std.proofs.lemmas.List.Elements.{All-nil, All-push}
use Rattle.chv_site.specs.declared.file_id.FileId.{FileId}
use Rattle.chv_site.specs.Files.{FileState, settled, over_written, IsPut, KeepsOthers}
use Rattle.chv_site.specs.Images.{Image, IsFileImage, IsLeft, IsTorn, HasLengths}
use Rattle.chv_site.proofs.Images.{reads_image, settled_image, torn_image}
use Rattle.chv_gate.specs.GateLog.{OPEN, CLOSED, IsPayload, frame_of, open_frames, BeginsClosed, HasFrames, is_torn, IsReady}
use Rattle.chv_gate.specs.Crashes.{AsImages, IsLeftWith, LeavesFrames, HasFramesOrMore}
use Rattle.chv_gate.proofs.GateLogLemmas.{has_frames-IsReady, not_torn, over_behind, open_frames-frame_of}

-- files that were not written are left as they were
pub others_kept : (f : FileId) (old new : FileId → FileState) (image : Image) → KeepsOthers f old new → AsImages f new image → AsImages f old image
others_kept f old new image kept is g apart = subst (λ (s : FileState). IsFileImage s (image g)) (kept g apart) (is g apart)

-- whatever a crash leaves of a log that is ready has its frames
pub ready_image : (gate : ℕ) (payloads : List (List ℕ)) (state : FileState) → IsReady gate payloads state → LeavesFrames payloads state
ready_image gate payloads state ready image is =
    let same : image ≡ state.bytes = settled_image state.bytes image (subst (λ (s : FileState). IsFileImage s image) ready.whole is) in
    subst (HasFrames payloads) (sym same) (has_frames-IsReady gate payloads state ready)

-- a file of at most one byte has no frame
no_frames : (bytes : List ℕ) → length bytes ≤ 1 → HasFrames [] bytes
no_frames bytes short = record { sized = All-nil IsPayload; rest = bytes; split = refl; ends = inr (refl, short) }

-- nor has one of which a crash leaves at most one byte
pub short_leaves : (state : FileState) → state.most ≤ 1 → LeavesFrames [] state
short_leaves state short image is = no_frames image (omega (arith, is.no_longer))

-- once a file is synced, a crash leaves of it what it may have left before
pub synced_left : (f : FileId) (P : List ℕ → Type 0) (old new : FileId → FileState) (said : List ℕ) (image : Image) (text : List ℕ) → ((bytes : List ℕ) → IsFileImage (old f) bytes → P bytes) → HasLengths (old f)
    → new f ≡ settled (old f).bytes → KeepsOthers f old new → IsLeft new said image text → IsLeftWith f P old said image text
synced_left f P old new said image text leaves lengths durable others left =
    let same : image f ≡ (old f).bytes = settled_image (old f).bytes (image f) (subst (λ (s : FileState). IsFileImage s (image f)) durable (left.0 f)) in (
      others_kept f old new image others (λ g apart. left.0 g),
      subst P (sym same) (leaves (old f).bytes (reads_image (old f) lengths)),
      left.1,
    )

-- a put into a file of which nothing is pending
pub put_left : (f : FileId) (at n : ℕ) (old new : FileId → FileState) (said : List ℕ) (image : Image) (text : List ℕ) → at ≤ length (old f).bytes → old f ≡ settled (old f).bytes
    → IsPut at n (old f) (new f) → KeepsOthers f old new → IsLeft new said image text → IsLeftWith f (IsTorn at n (old f).bytes) old said image text
put_left f at n old new said image text inside whole put others left = (
  others_kept f old new image others (λ g apart. left.0 g),
  torn_image at n (old f).bytes (image f) (new f) inside (subst (λ (s : FileState). IsPut at n s (new f)) whole put) (left.0 f),
  left.1,
)

-- a torn log has one byte at most
pub torn_short : (bytes : List ℕ) → is_torn bytes ≡ true → length bytes ≤ 1
torn_short [] torn = omega arith
torn_short (gate ∷ []) torn = omega arith
torn_short (gate ∷ next ∷ behind) torn = absurd (false≢true torn)

torn_empty : (payloads : List (List ℕ)) (bytes : List ℕ) → HasFrames payloads bytes → is_torn bytes ≡ true → payloads ≡ []
torn_empty payloads bytes has torn = elim has.ends as (λ _. payloads ≡ []) [
  | inl closed ↦ absurd (false≢true (sym (ap is_torn has.split ∙ not_torn payloads has.rest closed) ∙ torn))
  | inr none ↦ none.0
]

-- while its one gate is closed, a torn log has no frame, as before
pub torn_begun : (payloads : List (List ℕ)) (bytes image : List ℕ) → HasFrames payloads bytes → is_torn bytes ≡ true → IsTorn 0 1 bytes image → HasFrames payloads image
torn_begun payloads bytes image has is torn =
    subst (λ (ps : List (List ℕ)). HasFrames ps image) (sym (torn_empty payloads bytes has is)) (no_frames image (omega (arith, torn.no_longer, torn_short bytes is)))

-- a closed gate, and whatever is put behind it
closed_kept : (gate : ℕ) (payloads : List (List ℕ)) (bytes image rest : List ℕ) → All IsPayload payloads → gate ≡ length (open_frames payloads) → bytes ≡ open_frames payloads ++ rest → BeginsClosed rest
    → take (gate + 1) image ≡ take (gate + 1) bytes → HasFrames payloads image
closed_kept gate payloads bytes image [] sized place split closed same = absurd closed
closed_kept gate payloads bytes image (byte ∷ behind) sized place split closed same =
    let front = open_frames payloads in
    let upto = front ++ byte ∷ [] in
    let before : take (gate + 1) bytes ≡ upto =
    ap (λ (l : List ℕ). take (gate + 1) l) (split ∙ sym (append_assoc front (byte ∷ []) behind))
    ∙ take_at upto behind (gate + 1) (omega (arith, place, length-append front (byte ∷ []))) in
    record {
      sized = sized;
      rest = byte ∷ drop (gate + 1) image;
      split = sym (take-append-drop (gate + 1) image) ∙ ap (λ (l : List ℕ). l ++ drop (gate + 1) image) (same ∙ before) ∙ append_assoc front (byte ∷ []) (drop (gate + 1) image);
      ends = inl closed;
    }

-- while bytes are put behind its standing gate, a log has the frames from before
pub torn_behind : (gate n : ℕ) (payloads : List (List ℕ)) (state : FileState) (image : List ℕ) → IsReady gate payloads state → IsTorn (gate + 1) n state.bytes image → HasFrames payloads image
torn_behind gate n payloads state image ready torn = closed_kept gate payloads state.bytes image ready.rest ready.sized ready.place ready.split ready.closed torn.before

-- while the gate in front of a whole frame is written
torn_gate : (gate : ℕ) (payloads : List (List ℕ)) (payload beyond : List ℕ) (byte : ℕ) (image : List ℕ) → All IsPayload payloads → IsPayload payload → gate ≡ length (open_frames payloads)
    → IsTorn gate 1 (open_frames payloads ++ byte ∷ (frame_of payload ++ beyond)) image → HasFramesOrMore payloads payload image
torn_gate gate payloads payload beyond byte image of_payloads of_payload place torn =
    let front = open_frames payloads in
    let frame = frame_of payload ++ beyond in
    let first = get_or image gate 0 in
    let before : take gate image ≡ front = torn.before ∙ take_at front (byte ∷ frame) gate (sym place) in
    let behind : drop (gate + 1) image ≡ frame =
    torn.behind ∙ ap (λ (l : List ℕ). drop (gate + 1) l) (sym (append_assoc front (byte ∷ []) frame))
    ∙ drop_at (front ++ byte ∷ []) frame (gate + 1) (omega (arith, place, length-append front (byte ∷ []))) in
    let rest : drop gate image ≡ first ∷ frame =
    drop_more image gate 0 (omega (arith, torn.no_shorter, place, length-append front (byte ∷ frame))) ∙ ap (λ (l : List ℕ). first ∷ l) behind in
    let split : image ≡ front ++ first ∷ frame =
    sym (take-append-drop gate image) ∙ ap (λ (l : List ℕ). l ++ drop gate image) before ∙ ap (λ (l : List ℕ). front ++ l) rest in
    elim (cases_eq first OPEN) as (λ _. HasFramesOrMore payloads payload image) [
      | inl is_open ↦ inr (record {
        sized = All-push IsPayload payloads payload of_payloads of_payload;
        rest = CLOSED ∷ beyond;
        split = split ∙ ap (λ (b : ℕ). front ++ b ∷ frame) is_open ∙ open_frames-frame_of payloads payload beyond;
        ends = inl (omega arith);
      })
      | inr shut ↦ inl (record { sized = of_payloads; rest = first ∷ frame; split = split; ends = inl shut })
    ]

frame_written : (gate : ℕ) (payloads : List (List ℕ)) (payload bytes image rest : List ℕ) → All IsPayload payloads → IsPayload payload → gate ≡ length (open_frames payloads) → bytes ≡ open_frames payloads ++ rest → BeginsClosed rest
    → IsTorn gate 1 (over_written (gate + 1) (frame_of payload) bytes) image → HasFramesOrMore payloads payload image
frame_written gate payloads payload bytes image [] of_payloads of_payload place split closed torn = absurd closed
frame_written gate payloads payload bytes image (byte ∷ behind) of_payloads of_payload place split closed torn =
    let front = open_frames payloads in
    let beyond = drop (length (frame_of payload)) behind in
    let staged : over_written (gate + 1) (frame_of payload) bytes ≡ front ++ byte ∷ (frame_of payload ++ beyond) =
    ap (λ (l : List ℕ). over_written (gate + 1) (frame_of payload) l) split ∙ over_behind front gate place byte behind (frame_of payload) in
    torn_gate gate payloads payload beyond byte image of_payloads of_payload place (subst (λ (l : List ℕ). IsTorn gate 1 l image) staged torn)

-- while its standing gate is opened in front of a frame, a log has the frames from before, or that one too
pub torn_open : (gate : ℕ) (payloads : List (List ℕ)) (payload : List ℕ) (state : FileState) (image : List ℕ) → IsReady gate payloads state → IsPayload payload
    → IsTorn gate 1 (over_written (gate + 1) (frame_of payload) state.bytes) image → HasFramesOrMore payloads payload image
torn_open gate payloads payload state image ready sized torn = frame_written gate payloads payload state.bytes image ready.rest ready.sized sized ready.place ready.split ready.closed torn
