-- Laws of gate logs.
use Rattle.std.proofs.Common.{Bool, true, false, ◌==◌, ◌≡◌, ◌⊎◌, inl, inr, ap₂, ◌^◌, ◌<◌, ℕ, ◌+◌, ◌≤◌, cond, List, [], ◌∷◌, ◌++◌, length, take, drop, refl, sym, ◌∙◌, ap, subst, arith, append_assoc, length-append}
use Rattle.std.specs.List.{All}
use Rattle.std.proofs.lemmas.List.{take_at, drop_at, drop-drop, append-nil}
use Rattle.std.proofs.lemmas.List.Elements.{All-nil, All-head, All-tail, All-push}
use Rattle.std.proofs.lemmas.Bool.{eqb-false, ne_eqb}
use Rattle.std.specs.Int.{bytes_low_first}
use Rattle.byteorder.specs.Numbers.{length-bytes_low_first, little_number-reads_back}
use Rattle.byteorder.specs.Endian.{little_bytes, little_number}
use Rattle.chv_site.specs.Files.{FileState, settled, over_written}
use Rattle.chv_gate.specs.GateLog.{OPEN, CLOSED, IsPayload, body, frame_of, open_frames, BeginsClosed, HasFrames, is_torn, begun, IsReady}

pub length-body : (payload : List ℕ) → length (body payload) ≡ length payload + 4
unfolding body
length-body payload = omega (arith, length-append (bytes_low_first 0 4 (length payload)) payload, length-bytes_low_first 0 4 (length payload))

pub length-frame_of : (payload : List ℕ) → length (frame_of payload) ≡ length payload + 5
length-frame_of payload = omega (arith, length-body payload, length-append (body payload) (CLOSED ∷ []))

pub open_frames-push : (payloads : List (List ℕ)) (payload : List ℕ) → open_frames (payloads ++ payload ∷ []) ≡ open_frames payloads ++ OPEN ∷ body payload
open_frames-push [] payload = ap (λ (l : List ℕ). OPEN ∷ l) (append-nil (body payload))
open_frames-push (p ∷ payloads) payload =
    ap (λ (l : List ℕ). OPEN ∷ body p ++ l) (open_frames-push payloads payload)
    ∙ ap (λ (l : List ℕ). OPEN ∷ l) (sym (append_assoc (body p) (open_frames payloads) (OPEN ∷ body payload)))

-- a log that is ready has its frames
pub has_frames-IsReady : (gate : ℕ) (payloads : List (List ℕ)) (state : FileState) → IsReady gate payloads state → HasFrames payloads state.bytes
has_frames-IsReady gate payloads state ready = record { sized = ready.sized; rest = ready.rest; split = ready.split; ends = inl ready.closed }

-- the one byte of a log that is begun is no open gate
closed_first : (gate : ℕ) (test : Bool) → (gate == OPEN) ≡ test → BeginsClosed (cond test (CLOSED ∷ []) (gate ∷ []))
closed_first gate true is = omega arith
closed_first gate false is = eqb-false gate OPEN is

closed_begun : (bytes : List ℕ) → length bytes ≤ 1 → BeginsClosed (begun bytes)
closed_begun [] short = omega arith
closed_begun (gate ∷ []) short = closed_first gate (gate == OPEN) refl
closed_begun (gate ∷ next ∷ behind) short = absurd (omega arith)

-- a log of at most one byte is ready once it is begun, and has no frame
pub begun_ready : (bytes : List ℕ) → length bytes ≤ 1 → IsReady 0 [] (settled (begun bytes))
begun_ready bytes short = record { sized = All-nil IsPayload; whole = refl; place = refl; rest = begun bytes; split = refl; closed = closed_begun bytes short }

-- bytes that are more than a single gate are not torn
pub not_torn : (payloads : List (List ℕ)) (rest : List ℕ) → BeginsClosed rest → is_torn (open_frames payloads ++ rest) ≡ false
not_torn [] [] closed = absurd closed
not_torn [] (gate ∷ []) closed = ne_eqb gate OPEN closed
not_torn [] (gate ∷ next ∷ behind) closed = refl
not_torn (payload ∷ payloads) rest closed = longer (open_frames (payload ∷ payloads) ++ rest) (omega (arith, length-append (open_frames (payload ∷ payloads)) rest, length-append (OPEN ∷ body payload) (open_frames payloads), length-body payload))
  where
    longer : (bytes : List ℕ) → 2 ≤ length bytes → is_torn bytes ≡ false
    longer [] long = absurd (omega arith)
    longer (gate ∷ []) long = absurd (omega arith)
    longer (gate ∷ next ∷ behind) long = refl

-- a file is ready behind its frames once it is begun
pub begun_has_frames : (payloads : List (List ℕ)) (file : List ℕ) → HasFrames payloads file → IsReady (length (open_frames payloads)) payloads (settled (begun file))
begun_has_frames payloads file has = elim has.ends [
  | inl closed ↦ record {
    sized = has.sized;
    whole = refl;
    place = refl;
    rest = has.rest;
    split = ap (λ (b : Bool). cond b (CLOSED ∷ []) file) (ap is_torn has.split ∙ not_torn payloads has.rest closed) ∙ has.split;
    closed = closed;
  }
  | inr none ↦ none_yet payloads none.0 has none.1
]
  where
    none_yet : (payloads : List (List ℕ)) → payloads ≡ [] → (has : HasFrames payloads file) → length has.rest ≤ 1 → IsReady (length (open_frames payloads)) payloads (settled (begun file))
    none_yet [] none has short = begun_ready file (omega (arith, ap length has.split))
    none_yet (payload ∷ payloads) none has short = absurd (cc none)

-- a begun log is not begun again
pub begun_twice : (bytes : List ℕ) → begun (begun bytes) ≡ begun bytes
begun_twice [] = refl
begun_twice (gate ∷ []) = first gate (gate == OPEN) refl
  where
    first : (gate : ℕ) (test : Bool) → (gate == OPEN) ≡ test → begun (cond test (CLOSED ∷ []) (gate ∷ [])) ≡ cond test (CLOSED ∷ []) (gate ∷ [])
    first gate true is = refl
    first gate false is = ap (λ (b : Bool). cond b (CLOSED ∷ []) (gate ∷ [])) is
begun_twice (gate ∷ next ∷ behind) = refl

-- the bytes in front of a place, the one there, and those behind it
module _ (front : List ℕ) (gate : ℕ) (place : gate ≡ length front) where
  -- bytes put behind the one at the place
  pub over_behind : (byte : ℕ) (behind bytes : List ℕ) → over_written (gate + 1) bytes (front ++ byte ∷ behind) ≡ front ++ byte ∷ (bytes ++ drop (length bytes) behind)
  over_behind byte behind bytes =
      let upto = front ++ byte ∷ [] in
      let long : length upto ≡ gate + 1 = omega (arith, length-append front (byte ∷ [])) in
      let split : front ++ byte ∷ behind ≡ upto ++ behind = sym (append_assoc front (byte ∷ []) behind) in
      let before : take (gate + 1) (front ++ byte ∷ behind) ≡ upto = ap (λ (l : List ℕ). take (gate + 1) l) split ∙ take_at upto behind (gate + 1) long in
      let after : drop (gate + 1) (front ++ byte ∷ behind) ≡ behind = ap (λ (l : List ℕ). drop (gate + 1) l) split ∙ drop_at upto behind (gate + 1) long in
      let beyond : drop (gate + 1 + length bytes) (front ++ byte ∷ behind) ≡ drop (length bytes) behind =
      sym (drop-drop (length bytes) (gate + 1) (front ++ byte ∷ behind)) ∙ ap (λ (l : List ℕ). drop (length bytes) l) after in
      ap (λ (l : List ℕ). l ++ bytes ++ drop (gate + 1 + length bytes) (front ++ byte ∷ behind)) before
      ∙ ap (λ (l : List ℕ). upto ++ bytes ++ l) beyond
      ∙ append_assoc upto bytes (drop (length bytes) behind) ∙ append_assoc front (byte ∷ []) (bytes ++ drop (length bytes) behind)

  -- a byte put at the place
  pub over_at : (byte new : ℕ) (behind : List ℕ) → over_written gate (new ∷ []) (front ++ byte ∷ behind) ≡ front ++ new ∷ behind
  over_at byte new behind =
      let after : drop (gate + 1) (front ++ byte ∷ behind) ≡ behind =
      ap (λ (l : List ℕ). drop (gate + 1) l) (sym (append_assoc front (byte ∷ []) behind))
      ∙ drop_at (front ++ byte ∷ []) behind (gate + 1) (omega (arith, length-append front (byte ∷ []))) in
      ap (λ (l : List ℕ). l ++ new ∷ [] ++ drop (gate + 1) (front ++ byte ∷ behind)) (take_at front (byte ∷ behind) gate (sym place))
      ∙ ap (λ (l : List ℕ). front ++ new ∷ [] ++ l) after ∙ append_assoc front (new ∷ []) behind

-- a whole frame behind an open gate is one frame more, with its last byte as the standing gate
pub open_frames-frame_of : (payloads : List (List ℕ)) (payload behind : List ℕ) → open_frames payloads ++ OPEN ∷ (frame_of payload ++ behind) ≡ open_frames (payloads ++ payload ∷ []) ++ CLOSED ∷ behind
open_frames-frame_of payloads payload behind =
    ap (λ (l : List ℕ). open_frames payloads ++ OPEN ∷ l) (append_assoc (body payload) (CLOSED ∷ []) behind)
    ∙ sym (append_assoc (open_frames payloads) (OPEN ∷ body payload) (CLOSED ∷ behind))
    ∙ ap (λ (l : List ℕ). l ++ CLOSED ∷ behind) (sym (open_frames-push payloads payload))

-- a log after an append, that had any byte at its standing gate
written_split : (gate : ℕ) (payloads : List (List ℕ)) (payload bytes rest : List ℕ) → gate ≡ length (open_frames payloads) → bytes ≡ open_frames payloads ++ rest → BeginsClosed rest
    → over_written gate (OPEN ∷ []) (over_written (gate + 1) (frame_of payload) bytes) ≡ open_frames (payloads ++ payload ∷ []) ++ CLOSED ∷ drop (length (frame_of payload)) (drop 1 rest)
written_split gate payloads payload bytes [] place split closed = absurd closed
written_split gate payloads payload bytes (byte ∷ behind) place split closed =
    let front = open_frames payloads in
    let beyond = drop (length (frame_of payload)) behind in
    ap (λ (l : List ℕ). over_written gate (OPEN ∷ []) (over_written (gate + 1) (frame_of payload) l)) split
    ∙ ap (λ (l : List ℕ). over_written gate (OPEN ∷ []) l) (over_behind front gate place byte behind (frame_of payload))
    ∙ over_at front gate place byte OPEN (frame_of payload ++ beyond)
    ∙ open_frames-frame_of payloads payload beyond

-- a frame put behind the standing gate of a log that is ready, and then that gate opened
pub appended : (gate : ℕ) (payloads : List (List ℕ)) (payload : List ℕ) (state : FileState) → IsReady gate payloads state → IsPayload payload
    → IsReady (gate + length (frame_of payload)) (payloads ++ payload ∷ []) (settled (over_written gate (OPEN ∷ []) (over_written (gate + 1) (frame_of payload) state.bytes)))
appended gate payloads payload state ready sized = record {
  sized = All-push IsPayload payloads payload ready.sized sized;
  whole = refl;
  place = omega (arith, ready.place, ap length (open_frames-push payloads payload), length-append (open_frames payloads) (OPEN ∷ body payload), length-append (body payload) (CLOSED ∷ []));
  rest = CLOSED ∷ drop (length (frame_of payload)) (drop 1 ready.rest);
  split = written_split gate payloads payload state.bytes ready.rest ready.place ready.split ready.closed;
  closed = omega arith;
}

-- what a body spells, and what stands behind it
pub body-length : (payload behind : List ℕ) → length payload < 256 ^ 4 → little_number 4 (body payload ++ behind) ≡ length payload
unfolding body
body-length payload behind short =
    ap (λ (l : List ℕ). little_number 4 l) (append_assoc (little_bytes 4 (length payload)) payload behind)
    ∙ little_number-reads_back 4 (length payload) (payload ++ behind) short

pub body-behind : (payload behind : List ℕ) → drop 4 (body payload ++ behind) ≡ payload ++ behind
unfolding body
body-behind payload behind =
    ap (λ (l : List ℕ). drop 4 l) (append_assoc (little_bytes 4 (length payload)) payload behind)
    ∙ drop_at (little_bytes 4 (length payload)) (payload ++ behind) 4 (length-bytes_low_first 0 4 (length payload))

-- a body is read in one way, whatever stands behind it
pub body-unique : (p q x y : List ℕ) → IsPayload p → IsPayload q → body p ++ x ≡ body q ++ y → (p ≡ q) × (x ≡ y)
body-unique p q x y of_p of_q same =
    let long : length p ≡ length q =
    sym (body-length p x (omega (arith, of_p.most))) ∙ ap (λ (l : List ℕ). little_number 4 l) same ∙ body-length q y (omega (arith, of_q.most)) in
    let behind : p ++ x ≡ q ++ y = sym (body-behind p x) ∙ ap (λ (l : List ℕ). drop 4 l) same ∙ body-behind q y in (
      sym (take_at p x (length p) refl) ∙ ap (λ (l : List ℕ). take (length p) l) behind ∙ take_at q y (length p) (sym long),
      sym (drop_at p x (length p) refl) ∙ ap (λ (l : List ℕ). drop (length p) l) behind ∙ drop_at q y (length p) (sym long),
    )

-- what may stand behind the frames of a file
abbrev pub Ends : List (List ℕ) → List ℕ → Type 0
Ends payloads rest = BeginsClosed rest ⊎ ((payloads ≡ []) × (length rest ≤ 1))

-- an end is no frame
pub no_frame : (rest payload behind : List ℕ) → Ends [] rest → rest ≡ OPEN ∷ body payload ++ behind → ⊥
no_frame rest payload behind (inl closed) is = (subst BeginsClosed is closed) refl
no_frame rest payload behind (inr short) is = absurd (omega (arith, short.1, ap length is, length-append (body payload) behind, length-body payload))

-- an end behind a frame is closed
pub closed_end : (payload : List ℕ) (payloads : List (List ℕ)) (rest : List ℕ) → Ends (payload ∷ payloads) rest → BeginsClosed rest
closed_end payload payloads rest (inl closed) = closed
closed_end payload payloads rest (inr none) = absurd (cc none.0)

same_frames : (ps qs : List (List ℕ)) (r s : List ℕ) → All IsPayload ps → All IsPayload qs → Ends ps r → Ends qs s → open_frames ps ++ r ≡ open_frames qs ++ s → ps ≡ qs
same_frames [] [] r s of_ps of_qs end_r end_s same = refl
same_frames [] (q ∷ qs) r s of_ps of_qs end_r end_s same = absurd (no_frame r q (open_frames qs ++ s) end_r (same ∙ append_assoc (OPEN ∷ body q) (open_frames qs) s))
same_frames (p ∷ ps) [] r s of_ps of_qs end_r end_s same = absurd (no_frame s p (open_frames ps ++ r) end_s (sym same ∙ append_assoc (OPEN ∷ body p) (open_frames ps) r))
same_frames (p ∷ ps) (q ∷ qs) r s of_ps of_qs end_r end_s same =
    let behind : body p ++ (open_frames ps ++ r) ≡ body q ++ (open_frames qs ++ s) =
    ap (λ (l : List ℕ). drop 1 l) (sym (append_assoc (OPEN ∷ body p) (open_frames ps) r) ∙ same ∙ append_assoc (OPEN ∷ body q) (open_frames qs) s) in
    let both = body-unique p q (open_frames ps ++ r) (open_frames qs ++ s) (All-head IsPayload p ps of_ps) (All-head IsPayload q qs of_qs) behind in
    let rest = same_frames ps qs r s (All-tail IsPayload p ps of_ps) (All-tail IsPayload q qs of_qs) (inl (closed_end p ps r end_r)) (inl (closed_end q qs s end_s)) both.1 in
    ap₂ (λ (x : List ℕ) (l : List (List ℕ)). x ∷ l) both.0 rest

-- a file has one list of frames
pub unique : (ps qs : List (List ℕ)) (file : List ℕ) → HasFrames ps file → HasFrames qs file → ps ≡ qs
unique ps qs file has_ps has_qs = same_frames ps qs has_ps.rest has_qs.rest has_ps.sized has_qs.sized has_ps.ends has_qs.ends (sym has_ps.split ∙ has_qs.split)
