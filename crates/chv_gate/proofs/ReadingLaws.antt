-- What steps from the first gate on say of a file: its frames, or that it has no list of frames.
use Rattle.std.proofs.Common.{◌≡◌, ◌⊎◌, inl, inr, ℕ, ◌+◌, ◌<◌, ◌≤◌, List, [], ◌∷◌, ◌++◌, length, get_or, drop, refl, sym, ◌∙◌, ap, subst, arith, append_assoc, length-append, length-drop}
use Rattle.std.specs.List.{All}
use Rattle.std.proofs.lemmas.List.{drop_at, drop-drop, get_or-append-add}
use Rattle.std.proofs.lemmas.List.Elements.{All-nil, All-head, All-tail, All-push}
use Rattle.chv_site.specs.Files.{settled}
use Rattle.chv_gate.specs.GateLog.{OPEN, CLOSED, IsPayload, body, frame_of, open_frames, BeginsClosed, HasFrames, begun, IsReady}
use Rattle.chv_gate.specs.Reading.{IsOpen, IsFollowed, IsReadUpTo}
use Rattle.chv_gate.proofs.GateLogLemmas.{length-body, length-frame_of, open_frames-push, body-unique, Ends, no_frame, closed_end, begun_has_frames, begun_twice}

-- before the first step
pub reads_none : (file : List ℕ) → IsReadUpTo 0 [] file
reads_none file = record { sized = All-nil IsPayload; place = refl; rest = file; split = refl; within = inl refl }

-- what stands from a gate on
from_gate : (gate : ℕ) (payloads : List (List ℕ)) (file : List ℕ) (read : IsReadUpTo gate payloads file) → drop gate file ≡ read.rest
from_gate gate payloads file read = ap (λ (l : List ℕ). drop gate l) read.split ∙ drop_at (open_frames payloads) read.rest gate (sym read.place)

-- the byte of a gate
at_gate : (gate : ℕ) (payloads : List (List ℕ)) (file : List ℕ) (read : IsReadUpTo gate payloads file) → get_or file gate CLOSED ≡ get_or read.rest 0 CLOSED
at_gate gate payloads file read =
    ap (λ (l : List ℕ). get_or l gate CLOSED) read.split
    ∙ ap (λ (n : ℕ). get_or (open_frames payloads ++ read.rest) n CLOSED) (omega (arith, read.place))
    ∙ get_or-append-add (open_frames payloads) read.rest 0 CLOSED

-- bytes that begin with a byte
first_byte : (rest : List ℕ) → get_or rest 0 CLOSED ≡ OPEN → rest ≡ OPEN ∷ drop 1 rest
first_byte [] is = absurd (omega arith)
first_byte (byte ∷ behind) is = ap (λ (b : ℕ). b ∷ behind) is

-- a step that gave a payload
pub reads_more : (gate : ℕ) (payloads : List (List ℕ)) (file payload : List ℕ) (next : ℕ) → IsReadUpTo gate payloads file → IsOpen gate file → IsFollowed gate payload next file → IsReadUpTo next (payloads ++ payload ∷ []) file
reads_more gate payloads file payload next read is_open follows =
    let opens : read.rest ≡ OPEN ∷ drop 1 read.rest = first_byte read.rest (sym (at_gate gate payloads file read) ∙ is_open.byte) in
    let behind : drop 1 read.rest ≡ body payload ++ drop next file =
    ap (λ (l : List ℕ). drop 1 l) (sym (from_gate gate payloads file read)) ∙ drop-drop 1 gate file ∙ follows.spelled in
    record {
      sized = All-push IsPayload payloads payload read.sized follows.sized;
      place = omega (arith, read.place, follows.place, length-frame_of payload, length-body payload, ap length (open_frames-push payloads payload), length-append (open_frames payloads) (OPEN ∷ body payload));
      rest = drop next file;
      split = read.split ∙ ap (λ (l : List ℕ). open_frames payloads ++ l) (opens ∙ ap (λ (l : List ℕ). OPEN ∷ l) behind)
          ∙ sym (append_assoc (open_frames payloads) (OPEN ∷ body payload) (drop next file))
          ∙ ap (λ (l : List ℕ). l ++ drop next file) (sym (open_frames-push payloads payload));
      within = inr (omega (arith, follows.within, length-drop next file));
    }

-- what stands behind the frames that were read, where the gate is not open
ending : (payloads : List (List ℕ)) (rest : List ℕ) → (payloads ≡ []) ⊎ (1 ≤ length rest) → (get_or rest 0 CLOSED ≡ OPEN → 1 < length (open_frames payloads ++ rest) → ⊥) → Ends payloads rest
ending payloads [] (inl none) shut = inr (none, omega arith)
ending payloads [] (inr some) shut = absurd (omega arith)
ending [] (byte ∷ []) within shut = inr (refl, omega arith)
ending [] (byte ∷ next ∷ behind) within shut = inl (λ is. shut is (omega arith))
ending (payload ∷ payloads) (byte ∷ behind) within shut = inl (λ is. shut is (omega (arith, length-append (OPEN ∷ body payload) (open_frames payloads), length-append (open_frames (payload ∷ payloads)) (byte ∷ behind))))

-- a step that gave the end: the file has the frames that were read
pub reads_end : (gate : ℕ) (payloads : List (List ℕ)) (file : List ℕ) → IsReadUpTo gate payloads file → (IsOpen gate file → ⊥) → HasFrames payloads file
reads_end gate payloads file read shut = record {
  sized = read.sized;
  rest = read.rest;
  split = read.split;
  ends = ending payloads read.rest read.within (λ is long. shut (record {
    byte = at_gate gate payloads file read ∙ is;
    longer = subst (λ (l : List ℕ). 1 < length l) (sym read.split) long;
  }));
}

-- a begun log that is read to its end is ready at the gate there
pub reads_ready : (gate : ℕ) (payloads : List (List ℕ)) (bytes : List ℕ) → IsReadUpTo gate payloads (begun bytes) → (IsOpen gate (begun bytes) → ⊥) → IsReady gate payloads (settled (begun bytes))
reads_ready gate payloads bytes read shut =
    let ready = begun_has_frames payloads (begun bytes) (reads_end gate payloads (begun bytes) read shut) in
    subst (λ (n : ℕ). IsReady n payloads (settled (begun bytes))) (sym read.place)
    (subst (λ (l : List ℕ). IsReady (length (open_frames payloads)) payloads (settled l)) (begun_twice bytes) ready)

-- where a closed gate stands, there is a byte
pub closed_long : (rest : List ℕ) → BeginsClosed rest → 1 ≤ length rest
closed_long [] closed = absurd closed
closed_long (byte ∷ behind) closed = omega arith

-- an open gate that no payload follows is in no list of frames
no_list : (ps qs : List (List ℕ)) (behind s : List ℕ) → All IsPayload ps → All IsPayload qs → Ends qs s → (ps ≡ [] → (1 ≤ length behind) ⊎ BeginsClosed s)
    → ((payload after : List ℕ) → IsPayload payload → behind ≡ body payload ++ after → 1 ≤ length after → ⊥) → open_frames ps ++ OPEN ∷ behind ≡ open_frames qs ++ s → ⊥
no_list [] [] behind s of_ps of_qs end longer none same = elim end [
  | inl closed ↦ (subst BeginsClosed (sym same) closed) refl
  | inr short ↦ elim (longer refl) [
    | inl long ↦ absurd (omega (arith, long, short.1, ap length same))
    | inr closed ↦ (subst BeginsClosed (sym same) closed) refl
  ]
]
no_list [] (q ∷ qs) behind s of_ps of_qs end longer none same =
    none q (open_frames qs ++ s) (All-head IsPayload q qs of_qs)
    (ap (λ (l : List ℕ). drop 1 l) (same ∙ append_assoc (OPEN ∷ body q) (open_frames qs) s))
    (omega (arith, length-append (open_frames qs) s, closed_long s (closed_end q qs s end)))
no_list (p ∷ ps) [] behind s of_ps of_qs end longer none same =
    no_frame s p (open_frames ps ++ OPEN ∷ behind) end (sym same ∙ append_assoc (OPEN ∷ body p) (open_frames ps) (OPEN ∷ behind))
no_list (p ∷ ps) (q ∷ qs) behind s of_ps of_qs end longer none same =
    let later : body p ++ (open_frames ps ++ OPEN ∷ behind) ≡ body q ++ (open_frames qs ++ s) =
    ap (λ (l : List ℕ). drop 1 l) (sym (append_assoc (OPEN ∷ body p) (open_frames ps) (OPEN ∷ behind)) ∙ same ∙ append_assoc (OPEN ∷ body q) (open_frames qs) s) in
    let both = body-unique p q (open_frames ps ++ OPEN ∷ behind) (open_frames qs ++ s) (All-head IsPayload p ps of_ps) (All-head IsPayload q qs of_qs) later in
    let closed = closed_end q qs s end in
    no_list ps qs behind s (All-tail IsPayload p ps of_ps) (All-tail IsPayload q qs of_qs) (inl closed) (λ _. inr closed) none both.1

-- a step that gave damage: the file has no list of frames
pub reads_damage : (gate : ℕ) (payloads : List (List ℕ)) (file : List ℕ) → IsReadUpTo gate payloads file → IsOpen gate file → ((payload : List ℕ) (next : ℕ) → IsFollowed gate payload next file → ⊥)
    → (qs : List (List ℕ)) → HasFrames qs file → ⊥
reads_damage gate payloads file read is_open none qs has =
    let behind = drop 1 read.rest in
    let opens : read.rest ≡ OPEN ∷ behind = first_byte read.rest (sym (at_gate gate payloads file read) ∙ is_open.byte) in
    let split : file ≡ open_frames payloads ++ OPEN ∷ behind = read.split ∙ ap (λ (l : List ℕ). open_frames payloads ++ l) opens in
    let long : length file ≡ gate + 1 + length behind = ap length split ∙ omega (arith, read.place, length-append (open_frames payloads) (OPEN ∷ behind)) in
    let stands : drop gate file ≡ OPEN ∷ behind = from_gate gate payloads file read ∙ opens in
    no_list payloads qs behind has.rest read.sized has.sized has.ends
    (λ empty. inl (omega (arith, is_open.longer, long, read.place, ap (λ (l : List (List ℕ)). length (open_frames l)) empty)))
    (λ payload after sized is some. none payload (gate + length (frame_of payload)) (record {
      sized = sized;
      place = refl;
      within = omega (arith, long, ap length is, length-append (body payload) after, length-body payload, length-frame_of payload);
      spelled = sym (drop-drop 1 gate file) ∙ ap (λ (l : List ℕ). drop 1 l) stands ∙ is ∙ ap (λ (l : List ℕ). body payload ++ l) (sym (
          sym (drop-drop (length (frame_of payload)) gate file)
          ∙ ap (λ (l : List ℕ). drop (length (frame_of payload)) l) (stands ∙ ap (λ (l : List ℕ). OPEN ∷ l) is)
          ∙ drop_at (OPEN ∷ body payload) after (length (frame_of payload)) (omega (arith, length-body payload, length-frame_of payload))
          ));
    }))
    (sym split ∙ has.split)
