-- Laws of damage: a log is damaged at one place at most, and then it has no list of right frames.
use Rattle.std.proofs.Common.{Bool, true, false, ◌==◌, cond, ◌≡◌, ◌⊎◌, inl, inr, ap₂, ℕ, ◌+◌, ◌<◌, ◌≤◌, List, [], ◌∷◌, ◌++◌, length, get_or, drop, refl, sym, ◌∙◌, ap, subst, arith, append_assoc, length-append}
use Rattle.std.specs.List.{All}
use Rattle.std.proofs.lemmas.List.{drop_at, append-nil, get_or-append-add}
use Rattle.std.proofs.lemmas.List.Elements.{All-nil, All-head, All-tail}
use Rattle.chv_gate.specs.GateLog.{OPEN, CLOSED, IsPayload, body, frame_of, open_frames, BeginsClosed, HasFrames, begun}
use Rattle.chv_gate.specs.Reading.{IsOpen, IsFollowed, IsReadUpTo, IsDamagedAt}
use Rattle.chv_gate.proofs.GateLogLemmas.{length-body, length-frame_of, body-unique}
use Rattle.chv_gate.proofs.ReadingLaws.{closed_long}

-- one list is a front of another
abbrev pub IsFront : List (List ℕ) → List (List ℕ) → Type 0
IsFront ps qs = (more : List (List ℕ)) × (ps ++ more ≡ qs)

-- an item in front of both
front_behind : (p q : List ℕ) (ps qs : List (List ℕ)) → p ≡ q → IsFront ps qs → IsFront (p ∷ ps) (q ∷ qs)
front_behind p q ps qs same front = (front.0, ap₂ (λ (x : List ℕ) (l : List (List ℕ)). x ∷ l) same front.1)

-- of two lists of frames that a file begins with, one is a front of the other
fronts : (ps qs : List (List ℕ)) (r s : List ℕ) → All IsPayload ps → All IsPayload qs → open_frames ps ++ r ≡ open_frames qs ++ s → IsFront ps qs ⊎ IsFront qs ps
fronts [] qs r s of_ps of_qs same = inl (qs, refl)
fronts (p ∷ ps) [] r s of_ps of_qs same = inr (p ∷ ps, refl)
fronts (p ∷ ps) (q ∷ qs) r s of_ps of_qs same =
    let behind : body p ++ (open_frames ps ++ r) ≡ body q ++ (open_frames qs ++ s) =
    ap (λ (l : List ℕ). drop 1 l) (sym (append_assoc (OPEN ∷ body p) (open_frames ps) r) ∙ same ∙ append_assoc (OPEN ∷ body q) (open_frames qs) s) in
    let both = body-unique p q (open_frames ps ++ r) (open_frames qs ++ s) (All-head IsPayload p ps of_ps) (All-head IsPayload q qs of_qs) behind in
    elim (fronts ps qs r s (All-tail IsPayload p ps of_ps) (All-tail IsPayload q qs of_qs) both.1) as (λ _. IsFront (p ∷ ps) (q ∷ qs) ⊎ IsFront (q ∷ qs) (p ∷ ps)) [
      | inl front ↦ inl (front_behind p q ps qs both.0 front)
      | inr front ↦ inr (front_behind q p qs ps (sym both.0) front)
    ]

-- frames, and more of them
open_frames-append : (ps qs : List (List ℕ)) → open_frames (ps ++ qs) ≡ open_frames ps ++ open_frames qs
open_frames-append [] qs = refl
open_frames-append (p ∷ ps) qs = ap (λ (l : List ℕ). OPEN ∷ body p ++ l) (open_frames-append ps qs) ∙ sym (append_assoc (OPEN ∷ body p) (open_frames ps) (open_frames qs))

-- what stands behind a frame holds a gate
gate_behind : (payload : List ℕ) (ps more : List (List ℕ)) (rest : List ℕ) → (ps ++ payload ∷ more ≡ []) ⊎ (1 ≤ length rest) → 1 ≤ length rest
gate_behind payload [] more rest (inl none) = absurd (cc none)
gate_behind payload (p ∷ ps) more rest (inl none) = absurd (cc none)
gate_behind payload ps more rest (inr some) = some

-- where more was read than up to a gate, that gate is open, and the next payload follows it
pub read_on : (gate end : ℕ) (ps : List (List ℕ)) (payload : List ℕ) (more : List (List ℕ)) (file : List ℕ) → IsReadUpTo gate ps file → IsReadUpTo end (ps ++ payload ∷ more) file
    → IsOpen gate file × IsFollowed gate payload (gate + length (frame_of payload)) file
read_on gate end ps payload more file read further =
    let front = open_frames ps in
    let beyond = open_frames more ++ further.rest in
    let split : file ≡ front ++ OPEN ∷ (body payload ++ beyond) =
    further.split ∙ ap (λ (l : List ℕ). l ++ further.rest) (open_frames-append ps (payload ∷ more))
    ∙ append_assoc front (open_frames (payload ∷ more)) further.rest
    ∙ ap (λ (l : List ℕ). front ++ l) (append_assoc (OPEN ∷ body payload) (open_frames more) further.rest) in
    let some : 1 ≤ length further.rest = gate_behind payload ps more further.rest further.within in
    let long : length file ≡ gate + 1 + length payload + 4 + length beyond =
    ap length split ∙ omega (arith, read.place, length-append front (OPEN ∷ (body payload ++ beyond)), length-append (body payload) beyond, length-body payload) in
    let one_more : length beyond ≡ length (open_frames more) + length further.rest = length-append (open_frames more) further.rest in
    let next : length (frame_of payload) ≡ length payload + 5 = length-frame_of payload in
    let upto : length (front ++ OPEN ∷ []) ≡ gate + 1 = omega (arith, read.place, length-append front (OPEN ∷ [])) in
    let past : length (front ++ OPEN ∷ body payload) ≡ gate + length (frame_of payload) = omega (arith, read.place, length-append front (OPEN ∷ body payload), length-body payload, next) in
    let behind : drop (gate + length (frame_of payload)) file ≡ beyond =
    ap (λ (l : List ℕ). drop (gate + length (frame_of payload)) l) (split ∙ sym (append_assoc front (OPEN ∷ body payload) beyond))
    ∙ drop_at (front ++ OPEN ∷ body payload) beyond (gate + length (frame_of payload)) past in (
      record {
        byte = ap (λ (l : List ℕ). get_or l gate CLOSED) split
            ∙ ap (λ (n : ℕ). get_or (front ++ OPEN ∷ (body payload ++ beyond)) n CLOSED) (omega (arith, read.place))
            ∙ get_or-append-add front (OPEN ∷ (body payload ++ beyond)) 0 CLOSED;
        longer = omega (arith, long);
      },
      record {
        sized = sized ps further.sized;
        place = refl;
        within = omega (arith, long, one_more, some, next);
        spelled = ap (λ (l : List ℕ). drop (gate + 1) l) (split ∙ sym (append_assoc front (OPEN ∷ []) (body payload ++ beyond)))
            ∙ drop_at (front ++ OPEN ∷ []) (body payload ++ beyond) (gate + 1) upto
            ∙ ap (λ (l : List ℕ). body payload ++ l) (sym behind);
      },
    )
  where
    sized : (ps : List (List ℕ)) → All IsPayload (ps ++ payload ∷ more) → IsPayload payload
    sized [] all = All-head IsPayload payload more all
    sized (p ∷ ps) all = sized ps (All-tail IsPayload p (ps ++ payload ∷ more) all)

-- one payload at most follows a gate
pub followed_unique : (gate n m : ℕ) (p q file : List ℕ) → IsFollowed gate p n file → IsFollowed gate q m file → p ≡ q
followed_unique gate n m p q file of_p of_q = (body-unique p q (drop n file) (drop m file) of_p.sized of_q.sized (sym of_p.spelled ∙ of_q.spelled)).0

-- a list of frames is read up to its end
pub frames_read : (payloads : List (List ℕ)) (file : List ℕ) → HasFrames payloads file → IsReadUpTo (length (open_frames payloads)) payloads file
frames_read payloads file has = record {
  sized = has.sized;
  place = refl;
  rest = has.rest;
  split = has.split;
  within = elim has.ends as (λ _. (payloads ≡ []) ⊎ (1 ≤ length has.rest)) [ inl closed ↦ inr (closed_long has.rest closed) | inr none ↦ inl none.0 ];
}

-- the gate behind a list of frames is not open
pub frames_end : (payloads : List (List ℕ)) (file : List ℕ) → HasFrames payloads file → IsOpen (length (open_frames payloads)) file → ⊥
frames_end payloads file has is_open =
    shut payloads has.rest has.ends
    (sym (ap (λ (l : List ℕ). get_or l (length (open_frames payloads)) CLOSED) has.split
    ∙ ap (λ (n : ℕ). get_or (open_frames payloads ++ has.rest) n CLOSED) (omega arith)
    ∙ get_or-append-add (open_frames payloads) has.rest 0 CLOSED) ∙ is_open.byte)
    (subst (λ (l : List ℕ). 1 < length l) has.split is_open.longer)
  where
    shut : (ps : List (List ℕ)) (rest : List ℕ) → BeginsClosed rest ⊎ ((ps ≡ []) × (length rest ≤ 1)) → get_or rest 0 CLOSED ≡ OPEN → 1 < length (open_frames ps ++ rest) → ⊥
    shut ps [] ends byte long = absurd (omega (arith, byte))
    shut ps (gate ∷ behind) (inl closed) byte long = closed byte
    shut ps (gate ∷ behind) (inr none) byte long =
        omega (arith, none.1, subst (λ (l : List (List ℕ)). 1 < length (open_frames l ++ gate ∷ behind)) none.0 long)

-- of a list that stays right where its end is left out
module _ (AreRight : List (List ℕ) → Type 0) (front : (xs ys : List (List ℕ)) → AreRight (xs ++ ys) → AreRight xs) where
  -- right payloads of which more were read than up to a damaged gate
  beyond : (file : List ℕ) (at : ℕ) (damage : IsDamagedAt AreRight at file) (end : ℕ) (payload : List ℕ) (more : List (List ℕ))
      → IsReadUpTo end (damage.payloads ++ payload ∷ more) file → AreRight (damage.payloads ++ payload ∷ more) → ⊥
  beyond file at damage end payload more further right =
      let on = read_on damage.gate end damage.payloads payload more file damage.read further in
      damage.wrong payload (damage.gate + length (frame_of payload)) on.1
      (front (damage.payloads ++ payload ∷ []) more (subst AreRight (sym (append_assoc damage.payloads (payload ∷ []) more)) right))

  -- the place of damage behind which there is another
  below : (file : List ℕ) (a b : ℕ) (x : IsDamagedAt AreRight a file) (y : IsDamagedAt AreRight b file) → (front : IsFront x.payloads y.payloads) → a ≡ b
  below file a b x y ([], same) =
      omega (arith, x.place, y.place, x.read.place, y.read.place, ap (λ (l : List (List ℕ)). length (open_frames l)) (sym (append-nil x.payloads) ∙ same))
  below file a b x y (payload ∷ more, same) =
      absurd (beyond file a x y.gate payload more (subst (λ (l : List (List ℕ)). IsReadUpTo y.gate l file) (sym same) y.read) (subst AreRight (sym same) y.right))

  -- a log is damaged at one place at most
  pub damage_unique : (file : List ℕ) (a b : ℕ) → IsDamagedAt AreRight a file → IsDamagedAt AreRight b file → a ≡ b
  damage_unique file a b x y =
      elim (fronts x.payloads y.payloads x.read.rest y.read.rest x.read.sized y.read.sized (sym x.read.split ∙ y.read.split)) as (λ _. a ≡ b) [
        | inl behind ↦ below file a b x y behind
        | inr behind ↦ sym (below file b a y x behind)
      ]

  -- a damaged log has no list of right frames
  pub damage_excludes : (file : List ℕ) (at : ℕ) → IsDamagedAt AreRight at file → (payloads : List (List ℕ)) → HasFrames payloads file → AreRight payloads → ⊥
  damage_excludes file at damage payloads has right =
      let read = frames_read payloads file has in
      elim (fronts damage.payloads payloads damage.read.rest read.rest damage.read.sized read.sized (sym damage.read.split ∙ read.split)) as (λ _. ⊥) [
        | inl more ↦ shorter more
        | inr more ↦ longer more
      ]
    where
      -- the frames end at the damaged gate
      ended : payloads ≡ damage.payloads → ⊥
      ended same =
          frames_end payloads file has (subst (λ (n : ℕ). IsOpen n file) (damage.read.place ∙ ap (λ (l : List (List ℕ)). length (open_frames l)) (sym same)) damage.opened)

      shorter : IsFront damage.payloads payloads → ⊥
      shorter ([], same) = ended (sym same ∙ append-nil damage.payloads)
      shorter (payload ∷ more, same) =
          beyond file at damage (length (open_frames payloads)) payload more
          (subst (λ (l : List (List ℕ)). IsReadUpTo (length (open_frames payloads)) l file) (sym same) (frames_read payloads file has)) (subst AreRight (sym same) right)

      longer : IsFront payloads damage.payloads → ⊥
      longer ([], same) = ended (sym (append-nil payloads) ∙ same)
      longer (payload ∷ more, same) =
          frames_end payloads file has (read_on (length (open_frames payloads)) damage.gate payloads payload more file (frames_read payloads file has)
          (subst (λ (l : List (List ℕ)). IsReadUpTo damage.gate l file) (sym same) damage.read)).0

-- a log of one byte at most is so once it is begun, and any other stays
begun_short : (bytes : List ℕ) → (begun bytes ≡ bytes) ⊎ ((length bytes ≤ 1) × (length (begun bytes) ≤ 1))
begun_short [] = inr (omega arith, omega arith)
begun_short (gate ∷ []) = inr (omega arith, one gate (gate == OPEN))
  where
    one : (gate : ℕ) (test : Bool) → length (cond test (CLOSED ∷ []) (gate ∷ [])) ≤ 1
    one gate true = omega arith
    one gate false = omega arith
begun_short (gate ∷ next ∷ behind) = inl refl

-- a log of one byte at most is not damaged, and has no frame
no_damage : (AreRight : List (List ℕ) → Type 0) (at : ℕ) (file : List ℕ) → length file ≤ 1 → IsDamagedAt AreRight at file → ⊥
no_damage AreRight at file short damage = omega (arith, short, damage.opened.longer)

short_frames : (payloads : List (List ℕ)) (file bytes : List ℕ) → length file ≤ 1 → length bytes ≤ 1 → HasFrames payloads file → HasFrames payloads bytes
short_frames [] file bytes short small has = record { sized = All-nil IsPayload; rest = bytes; split = refl; ends = inr (refl, small) }
short_frames (payload ∷ payloads) file bytes short small has =
    absurd (omega (arith, short, ap length has.split, length-append (OPEN ∷ body payload) (open_frames payloads), length-append (open_frames (payload ∷ payloads)) has.rest, length-body payload))

-- a log is damaged at the same place before it is begun and once it is
pub damage_of_begun : (AreRight : List (List ℕ) → Type 0) (at : ℕ) (bytes : List ℕ) → IsDamagedAt AreRight at (begun bytes) → IsDamagedAt AreRight at bytes
damage_of_begun AreRight at bytes damage = elim (begun_short bytes) as (λ _. IsDamagedAt AreRight at bytes) [
  | inl same ↦ subst (IsDamagedAt AreRight at) same damage
  | inr short ↦ absurd (no_damage AreRight at (begun bytes) short.1 damage)
]

pub damage_begun : (AreRight : List (List ℕ) → Type 0) (at : ℕ) (bytes : List ℕ) → IsDamagedAt AreRight at bytes → IsDamagedAt AreRight at (begun bytes)
damage_begun AreRight at bytes damage = elim (begun_short bytes) as (λ _. IsDamagedAt AreRight at (begun bytes)) [
  | inl same ↦ subst (IsDamagedAt AreRight at) (sym same) damage
  | inr short ↦ absurd (no_damage AreRight at bytes short.0 damage)
]

-- and has the same frames
pub frames_of_begun : (payloads : List (List ℕ)) (bytes : List ℕ) → HasFrames payloads (begun bytes) → HasFrames payloads bytes
frames_of_begun payloads bytes has = elim (begun_short bytes) as (λ _. HasFrames payloads bytes) [
  | inl same ↦ subst (HasFrames payloads) same has
  | inr short ↦ short_frames payloads (begun bytes) bytes short.1 short.0 has
]

pub frames_begun : (payloads : List (List ℕ)) (bytes : List ℕ) → HasFrames payloads bytes → HasFrames payloads (begun bytes)
frames_begun payloads bytes has = elim (begun_short bytes) as (λ _. HasFrames payloads (begun bytes)) [
  | inl same ↦ subst (HasFrames payloads) (sym same) has
  | inr short ↦ short_frames payloads bytes (begun bytes) short.0 short.1 has
]
