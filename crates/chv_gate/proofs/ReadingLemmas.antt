-- What the steps of a reader rest on.
use Rattle.std.proofs.Common.{◌≡◌, ℕ, ◌+◌, ◌-◌, ◌^◌, ◌<◌, ◌≤◌, min, List, ◌++◌, length, get_or, take, drop, sym, ◌∙◌, ap, arith, append_assoc, length-append, length-take, length-drop, take-append-drop}
use Rattle.std.proofs.lemmas.List.{take_at, take-take, drop-drop, drop-take, length-take-le, get_or-take, get_or-drop}
use Rattle.byteorder.specs.Endian.{little_bytes}
use Rattle.byteorder.specs.Numbers.{length-bytes_low_first}
use Rattle.chv_gate.specs.GateLog.{OPEN, body}
use Rattle.chv_gate.specs.Reading.{IsOpen, IsFollowed, HasLength, IsAnnounced}
use Rattle.chv_gate.proofs.GateLogLemmas.{length-body, length-frame_of}

-- a payload of the size that stands behind an open gate
pub followed : (gate size : ℕ) (file payload : List ℕ) → 1 ≤ size → size ≤ 2 ^ 30 → IsAnnounced gate size file → payload ≡ take size (drop (gate + 5) file) → IsFollowed gate payload (gate + 5 + size) file
unfolding body
followed gate size file payload some most announced is =
    let long : length payload ≡ size = ap length is ∙ length-take-le size (drop (gate + 5) file) (omega (arith, length-drop (gate + 5) file, announced.room)) in
    let behind : drop 4 (drop (gate + 1) file) ≡ drop (gate + 5) file = drop-drop 4 (gate + 1) file ∙ ap (λ (n : ℕ). drop n file) (omega arith) in
    let rest : drop (gate + 5) file ≡ payload ++ drop (gate + 5 + size) file =
    sym (take-append-drop size (drop (gate + 5) file))
    ∙ ap (λ (l : List ℕ). l ++ drop size (drop (gate + 5) file)) (sym is)
    ∙ ap (λ (l : List ℕ). payload ++ l) (drop-drop size (gate + 5) file) in
    record {
      sized = record { some = omega arith; most = omega arith };
      place = omega (arith, length-frame_of payload);
      within = announced.room;
      spelled = sym (take-append-drop 4 (drop (gate + 1) file))
          ∙ ap (λ (l : List ℕ). l ++ drop 4 (drop (gate + 1) file)) (announced.spelled ∙ ap (λ (n : ℕ). little_bytes 4 n) (sym long))
          ∙ ap (λ (l : List ℕ). little_bytes 4 (length payload) ++ l) (behind ∙ rest)
          ∙ sym (append_assoc (little_bytes 4 (length payload)) payload (drop (gate + 5 + size) file));
    }

-- a byte that was read at a place
pub opened : (gate count : ℕ) (head file : List ℕ) → 1 < length file → 1 ≤ count → take count head ≡ take count (drop gate file) → get_or head 0 0 ≡ OPEN → IsOpen gate file
opened gate count head file longer some read byte = record {
  byte = sym (get_or-drop gate file 0 0 ∙ ap (λ (n : ℕ). get_or file n 0) (omega arith))
      ∙ sym (get_or-take count (drop gate file) 0 0 some)
      ∙ ap (λ (l : List ℕ). get_or l 0 0) (sym read)
      ∙ get_or-take count head 0 0 some
      ∙ byte;
  longer = longer;
}

-- what was read behind a gate
behind_gate : (gate count : ℕ) (head file : List ℕ) → 1 ≤ count → take count head ≡ take count (drop gate file) → take (count - 1) (drop 1 head) ≡ take (count - 1) (drop (gate + 1) file)
behind_gate gate count head file some read =
    let all : 1 + (count - 1) ≡ count = omega arith in
    sym (drop-take 1 (count - 1) head)
    ∙ ap (λ (n : ℕ). drop 1 (take n head)) all
    ∙ ap (λ (l : List ℕ). drop 1 l) read
    ∙ ap (λ (n : ℕ). drop 1 (take n (drop gate file))) (sym all)
    ∙ drop-take 1 (count - 1) (drop gate file)
    ∙ ap (λ (l : List ℕ). take (count - 1) l) (drop-drop 1 gate file)

-- a length that was read behind an open gate
pub announced : (gate size count : ℕ) (head file : List ℕ) → 1 ≤ count → take count head ≡ take count (drop gate file) → IsOpen gate file
    → HasLength size (take (count - 1) (drop 1 head)) (length file - gate - 1) → IsAnnounced gate size file
announced gate size count head file some read open_gate has =
    let four : 4 ≤ count - 1 = omega (arith, ap length has.spelled, length-take 4 (take (count - 1) (drop 1 head)), length-take (count - 1) (drop 1 head), length-bytes_low_first 0 4 size) in
    record {
      opened = open_gate;
      spelled = sym (take-take 4 (count - 1) (drop (gate + 1) file) four) ∙ ap (λ (l : List ℕ). take 4 l) (sym (behind_gate gate count head file some read)) ∙ has.spelled;
      room = omega (arith, has.room, has.some);
    }

-- the length that a reader finds where a payload follows a gate
pub has_length : (gate count : ℕ) (payload : List ℕ) (next : ℕ) (head file : List ℕ) → count ≡ min 5 (length file - gate) → take count head ≡ take count (drop gate file) → IsFollowed gate payload next file
    → HasLength (length payload) (take (count - 1) (drop 1 head)) (length file - gate - 1)
unfolding body
has_length gate count payload next head file counts read follows =
    let long : length file - (gate + 1) ≡ 4 + length payload + (length file - next) =
    sym (length-drop (gate + 1) file) ∙ ap length follows.spelled ∙ omega (arith, length-append (body payload) (drop next file), length-body payload, length-drop next file) in
    let five : count ≡ 5 = omega (arith, follows.within) in
    record {
      some = follows.sized.some;
      most = follows.sized.most;
      spelled = ap (λ (l : List ℕ). take 4 l) (behind_gate gate count head file (omega arith) read)
          ∙ take-take 4 (count - 1) (drop (gate + 1) file) (omega arith)
          ∙ ap (λ (l : List ℕ). take 4 l) (follows.spelled ∙ append_assoc (little_bytes 4 (length payload)) payload (drop next file))
          ∙ take_at (little_bytes 4 (length payload)) (payload ++ drop next file) 4 (length-bytes_low_first 0 4 (length payload));
      room = omega (arith, follows.within);
    }
