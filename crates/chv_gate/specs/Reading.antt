-- How the frames of a gate log are read one after the other: docs/FORMATS.md, "Gate log".
use Rattle.std.specs.Prelude.{ℕ, ⊤, ◌≡◌, ◌⊎◌, ◌+◌, ◌<◌, ◌≤◌, ◌^◌, List, [], ◌∷◌, ◌++◌, length, get_or, take, drop}
use Rattle.std.specs.List.{All}
use Rattle.byteorder.specs.Endian.{little_bytes}
use Rattle.chv_gate.specs.GateLog.{OPEN, CLOSED, IsPayload, body, frame_of, open_frames}
use Rattle.chv_gate.specs.declared.reading.GateRead.{GateRead}
use Rattle.chv_gate.specs.declared.fault.GateFault.{GateFault}

-- an open gate stands at a place of a file; the byte of a file of one byte is never open
pub record IsOpen (gate : ℕ) (file : List ℕ) : Type 0 where
  pub byte : get_or file gate CLOSED ≡ OPEN
  pub longer : 1 < length file

-- behind a gate stands the body of this payload, and behind that, at this place, the next gate
pub record IsFollowed (gate : ℕ) (payload : List ℕ) (next : ℕ) (file : List ℕ) : Type 0 where
  pub sized : IsPayload payload
  pub place : next ≡ gate + length (frame_of payload)
  pub within : next < length file
  pub spelled : drop (gate + 1) file ≡ body payload ++ drop next file

-- what a step at a gate answers: the end, at a gate that is not open; else a payload that follows it, and the next gate
abbrev pub Reads : ℕ → List ℕ → GateRead → Type 0
Reads gate file (GateRead.End end) = IsOpen gate file → ⊥
Reads gate file (GateRead.Body payload next) = IsOpen gate file × IsFollowed gate payload.items next file

-- damage is told at the place behind an open gate that no payload follows
abbrev pub IsDamage : ℕ → List ℕ → GateFault → Type 0
IsDamage gate file GateFault.Failed = ⊤
IsDamage gate file GateFault.NoMemory = ⊤
IsDamage gate file (GateFault.Damaged at) = (at ≡ gate + 1) × IsOpen gate file × ((payload : List ℕ) (next : ℕ) → IsFollowed gate payload next file → ⊥)

-- on any file a step ends where it stands, or goes on by a payload's frame
abbrev pub GoesOn : ℕ → GateRead → Type 0
GoesOn gate (GateRead.End end) = end ≡ gate
GoesOn gate (GateRead.Body payload next) = IsPayload payload.items × (next ≡ gate + length (frame_of payload.items))

-- these frames are read, and a gate stands at this place, unless the file is empty
pub record IsReadUpTo (gate : ℕ) (payloads : List (List ℕ)) (file : List ℕ) : Type 0 where
  pub sized : All IsPayload payloads
  pub place : gate ≡ length (open_frames payloads)
  pub rest : List ℕ
  pub split : file ≡ open_frames payloads ++ rest
  pub within : (payloads ≡ []) ⊎ (1 ≤ length rest)

-- these bytes begin with the length of a payload, and of the bytes that are left, a gate is behind it
pub record HasLength (size : ℕ) (bytes : List ℕ) (left : ℕ) : Type 0 where
  pub some : 1 ≤ size
  pub most : size ≤ 2 ^ 30
  pub spelled : take 4 bytes ≡ little_bytes 4 size
  pub room : 4 + size < left

-- behind an open gate stands this length, and the file has so many bytes behind it, and a gate
pub record IsAnnounced (gate size : ℕ) (file : List ℕ) : Type 0 where
  pub opened : IsOpen gate file
  pub spelled : take 4 (drop (gate + 1) file) ≡ little_bytes 4 size
  pub room : gate + 5 + size < length file

-- a log is damaged at this place: behind a gate, in front of which stand right payloads, and that is open, and behind
-- which follows no payload that is right there
pub record IsDamagedAt (AreRight : List (List ℕ) → Type 0) (at : ℕ) (file : List ℕ) : Type 0 where
  pub payloads : List (List ℕ)
  pub right : AreRight payloads
  pub gate : ℕ
  pub read : IsReadUpTo gate payloads file
  pub opened : IsOpen gate file
  pub place : at ≡ gate + 1
  pub wrong : (payload : List ℕ) (next : ℕ) → IsFollowed gate payload next file → AreRight (payloads ++ payload ∷ []) → ⊥
