-- What a gate log stands for: docs/FORMATS.md, "Gate log".
use Rattle.std.specs.Prelude.{Bool, true, false, ℕ, ◌≡◌, ◌≢◌, ◌⊎◌, ◌≤◌, ◌^◌, ◌==◌, cond, List, [], ◌∷◌, ◌++◌, length}
use Rattle.std.specs.List.{All}
use Rattle.byteorder.specs.Endian.{little_bytes}
use Rattle.chv_site.specs.Files.{FileState, settled}

-- the byte of an open gate
abbrev pub OPEN : ℕ
OPEN = 1

-- the byte that is written for a closed gate; each byte but an open gate's closes
abbrev pub CLOSED : ℕ
CLOSED = 0

-- a payload has from 1 to 2^30 bytes
pub record IsPayload (payload : List ℕ) : Type 0 where
  pub some : 1 ≤ length payload
  pub most : length payload ≤ 2 ^ 30

-- the length of a payload in four bytes, and the payload
unfoldable pub body : List ℕ → List ℕ
body payload = little_bytes 4 (length payload) ++ payload

-- what is appended for a payload: its body, and a closed gate behind it
abbrev pub frame_of : List ℕ → List ℕ
frame_of payload = body payload ++ CLOSED ∷ []

-- bodies, each behind an open gate
abbrev pub open_frames : List (List ℕ) → List ℕ
open_frames [] = []
open_frames (payload ∷ payloads) = OPEN ∷ body payload ++ open_frames payloads

-- the first of these bytes is there, and is no open gate
abbrev pub BeginsClosed : List ℕ → Type 0
BeginsClosed [] = ⊥
BeginsClosed (gate ∷ behind) = gate ≢ OPEN

-- a file has these frames and no more: behind them stands a closed gate, and bytes without a meaning; or there are
-- none, and the file has at most one byte
pub record HasFrames (payloads : List (List ℕ)) (file : List ℕ) : Type 0 where
  pub sized : All IsPayload payloads
  pub rest : List ℕ
  pub split : file ≡ open_frames payloads ++ rest
  pub ends : BeginsClosed rest ⊎ ((payloads ≡ []) × (length rest ≤ 1))

-- a log that has no closed gate yet: an empty file, or a single gate that a crash left open
abbrev pub is_torn : List ℕ → Bool
is_torn [] = true
is_torn (gate ∷ []) = gate == OPEN
is_torn (gate ∷ next ∷ behind) = false

-- a log once it is begun: a torn one becomes one closed gate, and any other stays
abbrev pub begun : List ℕ → List ℕ
begun bytes = cond (is_torn bytes) (CLOSED ∷ []) bytes

-- a log is ready for a frame: nothing is pending, and behind these frames, at this place, stands a closed gate
pub record IsReady (gate : ℕ) (payloads : List (List ℕ)) (state : FileState) : Type 0 where
  pub sized : All IsPayload payloads
  pub whole : state ≡ settled state.bytes
  pub place : gate ≡ length (open_frames payloads)
  pub rest : List ℕ
  pub split : state.bytes ≡ open_frames payloads ++ rest
  pub closed : BeginsClosed rest
