-- The ids of blocks, which are hashes of what names them: docs/FORMATS.md, "Ids".
use Rattle.std.specs.Prelude.{ℕ, Bool, ◌==◌, ◌&&◌, ◌-◌, List, [], ◌∷◌, ◌++◌, length, drop}
use Rattle.std.specs.Int.{w32, w64, to_le_bytes}
use Rattle.std.specs.List.{flat_map}
use Rattle.byteorder.specs.Endian.{little_number}
use Rattle.chv_sip.specs.SipHash.{sip_hash}
use Rattle.chv_sip.specs.declared.block_id.BlockId.{BlockId}

-- the hash under a key of 16 bytes, which is two words
abbrev pub keyed_hash : List ℕ → List ℕ → ℕ
keyed_hash key bytes = sip_hash (little_number 8 key) (little_number 8 (drop 8 key)) bytes

-- the key of an id's first word, and of the hash of a part's body
abbrev pub first_key : List ℕ
first_key = 0x00 ∷ 0x01 ∷ 0x02 ∷ 0x03 ∷ 0x04 ∷ 0x05 ∷ 0x06 ∷ 0x07 ∷ 0x08 ∷ 0x09 ∷ 0x0a ∷ 0x0b ∷ 0x0c ∷ 0x0d ∷ 0x0e ∷ 0x0f ∷ []

-- the key of an id's second word
abbrev pub second_key : List ℕ
second_key = 0x10 ∷ 0x11 ∷ 0x12 ∷ 0x13 ∷ 0x14 ∷ 0x15 ∷ 0x16 ∷ 0x17 ∷ 0x18 ∷ 0x19 ∷ 0x1a ∷ 0x1b ∷ 0x1c ∷ 0x1d ∷ 0x1e ∷ 0x1f ∷ []

-- the id of what names a block
abbrev pub id_of : List ℕ → BlockId
id_of key = record { first = keyed_hash first_key key; second = keyed_hash second_key key }

-- what names a block by its content: 1, and the block's bytes
abbrev pub content_key : List ℕ → List ℕ
content_key block = 1 ∷ block

-- what names a block by a token: 2, the token behind its length, and the number of the block in its insert, from 0
abbrev pub token_key : List ℕ → ℕ → List ℕ
token_key token number = (2 ∷ []) ++ to_le_bytes w32 (length token) ++ token ++ to_le_bytes w32 number

-- a name behind its length
abbrev pub measured : List ℕ → List ℕ
measured name = to_le_bytes w32 (length name) ++ name

-- the 16 bytes of an id
abbrev pub id_bytes : BlockId → List ℕ
id_bytes id = to_le_bytes w64 id.first ++ to_le_bytes w64 id.second

-- what names a block behind views: 3, the id of the block where it was inserted, and the names of the views, behind their number
abbrev pub path_key : BlockId → List (List ℕ) → List ℕ
path_key source names = (3 ∷ []) ++ id_bytes source ++ to_le_bytes w32 (length names) ++ flat_map measured names

-- the id of a block behind views
abbrev pub path_id : BlockId → List (List ℕ) → BlockId
path_id source names = id_of (path_key source names)

-- what names a block of an insert: its bytes, or a token and the block's number
pub data SourceKey : Type 0 where
  Content : List ℕ → SourceKey
  Token : List ℕ → ℕ → SourceKey

-- the id of a block by what names it
abbrev pub source_id : SourceKey → BlockId
source_id (Content block) = id_of (content_key block)
source_id (Token token number) = id_of (token_key token number)

-- two ids are the same
abbrev pub id_eq : BlockId → BlockId → Bool
id_eq a b = (a.first == b.first) && (a.second == b.second)

-- the last of a list of ids, so many at most
abbrev pub last_ids : ℕ → List BlockId → List BlockId
last_ids size ids = drop (length ids - size) ids
