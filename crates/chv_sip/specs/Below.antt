-- The id of a block behind views, whose names come one after the other.
use Rattle.std.specs.Prelude.{ℕ, List, [], ◌∷◌, ◌++◌, drop}
use Rattle.std.specs.Int.{w32, to_le_bytes}
use Rattle.std.specs.List.{flat_map}
use Rattle.byteorder.specs.Endian.{little_number}
use Rattle.chv_sip.specs.BlockIds.{first_key, id_bytes, measured, second_key}
use Rattle.chv_sip.specs.Sip.{IsFed}
use Rattle.chv_sip.specs.declared.below.Below.{Below}
use Rattle.chv_sip.specs.declared.block_id.BlockId.{BlockId}

-- both hashes of an id were fed these bytes
pub record AreFed (bytes : List ℕ) (below : Below) : Type 0 where
  pub first : IsFed (little_number 8 first_key) (little_number 8 (drop 8 first_key)) bytes below.first
  pub second : IsFed (little_number 8 second_key) (little_number 8 (drop 8 second_key)) bytes below.second

-- what stands in front of the names of so many views: 3, the id of the block where it was inserted, and the number of views
abbrev pub path_head : BlockId → ℕ → List ℕ
path_head source count = (3 ∷ []) ++ id_bytes source ++ to_le_bytes w32 count

-- of the id of a block of this source, behind so many views, the names of these views were given
abbrev pub IsGiven : BlockId → ℕ → List (List ℕ) → Below → Type 0
IsGiven source count names below = AreFed (path_head source count ++ flat_map measured names) below
