-- The payloads of a table's log: docs/FORMATS.md, "Commits".
use Rattle.std.specs.Prelude.{ℕ, ◌≡◌, ◌+◌, ◌*◌, ◌<◌, ◌≤◌, ◌^◌, List, [], ◌∷◌, ◌++◌, length, take, drop}
use Rattle.std.specs.Int.{w32, w64, to_le_bytes}
use Rattle.std.specs.List.{All, flat_map}
use Rattle.chv_sip.specs.declared.block_id.BlockId.{BlockId}
use Rattle.chv_commit.specs.declared.commit.Commit.{Commit}
use Rattle.chv_commit.specs.declared.commit.Commit.TheVariants.{Add, Merge}

-- an id: its two words
abbrev pub id_spelling : BlockId → List ℕ
id_spelling id = to_le_bytes w64 id.first ++ to_le_bytes w64 id.second

-- new entries with a part of their own: 1, the part, its rows, the number of entries, and their ids; or parts that become
-- one: 2, the entries from the first to the last, the part, its level and its rows
abbrev pub commit_spelling : Commit → List ℕ
commit_spelling (Add part rows ids) =
    (1 ∷ []) ++ to_le_bytes w64 part ++ to_le_bytes w64 rows ++ to_le_bytes w32 (length ids) ++ flat_map id_spelling ids
commit_spelling (Merge lo hi part level rows) =
    (2 ∷ []) ++ to_le_bytes w64 lo ++ to_le_bytes w64 hi ++ to_le_bytes w64 part ++ to_le_bytes w64 level ++ to_le_bytes w64 rows

-- the bytes of new entries behind the first: they tell as many ids, of which there is one at least, as they have bytes for
abbrev pub TellsItsIds : List ℕ → Type 0
TellsItsIds bytes = (count : ℕ) × (1 ≤ count) × (length bytes ≡ 20 + 16 * count) × (take 4 (drop 16 bytes) ≡ to_le_bytes w32 count)

-- the words of an id are numbers of 64 bits
abbrev pub AreWords : BlockId → Type 0
AreWords id = (id.first < 2 ^ 64) × (id.second < 2 ^ 64)

-- a commit adds one entry at least, and no more than a number of 32 bits counts; its other numbers have 64 bits
abbrev pub IsCommit : Commit → Type 0
IsCommit (Add part rows ids) = (part < 2 ^ 64) × (rows < 2 ^ 64) × (1 ≤ length ids) × (length ids < 2 ^ 32) × All AreWords ids
IsCommit (Merge lo hi part level rows) = (lo < 2 ^ 64) × (hi < 2 ^ 64) × (part < 2 ^ 64) × (level < 2 ^ 64) × (rows < 2 ^ 64)
