-- What the payloads of commits are.
use Rattle.std.proofs.Common.{◌≡◌, ◌++◌, ◌∷◌, [], ◌+◌, ◌*◌, ◌<◌, ◌^◌, ◌∙◌, ℕ, List, length, map, take, drop, sym, ap, ap₂, arith, refl}
use Rattle.std.proofs.lemmas.Nat.{from_le_bytes-to_le_bytes_4, from_le_bytes-to_le_bytes_8}
use Rattle.std.proofs.lemmas.List.Elements.{All-head, All-tail}
use Rattle.std.specs.Int.{w32, w64, to_le_bytes, from_le_bytes}
use Rattle.std.specs.List.{All, flat_map}
use Rattle.chv_sip.specs.declared.block_id.BlockId.{BlockId}
use Rattle.chv_commit.specs.Commits.{id_spelling, commit_spelling, AreWords, IsCommit}
use Rattle.chv_commit.specs.declared.commit.Commit.{Commit}
use Rattle.chv_commit.specs.declared.commit.Commit.TheVariants.{Add, Merge}

-- an id has 16 bytes
pub length-ids : (ids : List BlockId) → length (flat_map id_spelling ids) ≡ 16 * length ids
length-ids [] = refl
length-ids (id ∷ ids) = omega (arith, length-ids ids)

-- the payload of new entries has 16 bytes for each
pub length-commit_spelling_add : (part rows : ℕ) (ids : List BlockId) → length (commit_spelling (Add part rows ids)) ≡ 21 + 16 * length ids
length-commit_spelling_add part rows ids = omega (arith, length-ids ids)

-- the payload of parts that become one
pub length-commit_spelling_merge : (lo hi part level rows : ℕ) → length (commit_spelling (Merge lo hi part level rows)) ≡ 41
length-commit_spelling_merge lo hi part level rows = refl

-- the number of ids and their bytes are what stands behind a part and its rows
pub counted : (part rows count other_part other_rows : ℕ) (rest : List ℕ) (ids : List BlockId) → count < 2 ^ 32 → length ids < 2 ^ 32
    → to_le_bytes w64 part ++ to_le_bytes w64 rows ++ to_le_bytes w32 count ++ rest
    ≡ to_le_bytes w64 other_part ++ to_le_bytes w64 other_rows ++ to_le_bytes w32 (length ids) ++ flat_map id_spelling ids
    → (count ≡ length ids) × (length rest ≡ 16 * length ids)
counted part rows count other_part other_rows rest ids small_count small_ids e = (
  sym (from_le_bytes-to_le_bytes_4 count small_count) ∙ ap (λ (bytes : List ℕ). from_le_bytes w32 (take 4 (drop 16 bytes))) e ∙ from_le_bytes-to_le_bytes_4 (length ids) small_ids,
  ap (λ (bytes : List ℕ). length (drop 20 bytes)) e ∙ length-ids ids,
)

-- eight bytes are those of one number
number-unique : (a b : ℕ) → a < 2 ^ 64 → b < 2 ^ 64 → to_le_bytes w64 a ≡ to_le_bytes w64 b → a ≡ b
number-unique a b small_a small_b e =
    sym (from_le_bytes-to_le_bytes_8 a small_a) ∙ ap (from_le_bytes w64) e ∙ from_le_bytes-to_le_bytes_8 b small_b

id-same : (a b : BlockId) → a.first ≡ b.first → a.second ≡ b.second → a ≡ b
id-same a b first second = λ k. record { first = first k; second = second k }

-- bytes are those of one list of ids
pub ids_spelling-injective : (xs ys : List BlockId) → All AreWords xs → All AreWords ys → flat_map id_spelling xs ≡ flat_map id_spelling ys → xs ≡ ys
ids_spelling-injective [] [] of_xs of_ys e = refl
ids_spelling-injective [] (y ∷ ys) of_xs of_ys e = cc
ids_spelling-injective (x ∷ xs) [] of_xs of_ys e = cc
ids_spelling-injective (x ∷ xs) (y ∷ ys) of_xs of_ys e =
    let words_x : AreWords x = All-head AreWords x xs of_xs in
    let words_y : AreWords y = All-head AreWords y ys of_ys in
    ap₂ ◌∷◌
    (id-same x y
    (number-unique x.first y.first words_x.0 words_y.0 (ap (take 8) e))
    (number-unique x.second y.second words_x.1 words_y.1 (ap (λ (bytes : List ℕ). take 8 (drop 8 bytes)) e)))
    (ids_spelling-injective xs ys (All-tail AreWords x xs of_xs) (All-tail AreWords y ys of_ys) (ap (drop 16) e))

-- bytes are the payload of one commit
pub commit_spelling-injective : (a b : Commit) → IsCommit a → IsCommit b → commit_spelling a ≡ commit_spelling b → a ≡ b
commit_spelling-injective (Add part rows ids) (Add other_part other_rows other_ids) of_a of_b e =
    let same_part : part ≡ other_part = number-unique part other_part of_a.0 of_b.0 (ap (λ (bytes : List ℕ). take 8 (drop 1 bytes)) e) in
    let same_rows : rows ≡ other_rows = number-unique rows other_rows of_a.1 of_b.1 (ap (λ (bytes : List ℕ). take 8 (drop 9 bytes)) e) in
    let same_ids : ids ≡ other_ids = ids_spelling-injective ids other_ids of_a.4 of_b.4 (ap (drop 21) e) in
    λ k. Add (same_part k) (same_rows k) (same_ids k)
commit_spelling-injective (Add part rows ids) (Merge other_lo other_hi other_part other_level other_rows) of_a of_b e = cc
commit_spelling-injective (Merge lo hi part level rows) (Add other_part other_rows other_ids) of_a of_b e = cc
commit_spelling-injective (Merge lo hi part level rows) (Merge other_lo other_hi other_part other_level other_rows) of_a of_b e =
    let same_lo : lo ≡ other_lo = number-unique lo other_lo of_a.0 of_b.0 (ap (λ (bytes : List ℕ). take 8 (drop 1 bytes)) e) in
    let same_hi : hi ≡ other_hi = number-unique hi other_hi of_a.1 of_b.1 (ap (λ (bytes : List ℕ). take 8 (drop 9 bytes)) e) in
    let same_part : part ≡ other_part = number-unique part other_part of_a.2 of_b.2 (ap (λ (bytes : List ℕ). take 8 (drop 17 bytes)) e) in
    let same_level : level ≡ other_level = number-unique level other_level of_a.3 of_b.3 (ap (λ (bytes : List ℕ). take 8 (drop 25 bytes)) e) in
    let same_rows : rows ≡ other_rows = number-unique rows other_rows of_a.4 of_b.4 (ap (λ (bytes : List ℕ). take 8 (drop 33 bytes)) e) in
    λ k. Merge (same_lo k) (same_hi k) (same_part k) (same_level k) (same_rows k)

-- payloads are those of one list of commits
pub map_commit_spelling-injective : (xs ys : List Commit) → All IsCommit xs → All IsCommit ys → map commit_spelling xs ≡ map commit_spelling ys → xs ≡ ys
map_commit_spelling-injective [] [] of_xs of_ys e = refl
map_commit_spelling-injective [] (y ∷ ys) of_xs of_ys e = cc
map_commit_spelling-injective (x ∷ xs) [] of_xs of_ys e = cc
map_commit_spelling-injective (x ∷ xs) (y ∷ ys) of_xs of_ys e =
    let head : commit_spelling x ≡ commit_spelling y = cc in
    let tail : map commit_spelling xs ≡ map commit_spelling ys = cc in
    ap₂ ◌∷◌
    (commit_spelling-injective x y (All-head IsCommit x xs of_xs) (All-head IsCommit y ys of_ys) head)
    (map_commit_spelling-injective xs ys (All-tail IsCommit x xs of_xs) (All-tail IsCommit y ys of_ys) tail)
