-- The frame's bytes are those of its numbers, each in its place.
use Rattle.std.proofs.Common.{◌≡◌, [], ◌∷◌, ◌++◌, refl, ◌∙◌}
use Rattle.std.specs.Int.{w32, w64, to_le_bytes}
use Rattle.chv_commit.specs.Commits.{commit_spelling}
use Rattle.chv_commit.specs.Replays.{merge_of}
use Rattle.chv_commit.proofs.spelling.frame_of_merge.Goals as goal

pub returns : goal.returns
returns c =
    let row = c.args.row.now in
    let lo : c.copy_from_slice.new.self ≡ to_le_bytes w64 row.lo = c.copy_from_slice.ensures.after ∙ c.to_le_bytes.ensures in
    let hi : c.copy_from_slice-2.new.self ≡ to_le_bytes w64 row.hi = c.copy_from_slice-2.ensures.after ∙ c.to_le_bytes-2.ensures in
    let part : c.copy_from_slice-3.new.self ≡ to_le_bytes w64 row.part = c.copy_from_slice-3.ensures.after ∙ c.to_le_bytes-3.ensures in
    let level : c.copy_from_slice-4.new.self ≡ to_le_bytes w64 row.level = c.copy_from_slice-4.ensures.after ∙ c.to_le_bytes-4.ensures in
    let rows : c.copy_from_slice-5.new.self ≡ to_le_bytes w64 row.rows = c.copy_from_slice-5.ensures.after ∙ c.to_le_bytes-5.ensures in
    rw (lo, hi, part, level, rows) (refl {a = to_le_bytes w32 41 ++ commit_spelling (merge_of row) ++ 0 ∷ []})
