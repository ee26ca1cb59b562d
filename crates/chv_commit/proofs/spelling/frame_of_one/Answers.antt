-- The frame's bytes are those of its numbers, each in its place.
use Rattle.std.proofs.Common.{◌≡◌, [], ◌∷◌, ◌++◌, refl, ◌∙◌}
use Rattle.std.specs.Int.{w32, w64, to_le_bytes}
use Rattle.chv_commit.specs.Commits.{commit_spelling}
use Rattle.chv_commit.specs.declared.commit.Commit.TheVariants.{Add}
use Rattle.chv_commit.proofs.spelling.frame_of_one.Goals as goal

pub returns : goal.returns
returns c =
    let part : c.copy_from_slice.new.self ≡ to_le_bytes w64 c.args.part = c.copy_from_slice.ensures.after ∙ c.to_le_bytes.ensures in
    let rows : c.copy_from_slice-2.new.self ≡ to_le_bytes w64 c.args.rows = c.copy_from_slice-2.ensures.after ∙ c.to_le_bytes-2.ensures in
    let first : c.copy_from_slice-3.new.self ≡ to_le_bytes w64 c.args.id.first = c.copy_from_slice-3.ensures.after ∙ c.to_le_bytes-3.ensures in
    let second : c.copy_from_slice-4.new.self ≡ to_le_bytes w64 c.args.id.second = c.copy_from_slice-4.ensures.after ∙ c.to_le_bytes-4.ensures in
    rw (part, rows, first, second) (refl {a = to_le_bytes w32 37 ++ commit_spelling (Add c.args.part c.args.rows (c.args.id ∷ [])) ++ 0 ∷ []})
