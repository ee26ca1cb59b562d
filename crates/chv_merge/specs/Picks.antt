-- Which parts a merge joins.
use Rattle.std.specs.Prelude.{ℕ, suc, ◌≡◌, ◌+◌, ◌<◌, ◌≤◌, nat_eq, nat_le, if◌then◌else◌, List, [], ◌∷◌, map, slice_get, Option, None, Some}
use Rattle.std.specs.List.{filter_map, prefix_len}
use Rattle.std.specs.Option.{option_map}
use Rattle.std.specs.Ordering.{nat_cmp}
use Rattle.chv_commit.specs.declared.part_row.PartRow.{PartRow}
use Rattle.chv_merge.specs.declared.run.Run.{Run}
use Rattle.chv_types.specs.Members.{members}

-- the levels of parts
abbrev pub levels_of : List PartRow → List ℕ
levels_of layout = map (λ (part : PartRow). part.level) layout

-- where eight adjacent parts of a level begin first
abbrev pub first_eight : ℕ → List ℕ → Option ℕ
first_eight level [] = None
first_eight level (first ∷ levels) =
    if nat_le 8 (prefix_len (nat_eq level) (first ∷ levels)) then Some 0 else option_map suc (first_eight level levels)

-- the leftmost eight adjacent parts of a level
abbrev pub leftmost : List ℕ → ℕ → Option Run
leftmost levels level = option_map (λ from. record { from = from; count = 8; level = level }) (first_eight level levels)

-- the parts that a merge joins: of the lowest level that has eight adjacent parts, the leftmost eight
abbrev pub picked : List ℕ → Option Run
picked levels = slice_get (filter_map (leftmost levels) (members nat_cmp levels)) 0

-- eight adjacent parts, the first of which is at this place, have this level
abbrev pub ShareLevel : List ℕ → ℕ → ℕ → Type 0
ShareLevel levels from level = (i : ℕ) → i < 8 → slice_get levels (from + i) ≡ Some level

-- of eight adjacent parts that share a level and begin before a place, none have a lower level, and those in front of these a
-- higher one
pub record IsLowest (levels : List ℕ) (place : ℕ) (run : Run) : Type 0 where
  pub before : run.from < place
  pub count : run.count ≡ 8
  pub share : ShareLevel levels run.from run.level
  pub lowest : (from level : ℕ) → from < place → ShareLevel levels from level → run.level ≤ level
  pub leftmost : (from : ℕ) → ShareLevel levels from run.level → run.from ≤ from

-- the lowest eight that begin before a place, or none where there are none
abbrev pub AreLowest : List ℕ → ℕ → Option Run → Type 0
AreLowest levels place None = (from level : ℕ) → from < place → ShareLevel levels from level → ⊥
AreLowest levels place (Some run) = IsLowest levels place run
