-- Names and their places.
use Rattle.std.specs.Prelude.{ℕ, List, Option}
use Rattle.std.specs.List.{position}
use Rattle.std.specs.Str.{bytes_eq}

-- the place of the first of names that is this one
abbrev pub place_of : List ℕ → List (List ℕ) → Option ℕ
place_of name names = position (λ other. bytes_eq other name) names
