-- The words behind the program's name.
use Rattle.std.specs.Prelude.{List, ℕ, [], ◌∷◌, codes}

-- the one form that is built: the word `run`
abbrev pub run_words : List (List ℕ)
run_words = codes "run" ∷ []
