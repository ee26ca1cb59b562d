-- Bytes between tokens, and what stands at the front: docs/SQL.md, "Tokens".
use Rattle.std.specs.Prelude.{ℕ, Bool, false, ◌||◌, ◌==◌, List, [], ◌∷◌}

-- white space: space, tab, line feed, carriage return
unfoldable pub is_white : ℕ → Bool
is_white byte = (byte == 32) || (byte == 9) || (byte == 10) || (byte == 13)

-- there is a first byte, and it passes
abbrev pub begins : (ℕ → Bool) → List ℕ → Bool
begins test [] = false
begins test (byte ∷ bytes) = test byte
