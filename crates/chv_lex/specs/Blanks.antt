-- White space and comments: docs/SQL.md, "Tokens".
use Rattle.std.specs.Prelude.{ℕ, zero, suc, ◌+◌, ◌-◌, cond, ◌&&◌, ◌==◌, List, [], ◌∷◌, drop}
use Rattle.std.specs.List.{position_or_len}
use Rattle.chv_lex.specs.Bytes.{is_white, begins}

-- how many bytes a line has up to its line feed, or up to the end
abbrev pub line_length : List ℕ → ℕ
line_length bytes = position_or_len (λ byte. byte == 10) bytes

-- how many bytes stand up to the next `*/` and with it, or up to the end
abbrev pub block_length : List ℕ → ℕ
block_length [] = 0
block_length (byte ∷ bytes) = cond ((byte == 42) && begins (λ next. next == 47) bytes) 2 (1 + block_length bytes)

-- how many bytes the comment at the front has, and 0 where none stands there: `--` and the rest of its line, or `/*` up to
-- the next `*/`
unfoldable pub comment_length : List ℕ → ℕ
comment_length [] = 0
comment_length (byte ∷ bytes) =
    cond ((byte == 45) && begins (λ next. next == 45) bytes) (2 + line_length (drop 1 bytes))
    (cond ((byte == 47) && begins (λ next. next == 42) bytes) (2 + block_length (drop 1 bytes)) 0)

-- how many bytes the white space or the comment at the front has, and 0 where none stands there
abbrev pub blank_length : List ℕ → ℕ
blank_length [] = 0
blank_length (byte ∷ bytes) = cond (is_white byte) 1 (comment_length (byte ∷ bytes))

-- what stands behind the white space and comments at the front; so many of the first bytes still belong to one
abbrev pub behind_blanks : ℕ → List ℕ → List ℕ
behind_blanks left [] = []
behind_blanks (suc left) (byte ∷ bytes) = behind_blanks left bytes
behind_blanks zero (byte ∷ bytes) =
    let n = blank_length (byte ∷ bytes) in cond (n == 0) (byte ∷ bytes) (behind_blanks (n - 1) bytes)
