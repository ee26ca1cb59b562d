-- Texts in quotes, and where they end: docs/SQL.md, "Tokens".
use Rattle.std.specs.Prelude.{ℕ, ◌+◌, Bool, true, false, cond, ◌&&◌, ◌==◌, List, [], ◌∷◌}
use Rattle.std.specs.List.{list_any}
use Rattle.chv_lex.specs.declared.text.Within.{Within}
use Rattle.chv_lex.specs.declared.text.Within.TheVariants as within

-- where the place behind this byte of a text is
abbrev pub next_in_text : ℕ → Within
next_in_text byte = cond (byte == 39) within.Quote (cond (byte == 92) within.Backslash within.Text)

-- how many bytes a text goes on for, up to its closing quote and with it, or up to the end: a quote closes it unless
-- another follows at once, and a backslash takes the next byte with it
abbrev pub text_length : Within → List ℕ → ℕ
text_length place [] = 0
text_length within.Text (byte ∷ bytes) = 1 + text_length (next_in_text byte) bytes
text_length within.Quote (byte ∷ bytes) = cond (byte == 39) (1 + text_length within.Text bytes) 0
text_length within.Backslash (byte ∷ bytes) = 1 + text_length within.Text bytes

-- what may stand behind a backslash: b f r n t 0 ' and the backslash
unfoldable pub is_escape : ℕ → Bool
is_escape byte = list_any (λ escape. escape == byte) (98 ∷ 102 ∷ 114 ∷ 110 ∷ 116 ∷ 48 ∷ 39 ∷ 92 ∷ [])

-- a text goes on with these bytes and no others: the last is its closing quote, and each backslash begins an escape
abbrev pub ends_text : Within → List ℕ → Bool
ends_text within.Text [] = false
ends_text within.Text (byte ∷ bytes) = ends_text (next_in_text byte) bytes
ends_text within.Quote [] = true
ends_text within.Quote (byte ∷ bytes) = (byte == 39) && ends_text within.Text bytes
ends_text within.Backslash [] = false
ends_text within.Backslash (byte ∷ bytes) = is_escape byte && ends_text within.Text bytes

-- a text in quotes
abbrev pub is_quoted : List ℕ → Bool
is_quoted [] = false
is_quoted (byte ∷ bytes) = (byte == 39) && ends_text within.Text bytes
