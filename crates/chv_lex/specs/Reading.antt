-- How long the token at the front of a text is.
use Rattle.std.specs.Prelude.{ℕ, ◌+◌, cond, not, ◌&&◌, ◌==◌, nat_le, List, [], ◌∷◌, take, drop, Option, Some, None, option_map, option_and_then}
use Rattle.std.specs.Char.{is_ascii_digit}
use Rattle.std.specs.List.{prefix_len}
use Rattle.chv_ast.specs.declared.token.TokenKind.{TokenKind}
use Rattle.chv_ast.specs.declared.token.TokenKind.TheVariants as kind
use Rattle.chv_ast.specs.Words.{begins_word, is_word_byte}
use Rattle.chv_lex.specs.declared.text.Within.TheVariants as within
use Rattle.chv_lex.specs.Bytes.{begins}
use Rattle.chv_lex.specs.Spellings.{is_sign_byte, is_sign_pair, goes_on}
use Rattle.chv_lex.specs.Texts.{text_length, ends_text}

-- how many bytes the word at the front has; none where there is none, or it is too long
unfoldable pub word_length : List ℕ → Option ℕ
word_length text = let n = prefix_len is_word_byte text in cond (begins begins_word text && nat_le n 64) (Some n) None

-- how many bytes a word and a backquote have
unfoldable pub named_length : List ℕ → Option ℕ
named_length text = option_and_then (λ n. cond (begins (λ next. next == 96) (drop n text)) (Some (n + 1)) None) (word_length text)

-- how many digits stand at the front; none where a letter or `_` is behind them
unfoldable pub whole_length : List ℕ → Option ℕ
whole_length text = let n = prefix_len is_ascii_digit text in cond (begins is_word_byte (drop n text)) None (Some n)

-- how many bytes the rest of a text has, with its closing quote; none where it is unclosed or has an unknown escape
unfoldable pub quoted_length : List ℕ → Option ℕ
quoted_length text = let n = text_length within.Text text in cond (ends_text within.Text (take n text)) (Some n) None

-- how many bytes the longest sign at the front has; none where a comment begins there
unfoldable pub sign_length : List ℕ → Option ℕ
sign_length [] = None
sign_length (byte ∷ bytes) =
    cond (begins (is_sign_pair byte) bytes) (Some 2)
    (cond (is_sign_byte byte && not (begins (goes_on (byte ∷ [])) bytes)) (Some 1) None)

-- a kind, and a length with some bytes more
abbrev pub sized : TokenKind → ℕ → Option ℕ → Option (TokenKind × ℕ)
sized kind more = option_map (λ n. (kind, more + n))

-- the kind and the length of the token at the front
unfoldable pub token_length : List ℕ → Option (TokenKind × ℕ)
token_length [] = None
token_length (byte ∷ bytes) =
    cond (byte == 39) (sized kind.Quoted 1 (quoted_length bytes))
    (cond (byte == 96) (sized kind.Word 1 (named_length bytes))
    (cond (is_ascii_digit byte) (sized kind.Whole 0 (whole_length (byte ∷ bytes)))
    (cond (begins_word byte) (sized kind.Word 0 (word_length (byte ∷ bytes)))
    (sized kind.Sign 0 (sign_length (byte ∷ bytes))))))
