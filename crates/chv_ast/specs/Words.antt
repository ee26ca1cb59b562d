-- The bytes of words and numbers: docs/SQL.md, "Tokens".
use Rattle.std.specs.Prelude.{ℕ, ◌<◌, ◌≡◌, ◌⊎◌, ◌==◌, ◌&&◌, ◌||◌, List, [], ◌∷◌, ◌++◌, Bool, false, length, nat_lt, IsTrue}
use Rattle.std.specs.Char.{is_ascii_alphabetic, is_ascii_alphanumeric, is_ascii_digit}
use Rattle.std.specs.List.{list_all}
use Rattle.chv_ast.specs.Lexemes.{Lexeme, without_zeros}
use Rattle.chv_ast.specs.declared.token.TokenKind.{TokenKind}
use Rattle.chv_ast.specs.declared.token.TokenKind.TheVariants.{Word, Whole, Quoted, Sign}

-- a letter or `_`, which is 95
abbrev pub begins_word : ℕ → Bool
begins_word b = is_ascii_alphabetic b || b == 95

-- a letter, a digit or `_`
abbrev pub is_word_byte : ℕ → Bool
is_word_byte b = is_ascii_alphanumeric b || b == 95

-- a word: a letter or `_`, then letters, digits and `_`, 64 bytes at most
unfoldable pub is_word_text : List ℕ → Bool
is_word_text [] = false
is_word_text (b ∷ bytes) = begins_word b && (list_all is_word_byte bytes && nat_lt (length bytes) 64)

-- the bytes of a name
abbrev pub IsName : List ℕ → Type 0
IsName name = IsTrue (is_word_text name)

-- decimal digits without leading zeros, one at least
pub record IsDigits (digits : List ℕ) : Type 0 where
  pub some : 0 < length digits
  pub decimal : IsTrue (list_all is_ascii_digit digits)
  pub shortest : without_zeros digits ≡ digits

-- a name between two backquotes, each of which is 96
abbrev pub IsBackquoted : List ℕ → Type 0
IsBackquoted text = (name : List ℕ) × IsName name × (text ≡ 96 ∷ name ++ 96 ∷ [])

-- one decimal digit or more
abbrev pub AreDigits : List ℕ → Type 0
AreDigits text = (0 < length text) × IsTrue (list_all is_ascii_digit text)

-- the texts of a kind: of words names, bare or between backquotes; of numbers digits; of quoted texts and signs any
abbrev pub IsTextOf : TokenKind → List ℕ → Type 0
IsTextOf Word text = IsName text ⊎ IsBackquoted text
IsTextOf Whole text = AreDigits text
IsTextOf Quoted text = Unit {0}
IsTextOf Sign text = Unit {0}

-- a token with a text of its kind
abbrev pub IsSpelled : Lexeme → Type 0
IsSpelled token = IsTextOf token.kind token.text
