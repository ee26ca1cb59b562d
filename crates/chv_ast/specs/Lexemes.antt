-- Tokens with their texts, and what a token stands for: docs/SQL.md, "Tokens".
use Rattle.std.specs.Prelude.{ℕ, List, [], ◌∷◌, Bool, true, false, ◌==◌, ◌&&◌, if◌then◌else◌, codes, drop, length, nat_lt, Option, Some, None}
use Rattle.std.specs.List.{list_any}
use Rattle.std.specs.Str.{bytes_eq, str_eq_ignore_ascii_case}
use Rattle.chv_ast.specs.declared.token.TokenKind.{TokenKind}
use Rattle.chv_ast.specs.declared.token.TokenKind.TheVariants.{Word, Whole, Quoted, Sign}

-- a token: its kind, and the bytes that it is written with, quotes and backquotes among them
pub record Lexeme : Type 0 where
  pub kind : TokenKind
  pub text : List ℕ

-- the reserved words
unfoldable pub reserved : List (List ℕ)
reserved =
    codes "SELECT" ∷ codes "FROM" ∷ codes "FINAL" ∷ codes "WHERE" ∷ codes "GROUP" ∷ codes "ORDER" ∷ codes "BY"
    ∷ codes "LIMIT" ∷ codes "AS" ∷ codes "AND" ∷ codes "OR" ∷ codes "NOT" ∷ codes "ASC" ∷ codes "DESC"
    ∷ codes "SETTINGS" ∷ codes "VALUES" ∷ codes "TRUE" ∷ codes "FALSE" ∷ []

-- a reserved word, in any letter case
unfoldable pub is_reserved : List ℕ → Bool
is_reserved word = list_any (str_eq_ignore_ascii_case word) reserved

-- a text that begins with a backquote, which is 96
abbrev pub is_backquoted : List ℕ → Bool
is_backquoted [] = false
is_backquoted (b ∷ bytes) = b == 96

-- a text without its last byte
abbrev pub without_last : List ℕ → List ℕ
without_last [] = []
without_last (b ∷ []) = []
without_last (b ∷ c ∷ bytes) = b ∷ without_last (c ∷ bytes)

-- the name that a word's text stands for: what stands between backquotes, or a word that is not reserved
unfoldable pub name_in : List ℕ → Option (List ℕ)
name_in text =
    if is_backquoted text then Some (without_last (drop 1 text))
    else (if is_reserved text then None else Some text)

-- decimal digits without leading zeros
abbrev pub without_zeros : List ℕ → List ℕ
without_zeros [] = []
without_zeros (b ∷ bytes) = if b == 48 && nat_lt 0 (length bytes) then without_zeros bytes else b ∷ bytes

-- the byte that a byte stands for behind a quote or a backslash: `b f r n t 0` are the escapes of 8, 12, 13, 10, 9 and 0
abbrev pub escaped_byte : ℕ → ℕ
escaped_byte b =
    if b == 98 then 8
    else (if b == 102 then 12
    else (if b == 114 then 13
    else (if b == 110 then 10
    else (if b == 116 then 9
    else (if b == 48 then 0
    else b)))))

-- the bytes that a quoted text stands for, from behind its first quote: a quote or a backslash takes the next byte with it,
-- and the closing quote has none behind it; `takes` says that one stands right in front
abbrev pub unquoted : (takes : Bool) → List ℕ → List ℕ
unquoted takes [] = []
unquoted true (b ∷ bytes) = escaped_byte b ∷ unquoted false bytes
unquoted false (b ∷ bytes) = if b == 39 then unquoted true bytes else (if b == 92 then unquoted true bytes else b ∷ unquoted false bytes)

-- a kind is the first of the four
abbrev pub is_word_kind : TokenKind → Bool
is_word_kind Word = true
is_word_kind _ = false

-- a kind is the second of the four
abbrev pub is_whole_kind : TokenKind → Bool
is_whole_kind Whole = true
is_whole_kind _ = false

-- a kind is the third of the four
abbrev pub is_quoted_kind : TokenKind → Bool
is_quoted_kind Quoted = true
is_quoted_kind _ = false

-- a kind is the last of the four
abbrev pub is_sign_kind : TokenKind → Bool
is_sign_kind Sign = true
is_sign_kind _ = false

-- the token is the keyword, in any letter case
unfoldable pub is_keyword : List ℕ → Lexeme → Bool
is_keyword word token = is_word_kind token.kind && str_eq_ignore_ascii_case token.text word

-- the token is this word, letter by letter
unfoldable pub is_word : List ℕ → Lexeme → Bool
is_word word token = is_word_kind token.kind && bytes_eq token.text word

-- the token is this sign
unfoldable pub is_sign : List ℕ → Lexeme → Bool
is_sign sign token = is_sign_kind token.kind && bytes_eq token.text sign

-- the name that a token stands for
unfoldable pub name_of : Lexeme → Option (List ℕ)
name_of token = if is_word_kind token.kind then name_in token.text else None

-- the digits that a token stands for
unfoldable pub digits_of : Lexeme → Option (List ℕ)
digits_of token = if is_whole_kind token.kind then Some (without_zeros token.text) else None

-- the text that a token stands for
unfoldable pub text_of : Lexeme → Option (List ℕ)
text_of token = if is_quoted_kind token.kind then Some (unquoted false (drop 1 token.text)) else None
