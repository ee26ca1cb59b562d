-- How tokens are spelled: docs/SQL.md, "Tokens".
use Rattle.std.specs.Prelude.{ℕ, ◌⊎◌, ◌≡◌, ◌≤◌, Bool, false, ◌&&◌, ◌||◌, ◌==◌, List, [], ◌∷◌, ◌++◌, length, IsTrue}
use Rattle.std.specs.Char.{is_ascii_digit}
use Rattle.std.specs.List.{list_all, list_any}
use Rattle.chv_ast.specs.declared.token.TokenKind.{TokenKind}
use Rattle.chv_ast.specs.declared.token.TokenKind.TheVariants as kind
use Rattle.chv_ast.specs.Words.{is_word_byte, IsName}
use Rattle.chv_lex.specs.Bytes.{begins}
use Rattle.chv_lex.specs.Texts.{is_quoted}

-- a word in backquotes
abbrev pub in_backquotes : List ℕ → List ℕ
in_backquotes word = 96 ∷ word ++ 96 ∷ []

-- one digit or more
pub record IsWhole (digits : List ℕ) : Type 0 where
  pub some : 1 ≤ length digits
  pub decimal : IsTrue (list_all is_ascii_digit digits)

-- a sign of one byte: ( ) , = < > + - * %
unfoldable pub is_sign_byte : ℕ → Bool
is_sign_byte byte = list_any (λ sign. sign == byte) (40 ∷ 41 ∷ 44 ∷ 61 ∷ 60 ∷ 62 ∷ 43 ∷ 45 ∷ 42 ∷ 37 ∷ [])

-- two bytes that are one sign: == != <> <= >=
unfoldable pub is_sign_pair : ℕ → ℕ → Bool
is_sign_pair byte next =
    ((next == 61) && ((byte == 61) || (byte == 33) || (byte == 60) || (byte == 62))) || ((next == 62) && (byte == 60))

-- a sign
abbrev pub is_sign : List ℕ → Bool
is_sign [] = false
is_sign (byte ∷ []) = is_sign_byte byte
is_sign (byte ∷ next ∷ []) = is_sign_pair byte next
is_sign (byte ∷ next ∷ other ∷ bytes) = false

-- with this byte behind it a sign becomes a longer one, or a comment
abbrev pub goes_on : List ℕ → ℕ → Bool
goes_on [] next = false
goes_on (byte ∷ []) next = is_sign_pair byte next || ((byte == 45) && (next == 45))
goes_on (byte ∷ other ∷ bytes) next = false

-- these bytes spell a token of the kind, where these stand behind them
abbrev pub IsToken : TokenKind → List ℕ → List ℕ → Type 0
IsToken kind.Word spelling behind =
    (IsName spelling × (begins is_word_byte behind ≡ false)) ⊎ ((word : List ℕ) × IsName word × (spelling ≡ in_backquotes word))
IsToken kind.Whole spelling behind = IsWhole spelling × (begins is_word_byte behind ≡ false)
IsToken kind.Quoted spelling behind = IsTrue (is_quoted spelling) × (begins (λ next. next == 39) behind ≡ false)
IsToken kind.Sign spelling behind = IsTrue (is_sign spelling) × (begins (goes_on spelling) behind ≡ false)
