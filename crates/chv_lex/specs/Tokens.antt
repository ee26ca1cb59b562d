-- The tokens that a piece is cut into: docs/SQL.md, "Tokens".
use Rattle.std.specs.Prelude.{ℕ, zero, suc, ⊤, ◌⊎◌, ◌≡◌, ◌+◌, ◌-◌, ◌<◌, ◌≤◌, cond, nat_lt, List, [], ◌∷◌, ◌++◌, length, take, drop, Option, Some, option_map, option_and_then, Result, Ok, Err}
use Rattle.chv_ast.specs.declared.token.TokenKind.{TokenKind}
use Rattle.chv_lex.specs.declared.token.LexFault.{LexFault}
use Rattle.chv_lex.specs.declared.token.LexFault.TheVariants as fault
use Rattle.chv_lex.specs.declared.token.Token.{Token}
use Rattle.chv_lex.specs.Blanks.{blank_length}
use Rattle.chv_lex.specs.Reading.{token_length}
use Rattle.chv_lex.specs.Spellings.{IsToken}

-- a token of this kind that begins at this place and has so many bytes
abbrev pub token_at : ℕ → TokenKind → ℕ → Token
token_at at kind size = record { kind = kind; start = at; end = at + size }

-- a text that begins at this place of its piece is cut into these tokens, with white space and comments between them
pub data Cut : ℕ → List ℕ → List Token → Type 0 where
  Done : (at : ℕ) → Cut at [] []
  Blank : (at : ℕ) (text : List ℕ) (tokens : List Token) → 0 < blank_length text
      → Cut (at + blank_length text) (drop (blank_length text) text) tokens → Cut at text tokens
  Taken : (at : ℕ) (kind : TokenKind) (text spelling behind : List ℕ) (tokens : List Token) → text ≡ spelling ++ behind
      → IsToken kind spelling behind → Cut (at + length spelling) behind tokens
      → Cut at text (token_at at kind (length spelling) ∷ tokens)

-- a text that begins with no token, and is neither empty nor begins with white space or a comment
pub record IsBad (text : List ℕ) : Type 0 where
  pub some : 0 < length text
  pub no_blank : blank_length text ≡ 0
  pub no_token : (kind : TokenKind) (spelling behind : List ℕ) → text ≡ spelling ++ behind → IsToken kind spelling behind → ⊥

-- of a text that begins at this place of its piece, tokens are read up to a place where none begins
pub data Stuck : ℕ → List ℕ → ℕ → Type 0 where
  Bad : (at : ℕ) (text : List ℕ) → IsBad text → Stuck at text at
  BehindBlank : (at : ℕ) (text : List ℕ) (place : ℕ) → 0 < blank_length text
      → Stuck (at + blank_length text) (drop (blank_length text) text) place → Stuck at text place
  BehindToken : (at : ℕ) (kind : TokenKind) (text spelling behind : List ℕ) (place : ℕ) → text ≡ spelling ++ behind
      → IsToken kind spelling behind → Stuck (at + length spelling) behind place → Stuck at text place

-- these tokens are answered, or that there is no memory
abbrev pub GivesTokens : List Token → Result (List Token) LexFault → Type 0
GivesTokens tokens (Ok found) = found ≡ tokens
GivesTokens tokens (Err (fault.BadToken at)) = ⊥
GivesTokens tokens (Err fault.NoMemory) = ⊤

-- a bad token at this place is answered, or that there is no memory
abbrev pub GivesBadToken : ℕ → Result (List Token) LexFault → Type 0
GivesBadToken place (Ok found) = ⊥
GivesBadToken place (Err (fault.BadToken at)) = at ≡ place
GivesBadToken place (Err fault.NoMemory) = ⊤

-- a bad token is answered where the reading of the piece is stuck
abbrev pub IsFaultOf : List ℕ → LexFault → Type 0
IsFaultOf piece (fault.BadToken at) = Stuck 0 piece at
IsFaultOf piece fault.NoMemory = ⊤

-- tokens one behind the other between two places, none of them empty
abbrev pub AreSpaced : ℕ → ℕ → List Token → Type 0
AreSpaced from end [] = from ≤ end
AreSpaced from end (token ∷ tokens) = (from ≤ token.start) × (token.start < token.end) × AreSpaced token.end end tokens

-- the first so many bytes of a text, which begins at this place of its piece, are read: white space or a comment, or a token,
-- which comes behind the others
abbrev pub Takes : ℕ → List ℕ → ℕ → List Token → List Token → Type 0
Takes at text n old new =
    ((0 < n) × (n ≡ blank_length text) × (new ≡ old))
    ⊎ ((kind : TokenKind) × (0 < n) × (n ≤ length text) × (blank_length text ≡ 0) × IsToken kind (take n text) (drop n text) × (new ≡ old ++ token_at at kind n ∷ []))

-- a bad token is answered at the place of a text that begins with one
abbrev pub IsFaultAt : ℕ → List ℕ → LexFault → Type 0
IsFaultAt at text (fault.BadToken place) = (place ≡ at) × IsBad text
IsFaultAt at text fault.NoMemory = ⊤

-- the tokens of a text that begins at this place of its piece, where it is cut into tokens; so many of its first bytes belong to
-- what stands before
abbrev pub tokens_from : (left at : ℕ) → List ℕ → Option (List Token)
tokens_from left at [] = Some []
tokens_from (suc left) at (byte ∷ bytes) = tokens_from left (at + 1) bytes
tokens_from zero at (byte ∷ bytes) =
    cond (nat_lt 0 (blank_length (byte ∷ bytes))) (tokens_from (blank_length (byte ∷ bytes) - 1) (at + 1) bytes)
    (option_and_then (λ token. option_map (λ tokens. token_at at token.0 token.1 ∷ tokens) (tokens_from (token.1 - 1) (at + 1) bytes)) (token_length (byte ∷ bytes)))

-- the tokens that a piece is cut into, where it is cut into some
unfoldable pub tokens_of : List ℕ → Option (List Token)
tokens_of piece = tokens_from 0 0 piece
