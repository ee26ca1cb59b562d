-- Reading from the front of tokens.
use Rattle.std.specs.Prelude.{ℕ, ⊤, is_some, length, nat_lt, ◌==◌, ◌&&◌, ◌≡◌, ◌++◌, List, [], ◌∷◌, Bool, false, if◌then◌else◌, Option, Some, None, Result, Ok, Err}
use Rattle.chv_ast.specs.Lexemes.{Lexeme, name_of}
use Rattle.chv_ast.specs.Spellings.{Spelling}
use Rattle.chv_parse.specs.declared.fault.ParseFault.{ParseFault}
use Rattle.chv_parse.specs.declared.fault.ParseFault.TheVariants as fault

-- the value that the front of the tokens writes, and the tokens behind it
abbrev pub Reader : Type 0 → Type 0
Reader A = List Lexeme → Option (A × List Lexeme)

-- what is read behind a value
abbrev pub read_on : {A B : Type 0} → (A → Reader B) → Option (A × List Lexeme) → Option (B × List Lexeme)
read_on f None = None
read_on f (Some read) = f read.0 read.1

infixl 1 ◌>>=◌ ◌>>◌
-- one reader, and behind it a second one that may depend on the value
abbrev pub ◌>>=◌ : {A B : Type 0} → Reader A → (A → Reader B) → Reader B
(r >>= f) tokens = read_on f (r tokens)

-- one reader behind another
abbrev pub ◌>>◌ : {A B : Type 0} → Reader A → Reader B → Reader B
(r >> s) tokens = read_on (λ _. s) (r tokens)

-- this value, and no token
abbrev pub given : {A : Type 0} → A → Reader A
given a tokens = Some (a, tokens)

-- what a token stands for, and the tokens behind it
abbrev pub behind_token : {A : Type 0} → Option A → List Lexeme → Option (A × List Lexeme)
behind_token None tokens = None
behind_token (Some a) tokens = Some (a, tokens)

-- one token, by what it stands for
unfoldable pub meant : {A : Type 0} → (Lexeme → Option A) → Reader A
meant meaning [] = None
meant meaning (token ∷ tokens) = behind_token (meaning token) tokens

-- whether the next token passes a test
unfoldable pub next_is : (Lexeme → Bool) → List Lexeme → Bool
next_is test [] = false
next_is test (token ∷ tokens) = test token

-- whether a token stands for a name
unfoldable pub is_name : Lexeme → Bool
is_name token = is_some (name_of token)

-- digits begin with a zero that more digits follow
abbrev pub has_zero : List ℕ → Bool
has_zero [] = false
has_zero (b ∷ bytes) = b == 48 && nat_lt 0 (length bytes)

-- one token of which the test is true
unfoldable pub marked : (Lexeme → Bool) → Reader (Unit {0})
marked test [] = None
marked test (token ∷ tokens) = if test token then Some (tt, tokens) else None

-- what a reader reads from the old tokens is answered, with the tokens behind it; Syntax where it reads nothing
abbrev pub Reads : {A : Type 0} → Reader A → List Lexeme → Result A ParseFault → List Lexeme → Type 0
Reads r old (Ok a) new = r old ≡ Some (a, new)
Reads r old (Err fault.Syntax) new = r old ≡ None
Reads r old (Err fault.NoMemory) new = ⊤

-- the reader reads exactly what the spelling allows, where what follows cannot go on with it
pub record Exact {A : Type 0} (r : Reader A) (p : Spelling A) (stops : List Lexeme → Type 0) : Type 0 where
  pub sound : (tokens rest : List Lexeme) (a : A) → r tokens ≡ Some (a, rest) → (us : List Lexeme) × (tokens ≡ us ++ rest) × p a us
  pub complete : (us rest : List Lexeme) (a : A) → p a us → stops rest → r (us ++ rest) ≡ Some (a, rest)
