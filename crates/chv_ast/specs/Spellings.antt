-- How a value is written, one part behind the other.
use Rattle.std.specs.Prelude.{ℕ, ◌≡◌, List, [], ◌∷◌, ◌++◌, Bool, Option, Some, None, codes, IsTrue}
use Rattle.chv_ast.specs.Lexemes.{Lexeme, is_keyword, is_word, is_sign, name_of, digits_of, text_of}

-- which tokens write which value
abbrev pub Spelling : Type 0 → Type 1
Spelling A = A → List Lexeme → Type 0

-- one value is written, and behind it a second one that may depend on it
pub record Then {A B : Type 0} (p : Spelling A) (q : A → Spelling B) (value : B) (tokens : List Lexeme) : Type 0 where
  pub first : A
  pub us : List Lexeme
  pub vs : List Lexeme
  pub split : tokens ≡ us ++ vs
  pub before : p first us
  pub behind : q first value vs

infixl 1 ◌>>=◌ ◌>>◌
abbrev pub ◌>>=◌ : {A B : Type 0} → Spelling A → (A → Spelling B) → Spelling B
p >>= q = Then p q

abbrev pub ◌>>◌ : {A B : Type 0} → Spelling A → Spelling B → Spelling B
p >> q = Then p (λ _. q)

-- the value is this one, and no token writes it
abbrev pub give : {A : Type 0} → A → Spelling A
give a value tokens = (value ≡ a) × (tokens ≡ [])

-- one token of which the test is true
pub record Marked (test : Lexeme → Bool) (value : Unit {0}) (tokens : List Lexeme) : Type 0 where
  pub token : Lexeme
  pub alone : tokens ≡ token ∷ []
  pub marked : IsTrue (test token)

-- the value that one token stands for
pub record Meant {A : Type 0} (meaning : Lexeme → Option A) (value : A) (tokens : List Lexeme) : Type 0 where
  pub token : Lexeme
  pub alone : tokens ≡ token ∷ []
  pub meant : meaning token ≡ Some value

-- a keyword, in any letter case
abbrev pub keyword : List ℕ → Spelling (Unit {0})
keyword word = Marked (is_keyword word)

-- a word that is matched letter by letter
abbrev pub word : List ℕ → Spelling (Unit {0})
word letters = Marked (is_word letters)

-- a sign
abbrev pub sign : List ℕ → Spelling (Unit {0})
sign text = Marked (is_sign text)

-- a name
abbrev pub name : Spelling (List ℕ)
name = Meant name_of

-- decimal digits
abbrev pub whole : Spelling (List ℕ)
whole = Meant digits_of

-- a text in quotes
abbrev pub quoted : Spelling (List ℕ)
quoted = Meant text_of

-- what may be absent
abbrev pub optional : {A : Type 0} → Spelling A → Spelling (Option A)
optional p None tokens = tokens ≡ []
optional p (Some value) tokens = p value tokens

-- one value or more, with a comma between two of them
pub data Listed {A : Type 0} (p : Spelling A) : List A → List Lexeme → Type 0 where
  One : (value : A) (us : List Lexeme) → p value us → Listed p (value ∷ []) us
  More : (value : A) (values : List A) (comma : Lexeme) (us vs : List Lexeme)
      → p value us → IsTrue (is_sign (codes ",") comma) → Listed p values vs
      → Listed p (value ∷ values) (us ++ comma ∷ vs)

-- values in parentheses
abbrev pub enclosed : {A : Type 0} → Spelling A → Spelling A
enclosed p = do
  sign (codes "(")
  value ← p
  sign (codes ")")
  give value
