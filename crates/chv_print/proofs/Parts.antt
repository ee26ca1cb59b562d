-- Parts of a text, each cut into its tokens wherever something stands behind it that ends a token.
use Rattle.std.specs.Prelude.{ℕ, ◌==◌, ◌&&◌, ◌||◌, Bool, true, false, List, [], ◌∷◌, ◌++◌, ◌≡◌, IsTrue, codes}
use Rattle.std.proofs.Common.{refl, ap, ◌∙◌, subst, append_assoc, append-nil, inl, inr}
use Rattle.std.proofs.lemmas.Bool.{eqb-true}
use Rattle.std.proofs.lemmas.Bool.Decides.{eqb_tells}
use Rattle.chv_ast.specs.Lexemes.{Lexeme}
use Rattle.chv_ast.specs.declared.token.TokenKind.{TokenKind}
use Rattle.chv_ast.specs.declared.token.TokenKind.TheVariants as kind
use Rattle.chv_lex.specs.Bytes.{begins}
use Rattle.chv_lex.specs.Spellings.{IsToken, is_sign, is_sign_byte, is_sign_pair, goes_on}
use Rattle.chv_print.proofs.Lexed.{Lexed, Nothing, Space, Then}

-- what ends every token that it stands behind: nothing, a space, `(`, `)` or `,`
abbrev pub ends_tokens : List ℕ → Bool
ends_tokens [] = true
ends_tokens (byte ∷ bytes) = (byte == 32) || ((byte == 40) || ((byte == 41) || (byte == 44)))

-- a text is cut into these lexemes, wherever something stands behind it that ends tokens
pub record IsPart (text : List ℕ) (us : List Lexeme) : Type 0 where
  pub lexed : (behind : List ℕ) (vs : List Lexeme) → IsTrue (ends_tokens behind) → Lexed behind vs → Lexed (text ++ behind) (us ++ vs)

-- a part by itself
pub lexed_alone : (text : List ℕ) (us : List Lexeme) → IsPart text us → Lexed text us
lexed_alone text us h =
    subst (λ vs. Lexed text vs) (append-nil us) (subst (λ x. Lexed x (us ++ [])) (append-nil text) (h.lexed [] [] refl Nothing))

ends-append : (a b : List ℕ) → IsTrue (ends_tokens a) → IsTrue (ends_tokens b) → IsTrue (ends_tokens (a ++ b))
ends-append [] b h k = k
ends-append (byte ∷ bytes) b h k = h

-- a text that ends the tokens in front of it
pub record EndsTokens (text : List ℕ) : Type 0 where
  pub is : IsTrue (ends_tokens text)

pub ends_both : {a b : List ℕ} → EndsTokens a → EndsTokens b → EndsTokens (a ++ b)
ends_both {a} {b} h k = record { is = ends-append a b h.is k.is }

-- two parts, of which the second one ends the tokens of the first
pub part_then : {a b : List ℕ} {us vs : List Lexeme} → IsPart a us → IsTrue (ends_tokens b) → IsPart b vs → IsPart (a ++ b) (us ++ vs)
part_then {a} {b} {us} {vs} h e k = record {
  lexed = λ behind ws t l. rw (append_assoc a b behind, append_assoc us vs ws)
      (h.lexed (b ++ behind) (vs ++ ws) (ends-append b behind e t) (k.lexed behind ws t l));
}

-- a space in front
pub part_spaced : {a : List ℕ} {us : List Lexeme} → IsPart a us → IsPart (32 ∷ a) us
part_spaced {a} {us} h = record { lexed = λ behind vs t l. Space (a ++ behind) (us ++ vs) (h.lexed behind vs t l) }

-- no text, and no token
pub part_empty : IsPart [] []
part_empty = record { lexed = λ behind vs t l. l }

-- a test that none of the bytes passes that end tokens
pub begins_none : (test : ℕ → Bool) (text : List ℕ) → test 32 ≡ false → test 40 ≡ false → test 41 ≡ false → test 44 ≡ false
    → IsTrue (ends_tokens text) → begins test text ≡ false
begins_none test [] p q r s h = refl
begins_none test (byte ∷ bytes) p q r s h = elim (eqb_tells byte 32) [
  | inl is ↦ ap test is.1 ∙ p
  | inr no32 ↦ elim (eqb_tells byte 40) [
    | inl is ↦ ap test is.1 ∙ q
    | inr no40 ↦ elim (eqb_tells byte 41) [
      | inl is ↦ ap test is.1 ∙ r
      | inr no41 ↦ ap test (eqb-true byte 44 (rw (no32.0, no40.0, no41.0) at h)) ∙ s
    ]
  ]
]

-- one token
pub part_token : (kind : TokenKind) (spelling : List ℕ) → ((behind : List ℕ) → IsTrue (ends_tokens behind) → IsToken kind spelling behind)
    → IsPart spelling (record { kind = kind; text = spelling } ∷ [])
part_token kind spelling t = record {
  lexed = λ behind vs e l. Then kind (spelling ++ behind) spelling behind vs refl (t behind e) l;
}

-- a sign, written with these bytes
abbrev pub sign_token : List ℕ → Lexeme
sign_token spelling = record { kind = kind.Sign; text = spelling }

-- a word, written with these bytes
abbrev pub word_token : List ℕ → Lexeme
word_token spelling = record { kind = kind.Word; text = spelling }

pub part_sign : (spelling : List ℕ) → IsTrue (is_sign spelling)
    → goes_on spelling 32 ≡ false → goes_on spelling 40 ≡ false → goes_on spelling 41 ≡ false → goes_on spelling 44 ≡ false
    → IsPart spelling (sign_token spelling ∷ [])
part_sign spelling h p q r s = part_token kind.Sign spelling (λ behind e. (h, begins_none (goes_on spelling) behind p q r s e))

never : (a b c : Bool) → c ≡ false → (((a && false) || (b && false)) || c) ≡ false
never true true c h = h
never true false c h = h
never false true c h = h
never false false c h = h

opening_goes_on : (behind : List ℕ) → begins (goes_on (40 ∷ [])) behind ≡ false
unfolding is_sign_pair
opening_goes_on [] = refl
opening_goes_on (byte ∷ bytes) = never (byte == 61) (byte == 62) false refl

minus_goes_on : (behind : List ℕ) → begins (λ next. next == 45) behind ≡ false → begins (goes_on (45 ∷ [])) behind ≡ false
unfolding is_sign_pair
minus_goes_on [] h = refl
minus_goes_on (byte ∷ bytes) h = never (byte == 61) (byte == 62) (byte == 45) h

-- `(` in front of any part
pub part_open : {a : List ℕ} {us : List Lexeme} → IsPart a us → IsPart (40 ∷ a) (sign_token (40 ∷ []) ∷ us)
unfolding is_sign_byte
part_open {a} {us} h = record {
  lexed = λ behind vs e l.
      Then kind.Sign (40 ∷ a ++ behind) (40 ∷ []) (a ++ behind) (us ++ vs) refl (refl, opening_goes_on (a ++ behind)) (h.lexed behind vs e l);
}

-- `-` in front of a part that does not begin with another one
pub part_minus : {a : List ℕ} {us : List Lexeme} → IsPart a us
    → ((behind : List ℕ) → begins (λ next. next == 45) (a ++ behind) ≡ false)
    → IsPart (45 ∷ a) (sign_token (45 ∷ []) ∷ us)
unfolding is_sign_byte
part_minus {a} {us} h differs = record {
  lexed = λ behind vs e l.
      Then kind.Sign (45 ∷ a ++ behind) (45 ∷ []) (a ++ behind) (us ++ vs) refl (refl, minus_goes_on (a ++ behind) (differs behind))
      (h.lexed behind vs e l);
}

pub part_comma : IsPart (codes ",") (sign_token (codes ",") ∷ [])
unfolding is_sign_byte is_sign_pair
part_comma = part_sign (codes ",") refl refl refl refl refl

pub part_closing : IsPart (codes ")") (sign_token (codes ")") ∷ [])
unfolding is_sign_byte is_sign_pair
part_closing = part_sign (codes ")") refl refl refl refl refl
